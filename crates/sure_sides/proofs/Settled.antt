-- What the float tests say of one value or vector: a side is settled, a vector is not the origin, no component is above 2. Assumes nothing.
use mathlib.Core.Path.{◌≡◌, refl, sym, ◌∙◌, subst}
use mathlib.Core.Bool.{Bool, true, false, not, cond, ◌&&◌, ◌||◌}
use Prim.Native.Nat.{ℕ, zero, suc, ◌+◌, ◌*◌, ◌≤◌, ◌<◌}
use native.Mathlib.Nat.{zero-lt-suc, zero-mul}
use native.Mathlib.Omega.{arith}
use lib.IntN.{ℤ}
use lib.Dec.{T, ltb, eqb, ltb→lt, lt→ltb, nltb→le, eqb→eq, lit≤}
use lib.Ieee.{Float, nan, inf, fin, of_bits, up, down, neg, lt, le, eq}
use lib.Ieee.Fits.{and_l, and_r}
use Rattle.numbers.specs.F64 as F
use Rattle.numbers.specs.Near.{abs}
use Rattle.numbers.proofs.Rounds.{is_true, is_false}
use Rattle.vec3.specs.declared.Vec3.{Vec3}
use Rattle.vec3.specs.Vec.{origin, same, dot}
use Rattle.base.specs.Sides.{settles_right, settles_left}
use Rattle.fractions.proofs.Ops.{le_cross}
use Rattle.fractions.proofs.Round.{Plus}
use Rattle.fractions.proofs.Sizes.{Fin, Size}
use Rattle.exact_angles.specs.Steady.{none}
use Rattle.exact_angles.proofs.Signs.{SLe}
use Rattle.exact_angles.proofs.Adds.{signed_of}
use Rattle.sizes.proofs.Unit.{Sized, dot_size}
use Rattle.sure_sides.specs.Sure.{tame}
use Rattle.sure_sides.proofs.Lengths.{above_limit, below_limit}

-- ---- what lies beyond 10 * 2 ^ -52 settles its side
over_limit : (m : ℕ) (e : ℤ) → 5 * 1 * down e < m * up e * 2251799813685248 → le (fin false m e) F.ten_epsilon ≡ false
unfolding le lt eq of_bits
over_limit m e h =
    is_false (ltb a b || (eqb a b && (true || eqb a 0))) (λ t. go (ltb a b) (eqb a b) (ltb→lt a b) (eqb→eq a b) t)
  where
    a : ℕ
    a = m * up e * 2251799813685248

    b : ℕ
    b = 5 * 1 * down e

    go : (p q : Bool) → (T p → a < b) → (T q → a ≡ b) → T (p || (q && (true || eqb a 0))) → ⊥
    go true q f g t = both a b h (f tt)
      where
        both : (a b : ℕ) → b < a → a < b → ⊥
        both a b h k = omega arith
    go false true f g t = clash a b h (g tt)
      where
        clash : (a b : ℕ) → b < a → a ≡ b → ⊥
        clash a b h e = omega arith
    go false false f g t = t

pub plus_is : (m : ℕ) (e : ℤ) → lt (fin false m e) F.zero ≡ false
unfolding lt of_bits
plus_is m e = is_false (ltb (m * up e * 1) (0 * 1 * down e)) (λ (t : T (ltb (m * up e * 1) (0 * 1 * down e))). omega (arith, ltb→lt (m * up e * 1) (0 * 1 * down e) t))

some : (a d : ℕ) → 5 * 1 * d < a * 2251799813685248 → 0 < a
some zero d h = absurd (omega arith)
some (suc a) d h = zero-lt-suc a

minus_is : (m : ℕ) (e : ℤ) → 0 < m * up e → lt (fin true m e) F.zero ≡ true
unfolding lt of_bits
minus_is m e h = is_true (ltb 0 (m * up e * 1 + 0 * 1 * down e)) (lt→ltb 0 (m * up e * 1 + 0 * 1 * down e) (more (m * up e) (0 * 1 * down e) h))
  where
    more : (a b : ℕ) → 0 < a → 0 < a * 1 + b
    more a b h = omega arith

zero_below : (m : ℕ) (e : ℤ) → 0 < m * up e → lt F.zero (fin false m e) ≡ true
unfolding lt of_bits
zero_below m e h = is_true (ltb (0 * 1 * down e) (m * up e * 1)) (lt→ltb (0 * 1 * down e) (m * up e * 1) (more (m * up e) (down e) h))
  where
    more : (a d : ℕ) → 0 < a → 0 * 1 * d < a * 1
    more a d h = omega (arith, zero-mul d)

pub settled_left : (x : Float) → Fin x → lt F.ten_epsilon x ≡ true → settles_left x ≡ true
unfolding abs
settled_left nan f h = absurd f
settled_left (inf s) f h = absurd f
settled_left (fin true m e) f h = absurd (subst T (sym h ∙ never m e) tt)
  where
    never : (m : ℕ) (e : ℤ) → lt F.ten_epsilon (fin true m e) ≡ false
    never m e = unfold lt of_bits in refl
settled_left (fin false m e) f h =
    let l = told m e h in
    rw (plus_is m e, over_limit m e l, zero_below m e (some (m * up e) (down e) l)) refl
  where
    told : (m : ℕ) (e : ℤ) → lt F.ten_epsilon (fin false m e) ≡ true → 5 * 1 * down e < m * up e * 2251799813685248
    told m e h = unfold lt of_bits in ltb→lt (5 * 1 * down e) (m * up e * 2251799813685248) (subst T (sym h) tt)

pub settled_right : (x : Float) → Fin x → lt x (neg F.ten_epsilon) ≡ true → settles_right x ≡ true
unfolding abs
settled_right nan f h = absurd f
settled_right (inf s) f h = absurd f
settled_right (fin false m e) f h = absurd (subst T (sym h ∙ never m e) tt)
  where
    never : (m : ℕ) (e : ℤ) → lt (fin false m e) (neg F.ten_epsilon) ≡ false
    never m e = unfold lt neg of_bits in refl
settled_right (fin true m e) f h =
    let l = told m e h in
    rw (minus_is m e (some (m * up e) (down e) l), turned m e, over_limit m e l, above m e) refl
  where
    told : (m : ℕ) (e : ℤ) → lt (fin true m e) (neg F.ten_epsilon) ≡ true → 5 * 1 * down e < m * up e * 2251799813685248
    told m e h = unfold lt neg of_bits in ltb→lt (5 * 1 * down e) (m * up e * 2251799813685248) (subst T (sym h) tt)

    above : (m : ℕ) (e : ℤ) → lt F.zero (fin true m e) ≡ false
    above m e = unfold lt of_bits in refl

    turned : (m : ℕ) (e : ℤ) → neg (fin true m e) ≡ fin false m e
    turned m e = unfold neg in refl

-- ---- the zero vector has no such product
nought : (x : Float) → eq x F.zero ≡ true → Size x 0
unfolding eq of_bits
nought nan h = absurd (subst T (sym h) tt)
nought (inf s) h = absurd (subst T (sym h) tt)
nought (fin s m e) h = record { finite = tt; small = at (m * up e) (down e) (eqb→eq (m * up e * 1) (0 * 1 * down e) (and_l (eqb (m * up e * 1) (0 * 1 * down e)) _ (subst T (sym h) tt))) }
  where
    at : (a d : ℕ) → a * 1 ≡ 0 * 1 * d → a * 1 ≤ 0 * d
    at a d h = omega (arith, zero-mul d)

empty : (u c : Vec3) → same u origin ≡ true → Sized c 8 → Size (dot u c) 0
empty u c h k =
    let x = nought u.x (is_true (eq u.x F.zero) (and_l (eq u.x F.zero) (eq u.y F.zero) (and_l (eq u.x F.zero && eq u.y F.zero) (eq u.z F.zero) (subst T (sym h) tt)))) in
    let y = nought u.y (is_true (eq u.y F.zero) (and_r (eq u.x F.zero) (eq u.y F.zero) (and_l (eq u.x F.zero && eq u.y F.zero) (eq u.z F.zero) (subst T (sym h) tt)))) in
    let z = nought u.z (is_true (eq u.z F.zero) (and_r (eq u.x F.zero && eq u.y F.zero) (eq u.z F.zero) (subst T (sym h) tt))) in
    dot_size u c 0 8 (lit≤ tt) (lit≤ tt) (record { x_is = x; y_is = y; z_is = z }) k

size_none : (x : Float) → Size x 0 → SLe (signed_of x) none 0 × SLe none (signed_of x) 0
size_none nan s = absurd s.finite
size_none (inf u) s = absurd s.finite
size_none (fin false m e) s = (up_at (m * up e) (down e) s.small, down_at (m * up e) (down e))
  where
    up_at : (a d : ℕ) → a * 1 ≤ 0 * d → (a * 1 + 0 * d) * (1 * 1) * 9007199254740992 ≤ (0 * 1 + 0 * 1) * (d * 1) * 9007199254740992 + 0 * (d * 1 * (1 * 1))
    up_at a d h = omega arith

    down_at : (a d : ℕ) → (0 * 1 + 0 * 1) * (d * 1) * 9007199254740992 ≤ (a * 1 + 0 * d) * (1 * 1) * 9007199254740992 + 0 * (1 * 1 * (d * 1))
    down_at a d = omega arith
size_none (fin true m e) s = (up_at (m * up e) (down e), down_at (m * up e) (down e) s.small)
  where
    up_at : (a d : ℕ) → (0 * 1 + 0 * 1) * (1 * d) * 9007199254740992 ≤ (0 * d + a * 1) * (1 * 1) * 9007199254740992 + 0 * (1 * 1 * (1 * d))
    up_at a d = omega arith

    down_at : (a d : ℕ) → a * 1 ≤ 0 * d → (0 * d + a * 1) * (1 * 1) * 9007199254740992 ≤ (0 * 1 + 0 * 1) * (1 * d) * 9007199254740992 + 0 * (1 * d * (1 * 1))
    down_at a d h = omega arith

is_not_true : (b : Bool) → (b ≡ true → ⊥) → b ≡ false
is_not_true true h = absurd (h refl)
is_not_true false h = refl

module _ (t : Float) (p : Plus t) (u c : Vec3) (k : Sized c 8) where
  pub whole_left : lt t (dot u c) ≡ true → same u origin ≡ false
  whole_left h = is_not_true (same u origin) (λ e. let s = empty u c e k in above_limit t (dot u c) 0 p s.finite (omega arith) h (size_none (dot u c) s).0)

  pub whole_right : lt (dot u c) (neg t) ≡ true → same u origin ≡ false
  whole_right h = is_not_true (same u origin) (λ e. let s = empty u c e k in below_limit t (dot u c) 0 p s.finite (omega arith) h (size_none (dot u c) s).1)

-- ---- what the test of sizes says
at_most_lem : (x : Float) → le (abs x) F.two ≡ true → Size x 2
unfolding abs
at_most_lem nan h = absurd (never h)
  where
    never : le (cond (lt nan F.zero) (neg nan) nan) F.two ≡ true → ⊥
    never h = unfold le lt eq in subst T (sym h) tt
at_most_lem (inf true) h = absurd (never h)
  where
    never : le (cond (lt (inf true) F.zero) (neg (inf true)) (inf true)) F.two ≡ true → ⊥
    never h = unfold le lt eq neg of_bits in subst T (sym h) tt
at_most_lem (inf false) h = absurd (never h)
  where
    never : le (cond (lt (inf false) F.zero) (neg (inf false)) (inf false)) F.two ≡ true → ⊥
    never h = unfold le lt eq neg of_bits in subst T (sym h) tt
at_most_lem (fin false m e) h = under m e (subst (λ (b : Bool). le (cond b (neg (fin false m e)) (fin false m e)) F.two ≡ true) (plus_is m e) h)
  where
    under : (m : ℕ) (e : ℤ) → le (fin false m e) F.two ≡ true → Size (fin false m e) 2
    under m e h = unfold of_bits in record { finite = tt; small = at (m * up e) (down e) (le_cross (fin false m e) F.two tt tt (subst T (sym h) tt)) }
      where
        at : (a d : ℕ) → a * 1 ≤ 1 * 2 * d → a * 1 ≤ 2 * d
        at a d h = omega arith
at_most_lem (fin true m e) h = go (lt (fin true m e) F.zero) h
  where
    flat : (m : ℕ) (e : ℤ) → le (fin true m e) F.two ≡ true → lt (fin true m e) F.zero ≡ false → Size (fin true m e) 2
    flat m e h k = unfold lt of_bits in record { finite = tt; small = at (m * up e) (down e) (nltb→le 0 (m * up e * 1 + 0 * 1 * down e) (subst (λ (b : Bool). T (not b)) (sym k) tt)) }
      where
        at : (a d : ℕ) → a * 1 + 0 * 1 * d ≤ 0 → a * 1 ≤ 2 * d
        at a d h = omega arith

    under : (m : ℕ) (e : ℤ) → le (neg (fin true m e)) F.two ≡ true → Size (fin true m e) 2
    under m e h = unfold neg of_bits in record { finite = tt; small = at (m * up e) (down e) (le_cross (fin false m e) F.two tt tt (subst T (sym h) tt)) }
      where
        at : (a d : ℕ) → a * 1 ≤ 1 * 2 * d → a * 1 ≤ 2 * d
        at a d h = omega arith

    go' : (b : Bool) → lt (fin true m e) F.zero ≡ b → le (cond b (neg (fin true m e)) (fin true m e)) F.two ≡ true → Size (fin true m e) 2
    go' true k h = under m e h
    go' false k h = flat m e h k

    go : (b : Bool) → le (cond (lt (fin true m e) F.zero) (neg (fin true m e)) (fin true m e)) F.two ≡ true → Size (fin true m e) 2
    go b h = go' (lt (fin true m e) F.zero) refl h

pub tame_sized : (v : Vec3) → tame v ≡ true → Sized v 2
tame_sized v h =
    let t : T (tame v) = subst T (sym h) tt in
    let a = le (abs v.x) F.two in
    let b = le (abs v.y) F.two in
    let c = le (abs v.z) F.two in
    record {
      x_is = at_most_lem v.x (is_true a (and_l a b (and_l (a && b) c t)));
      y_is = at_most_lem v.y (is_true b (and_r a b (and_l (a && b) c t)));
      z_is = at_most_lem v.z (is_true c (and_r (a && b) c t));
    }
