-- Every distance is a double from 0 to 4 that is not -0.0; of two or three such ones the least hangs on no order. Assumes nothing.
use Prim.Native.Nat.{ℕ, ◌+◌, ◌*◌, ◌≤◌, ◌<◌}
use mathlib.Core.Path.{◌≡◌, refl, sym, ap, ◌∙◌, subst}
use mathlib.Core.Bool.{Bool, true, false, ◌||◌, ◌&&◌}
use native.Mathlib.Omega.{arith}
use lib.Dec.{T, ltb, eqb, lt→ltb, ltb→lt}
use lib.Ieee.{Float, nan, inf, fin, binary64, of_bits, up, down, fits, round, sum, add, mul, lt, le, eq}
use lib.Ieee.Fits.{add-fits, eq→eqb}
use Rattle.std.specs.Prelude.{if◌then◌else◌}
use Rattle.numbers.specs.F64 as F
use Rattle.numbers.proofs.Rounds.{is_true, is_false}
use Rattle.root.specs.Root.{in_units}
use Rattle.fractions.specs.Frac.{magnitude, ◌≼◌}
use Rattle.fractions.proofs.Round.{Plus}
use Rattle.fractions.proofs.Ops.{le_cross}
use Rattle.fractions.proofs.Sizes.{le_by, Upward, round_upward}
use Rattle.vec3.specs.declared.Vec3.{Vec3}
use Rattle.vec3.specs.Vec.{dot, minus}
use Rattle.chord_length.specs.declared.ChordLength.{ChordLength}
use Rattle.chord_length.specs.Chords.{squared, most, from_squared_length, least}
use Rattle.chord_length.specs.Chords as Chords
use Rattle.minor_arc.specs.declared.MinorArc.{MinorArc}
use Rattle.minor_arc.specs.Arcs.{within, location_of}
use Rattle.vec3.specs.Vec.{origin, same}
use Rattle.loop_distances.specs.Distances.{past_end, nearer_end, across_of, foot_of, by_foot, far_arc}
use Rattle.loop_distances.proofs.Order.{Held, lt_units, one_of}

-- ---- NaN, or without a minus: squares are, and their sums
abbrev Risen : Float → Type 0
Risen nan = Unit {0}
Risen (inf s) = Upward (inf s)
Risen (fin s m e) = Upward (fin s m e)

risen : (x : Float) → Upward x → Risen x
risen nan u = tt
risen (inf s) u = u
risen (fin s m e) u = u

square : (x : Float) → Risen (mul binary64 x x)
unfolding mul
square nan = tt
square (inf true) = tt
square (inf false) = tt
square (fin true m e) = risen (round binary64 false (m * up e * (m * up e)) (down e * down e)) (round_upward (m * up e * (m * up e)) (down e * down e))
square (fin false m e) = risen (round binary64 false (m * up e * (m * up e)) (down e * down e)) (round_upward (m * up e * (m * up e)) (down e * down e))

together : (x y : Float) → Risen x → Risen y → Risen (add binary64 x y)
unfolding add sum
together nan y a b = tt
together (inf true) y a b = absurd a
together (inf false) nan a b = tt
together (inf false) (inf true) a b = absurd b
together (inf false) (inf false) a b = tt
together (inf false) (fin t n d) a b = tt
together (fin true m e) y a b = absurd a
together (fin false m e) nan a b = tt
together (fin false m e) (inf t) a b = b
together (fin false m e) (fin true n d) a b = absurd b
together (fin false m e) (fin false n d) a b =
    risen (round binary64 false (m * up e * down d + n * up d * down e) (down e * down d)) (round_upward (m * up e * down d + n * up d * down e) (down e * down d))

squares : (v : Vec3) → Risen (dot v v)
squares v = together (F.◌⊕◌ (F.◌⊗◌ v.x v.x) (F.◌⊗◌ v.y v.y)) (F.◌⊗◌ v.z v.z) (together (F.◌⊗◌ v.x v.x) (F.◌⊗◌ v.y v.y) (square v.x) (square v.y)) (square v.z)

-- ---- what is below 4 of these is held, and so is 4
under_four : (x : Float) → Risen x → lt x F.four ≡ true → Plus x
unfolding lt of_bits
under_four nan r h = absurd (subst T (sym h) tt)
under_four (inf true) r h = absurd r
under_four (inf false) r h = absurd (subst T (sym h) tt)
under_four (fin true m e) r h = absurd r
under_four (fin false m e) r h = tt

pub four_held : Held F.four
unfolding of_bits fits
four_held = record { plus = tt; fit = tt }

pub zero_held : Held F.zero
unfolding of_bits fits
zero_held = record { plus = tt; fit = tt }

-- a double from 0 to 4
pub record Within (c : ChordLength) : Type 0 where
  pub held : Held c.0
  pub top : lt F.four c.0 ≡ false

four_top : lt F.four F.four ≡ false
unfolding lt of_bits
four_top = refl

zero_top : lt F.four F.zero ≡ false
unfolding lt of_bits
zero_top = refl

pub zero_within : Within (squared F.zero)
zero_within = record { held = zero_held; top = zero_top }

pub zero_units : in_units F.zero ≡ 0
unfolding of_bits
zero_units = refl

pub most_within : Within most
most_within = record { held = four_held; top = four_top }

not_both : (u v : ℕ) → ltb u v ≡ true → ltb v u ≡ false
not_both u v h = go (ltb v u) refl
  where
    go : (b : Bool) → ltb v u ≡ b → b ≡ false
    go false e = refl
    go true e =
        let p : u < v = ltb→lt u v (subst T (sym h) tt) in
        let q : v < u = ltb→lt v u (subst T (sym e) tt) in
        absurd (omega arith)

pub from_squared : (x : Float) → Risen x → T (fits binary64 x) → Within (from_squared_length x)
unfolding from_squared_length
from_squared x r t = go (lt x F.four) refl
  where
    go : (b : Bool) → lt x F.four ≡ b → Within (if b then squared x else most)
    go false e = most_within
    go true e =
        let h : Held x = record { plus = under_four x r e; fit = t } in
        record { held = h; top = lt_units F.four x four_held h ∙ not_both (in_units x) (in_units F.four) (sym (lt_units x F.four h four_held) ∙ e) }

pub chord_within : (p q : Vec3) → Within (Chords.chord p q)
chord_within p q =
    let d = minus p q in
    from_squared (dot d d) (squares d) (add-fits binary64 (F.◌⊕◌ (F.◌⊗◌ d.x d.x) (F.◌⊗◌ d.y d.y)) (F.◌⊗◌ d.z d.z))

pub least_within : (a b : ChordLength) → Within a → Within b → Within (least a b)
unfolding least
least_within a b h k = go (lt b.0 a.0)
  where
    go : (c : Bool) → Within (if c then b else a)
    go true = k
    go false = h

chosen : (c : Bool) {a b : ChordLength} → Within a → Within b → Within (if c then a else b)
chosen true h k = h
chosen false h k = k

pub ends_within : (a : MinorArc) (p : Vec3) → Within (nearer_end a p)
ends_within a p = least_within (Chords.chord p a.start) (Chords.chord p a.end) (chord_within p a.start) (chord_within p a.end)

pub far_within : (a : MinorArc) (p : Vec3) → Within (far_arc a p)
unfolding far_arc by_foot
far_within a p =
    chosen (past_end a p) (ends_within a p)
    (chosen (same (across_of a p) origin) (chord_within p a.start)
    (chosen (within (location_of a (foot_of a p))) (chord_within p (foot_of a p)) (ends_within a p)))

-- ---- the least of two, by their units
abbrev pub units : ChordLength → ℕ
units c = in_units c.0

pub same_chord : (a b : ChordLength) → Within a → Within b → units a ≡ units b → a ≡ b
same_chord a b h k e = ap squared (one_of a.0 b.0 h.held k.held e)

pub least_is : (a b : ChordLength) → Within a → Within b → least a b ≡ (if ltb (units b) (units a) then b else a)
unfolding least
least_is a b h k = ap (λ (c : Bool). if c then b else a) (lt_units b.0 a.0 k.held h.held)

-- the second where it is below, else the first
module _ (a b : ChordLength) (h : Within a) (k : Within b) where
  pub least_second : ltb (units b) (units a) ≡ true → least a b ≡ b
  least_second e = least_is a b h k ∙ ap (λ (c : Bool). if c then b else a) e

  pub least_first : ltb (units b) (units a) ≡ false → least a b ≡ a
  least_first e = least_is a b h k ∙ ap (λ (c : Bool). if c then b else a) e

is_below : (u v : ℕ) → ltb u v ≡ true → u < v
is_below u v e = ltb→lt u v (subst T (sym e) tt)

not_below : (u v : ℕ) → ltb u v ≡ false → v ≤ u
not_below u v e = le_by v u (λ (g : u < v). absurd (subst T e (lt→ltb u v g)))

-- which of two is taken in first does not matter
pub swap : (r a b : ChordLength) → Within r → Within a → Within b → least (least r a) b ≡ least (least r b) a
swap r a b R A B = go (ltb (units a) (units r)) (ltb (units b) (units r)) (ltb (units b) (units a)) (ltb (units a) (units b)) refl refl refl refl
  where
    first : {s : ChordLength} → least r a ≡ s → {t : ChordLength} → least s b ≡ t → least (least r a) b ≡ t
    first e g = ap (λ (x : ChordLength). least x b) e ∙ g

    second : {s : ChordLength} → least r b ≡ s → {t : ChordLength} → least s a ≡ t → t ≡ least (least r b) a
    second e g = sym (ap (λ (x : ChordLength). least x a) e ∙ g)

    go : (x y z w : Bool) → ltb (units a) (units r) ≡ x → ltb (units b) (units r) ≡ y → ltb (units b) (units a) ≡ z → ltb (units a) (units b) ≡ w
        → least (least r a) b ≡ least (least r b) a
    go true true true true p q e g = absurd (omega (arith, is_below (units b) (units a) e, is_below (units a) (units b) g))
    go true true true false p q e g = first (least_second r a R A p) (least_second a b A B e) ∙ second (least_second r b R B q) (least_first b a B A g)
    go true true false true p q e g = first (least_second r a R A p) (least_first a b A B e) ∙ second (least_second r b R B q) (least_second b a B A g)
    go true true false false p q e g =
        first (least_second r a R A p) (least_first a b A B e)
        ∙ same_chord a b A B (omega (arith, not_below (units b) (units a) e, not_below (units a) (units b) g))
        ∙ second (least_second r b R B q) (least_first b a B A g)
    go true false true w p q e g = absurd (omega (arith, is_below (units a) (units r) p, not_below (units b) (units r) q, is_below (units b) (units a) e))
    go true false false w p q e g = first (least_second r a R A p) (least_first a b A B e) ∙ second (least_first r b R B q) (least_second r a R A p)
    go false true z true p q e g = absurd (omega (arith, not_below (units a) (units r) p, is_below (units b) (units r) q, is_below (units a) (units b) g))
    go false true z false p q e g = first (least_first r a R A p) (least_second r b R B q) ∙ second (least_second r b R B q) (least_first b a B A g)
    go false false z w p q e g = first (least_first r a R A p) (least_first r b R B q) ∙ second (least_first r b R B q) (least_first r a R A p)

-- ---- the least of two is at most both, and one of them
pub least_below_first : (a b : ChordLength) → Within a → Within b → units (least a b) ≤ units a
least_below_first a b A B = go (ltb (units b) (units a)) refl
  where
    go : (c : Bool) → ltb (units b) (units a) ≡ c → units (least a b) ≤ units a
    go true e = subst (λ (x : ChordLength). units x ≤ units a) (sym (least_second a b A B e)) (omega (arith, is_below (units b) (units a) e))
    go false e = subst (λ (x : ChordLength). units x ≤ units a) (sym (least_first a b A B e)) (omega arith)

pub least_below_second : (a b : ChordLength) → Within a → Within b → units (least a b) ≤ units b
least_below_second a b A B = go (ltb (units b) (units a)) refl
  where
    go : (c : Bool) → ltb (units b) (units a) ≡ c → units (least a b) ≤ units b
    go true e = subst (λ (x : ChordLength). units x ≤ units b) (sym (least_second a b A B e)) (omega arith)
    go false e = subst (λ (x : ChordLength). units x ≤ units b) (sym (least_first a b A B e)) (not_below (units b) (units a) e)

-- ---- in the words of floats
le_itself : (x : Float) → Held x → le x x ≡ true
unfolding le lt eq
le_itself nan h = absurd h.plus
le_itself (inf s) h = absurd h.plus
le_itself (fin true m e) h = absurd h.plus
le_itself (fin false m e) h = or_true (ltb X X) (and_true (eqb X X) (is_true (eqb X X) (eq→eqb {a = X} refl)))
  where
    X : ℕ
    X = m * up e * down e

    or_true : (b : Bool) {c : Bool} → c ≡ true → b || c ≡ true
    or_true true e = refl
    or_true false e = e

    and_true : (b : Bool) → b ≡ true → b && true ≡ true
    and_true b e = rw e

pub le_of_units : (x y : Float) → Held x → Held y → in_units x ≤ in_units y → le x y ≡ true
unfolding le
le_of_units x y h k l = go (lt x y) refl
  where
    go : (b : Bool) → lt x y ≡ b → b || eq x y ≡ true
    go true e = refl
    go false e =
        let not : in_units y ≤ in_units x = not_below (in_units x) (in_units y) (sym (lt_units x y h k) ∙ e) in
        let one : x ≡ y = one_of x y h k (omega arith) in
        subst (λ (z : Float). eq x z ≡ true) one (eq_itself x h e one)
      where
        eq_itself : (x : Float) → Held x → lt x y ≡ false → x ≡ y → eq x x ≡ true
        eq_itself x h e o = last (lt x x) (eq x x) (subst (λ (z : Float). lt x z ≡ false) (sym o) e) (le_itself x h)
          where
            last : (b c : Bool) → b ≡ false → b || c ≡ true → c ≡ true
            last true c e g = absurd (subst T e tt)
            last false c e g = g

turned : (x y : Float) → Plus x → Plus y → magnitude x ≼ magnitude y → lt y x ≡ false
unfolding lt
turned nan y p q l = absurd p
turned (inf s) y p q l = absurd p
turned (fin true m e) y p q l = absurd p
turned (fin false m e) nan p q l = absurd q
turned (fin false m e) (inf s) p q l = absurd q
turned (fin false m e) (fin true n d) p q l = absurd q
turned (fin false m e) (fin false n d) p q l =
    is_false (ltb (n * up d * down e) (m * up e * down d)) (λ (t : T (ltb (n * up d * down e) (m * up e * down d))).
    let g : n * up d * down e < m * up e * down d = ltb→lt (n * up d * down e) (m * up e * down d) t in
    let k : m * up e * down d ≤ n * up d * down e = l in
    absurd (omega arith))

pub units_of_le : (x y : Float) → Held x → Held y → le x y ≡ true → in_units x ≤ in_units y
units_of_le x y h k e =
    not_below (in_units y) (in_units x) (sym (lt_units y x k h) ∙ turned x y h.plus k.plus (le_cross x y h.plus k.plus (subst T (sym e) tt)))

-- none is above 4
pub four_above : (c : ChordLength) → Within c → in_units c.0 ≤ in_units F.four
four_above c h = not_below (in_units F.four) (in_units c.0) (sym (lt_units F.four c.0 four_held h.held) ∙ h.top)
