-- A float operation on values that are near fractions is near the exact operation on these. Assumes nothing.
use mathlib.Core.Path.{◌≡◌, refl, sym, ap, subst}
use mathlib.Core.Bool.{Bool, true, false, cond, ◌&&◌, ◌||◌}
use Prim.Native.Nat.{ℕ, zero, suc, ◌+◌, ◌-◌, ◌*◌, ◌^◌, ◌≤◌, ◌<◌}
use native.Mathlib.Nat.{le_of_eq, zero-mul, mul-pos, zero-lt-suc, add_comm, mul-le-mul, mul-le-mul_right}
use native.Mathlib.Omega.{arith}
use lib.Dec.{T, ltb, eqb, ltb→lt, eqb→eq, eqb-suc-zero}
use lib.Ieee.{Float, nan, inf, fin, binary64, up, down, round, add, sub, mul, div, le}
use lib.Ieee.Fits.{down_pos}
use lib.Ieee.Order.{round_mono}
use Rattle.fractions.specs.Frac.{Frac, ◌over◌, ◌⊞◌, ◌⊟◌, ◌⊠◌, ◌⧄◌, ◌≼◌, magnitude}
use Rattle.fractions.proofs.Frac.{Le, Pos, le_trans, le_mul, mul_le, le_add, le_div, le_grow}
use Rattle.fractions.proofs.Round.{Plus, Near, round_near}

pub den_pos : (x : Float) → Pos (magnitude x)
den_pos nan = zero-lt-suc 0
den_pos (inf s) = zero-lt-suc 0
den_pos (fin s m e) = down_pos e

-- ---- each operation, against the exact one on the same values
pub mul_op : (x y : Float) (j : ℕ) → Plus x → Plus y → j ≤ 20 → (magnitude x ⊠ magnitude y).num ≤ 2 ^ j * (magnitude x ⊠ magnitude y).den
    → Near (mul binary64 x y) (magnitude x ⊠ magnitude y) (2 ^ j)
unfolding mul
mul_op nan y j p q s h = absurd p
mul_op (inf t) y j p q s h = absurd p
mul_op (fin true m e) y j p q s h = absurd p
mul_op (fin false m e) nan j p q s h = absurd q
mul_op (fin false m e) (inf t) j p q s h = absurd q
mul_op (fin false m e) (fin true n d) j p q s h = absurd q
mul_op (fin false m e) (fin false n d) j p q s h = round_near (m * up e * (n * up d)) (down e * down d) j (mul-pos (down_pos e) (down_pos d)) s h

pub add_op : (x y : Float) (j : ℕ) → Plus x → Plus y → j ≤ 20 → (magnitude x ⊞ magnitude y).num ≤ 2 ^ j * (magnitude x ⊞ magnitude y).den
    → Near (add binary64 x y) (magnitude x ⊞ magnitude y) (2 ^ j)
unfolding add
add_op nan y j p q s h = absurd p
add_op (inf t) y j p q s h = absurd p
add_op (fin true m e) y j p q s h = absurd p
add_op (fin false m e) nan j p q s h = absurd q
add_op (fin false m e) (inf t) j p q s h = absurd q
add_op (fin false m e) (fin true n d) j p q s h = absurd q
add_op (fin false m e) (fin false n d) j p q s h = round_near (m * up e * down d + n * up d * down e) (down e * down d) j (mul-pos (down_pos e) (down_pos d)) s h

not_true : (b : Bool) → (T b → ⊥) → b ≡ false
not_true true f = absurd (f tt)
not_true false f = refl

below_zero : (u : ℕ) → 0 < zero * u → ⊥
below_zero u h = omega (arith, zero-mul u)

-- what `div` is, for a divisor above 0
pub div_is : (x y : Float) → Plus x → Plus y → 0 < (magnitude y).num → div binary64 x y ≡ round binary64 false ((magnitude x).num * (magnitude y).den) ((magnitude y).num * (magnitude x).den)
unfolding div
div_is nan y p q o = absurd p
div_is (inf t) y p q o = absurd p
div_is (fin true m e) y p q o = absurd p
div_is (fin false m e) nan p q o = absurd q
div_is (fin false m e) (inf t) p q o = absurd q
div_is (fin false m e) (fin true n d) p q o = absurd q
div_is (fin false m e) (fin false zero d) p q o = absurd (below_zero (up d) o)
div_is (fin false m e) (fin false (suc n) d) p q o =
    ap (λ (b : Bool). cond b (cond (eqb m 0) nan (inf false)) (round binary64 false (m * up e * down d) (suc n * up d * down e))) (eqb-suc-zero n)

pub div_op : (x y : Float) → Plus x → Plus y → 0 < (magnitude y).num → magnitude x ≼ magnitude y → Near (div binary64 x y) (magnitude x ⧄ magnitude y) 1
div_op x y p q o h =
    subst (λ (z : Float). Near z (magnitude x ⧄ magnitude y) 1) (sym (div_is x y p q o))
    (round_near ((magnitude x).num * (magnitude y).den) ((magnitude y).num * (magnitude x).den) 0 (mul-pos o (den_pos x)) (omega arith) (omega (arith, h)))

pub sub_is : (x y : Float) → Plus x → Plus y → magnitude y ≼ magnitude x
    → sub binary64 x y ≡ round binary64 false ((magnitude x).num * (magnitude y).den - (magnitude y).num * (magnitude x).den) ((magnitude x).den * (magnitude y).den)
unfolding sub
sub_is nan y p q o = absurd p
sub_is (inf t) y p q o = absurd p
sub_is (fin true m e) y p q o = absurd p
sub_is (fin false m e) nan p q o = absurd q
sub_is (fin false m e) (inf t) p q o = absurd q
sub_is (fin false m e) (fin true n d) p q o = absurd q
sub_is (fin false m e) (fin false n d) p q o =
    let a = m * up e * down d in
    let b = n * up d * down e in
    let c = down e * down d in
    ap (λ (z : Bool). cond z (round binary64 true (b - a) c) (round binary64 false (a - b) c))
    (not_true (ltb a b) (λ (t : T (ltb a b)). let l : a < b = ltb→lt a b t in omega arith))

pub sub_op : (x y : Float) (j : ℕ) → Plus x → Plus y → j ≤ 20 → magnitude y ≼ magnitude x → (magnitude x ⊟ magnitude y).num ≤ 2 ^ j * (magnitude x ⊟ magnitude y).den
    → Near (sub binary64 x y) (magnitude x ⊟ magnitude y) (2 ^ j)
sub_op x y j p q s o h =
    subst (λ (z : Float). Near z (magnitude x ⊟ magnitude y) (2 ^ j)) (sym (sub_is x y p q o))
    (round_near ((magnitude x).num * (magnitude y).den - (magnitude y).num * (magnitude x).den) ((magnitude x).den * (magnitude y).den) j (mul-pos (den_pos x) (den_pos y)) s h)

-- ---- order
or_cases : (a b : Bool) (P : Type 0) → (T a → P) → (T b → P) → T (a || b) → P
or_cases true b P f g t = f tt
or_cases false b P f g t = g t

and_first : (a b : Bool) → T (a && b) → T a
and_first true b t = tt
and_first false b t = t

pub le_cross : (x y : Float) → Plus x → Plus y → T (le x y) → magnitude x ≼ magnitude y
unfolding le
le_cross nan y p q t = absurd p
le_cross (inf s) y p q t = absurd p
le_cross (fin true m e) y p q t = absurd p
le_cross (fin false m e) nan p q t = absurd q
le_cross (fin false m e) (inf s) p q t = absurd q
le_cross (fin false m e) (fin true n d) p q t = absurd q
le_cross (fin false m e) (fin false n d) p q t =
    let a = m * up e * down d in
    let b = n * up d * down e in
    or_cases (ltb a b) (eqb a b && (true || eqb a 0)) (a ≤ b)
    (λ (h : T (ltb a b)). let l : a < b = ltb→lt a b h in omega arith)
    (λ (h : T (eqb a b && (true || eqb a 0))). le_of_eq (eqb→eq a b (and_first (eqb a b) (true || eqb a 0) h))) t

-- a fraction of at most 1 is rounded to at most 1, and one of at least 1 to at least 1
abbrev unit : Float
unit = fin false 1 (lib.IntN.pos 0)

unit_is : round binary64 false 1 1 ≡ unit
unfolding round
unit_is = refl

pub round_le_one : (num den : ℕ) → 0 < den → num ≤ den → Plus (round binary64 false num den) → magnitude (round binary64 false num den) ≼ (1 over 1)
round_le_one num den D h p =
    le_cross (round binary64 false num den) unit p tt
    (subst (λ (z : Float). T (le (round binary64 false num den) z)) unit_is (round_mono binary64 num den 1 1 D (zero-lt-suc 0) (omega arith)))

pub round_ge_one : (num den : ℕ) → 0 < den → den ≤ num → Plus (round binary64 false num den) → (1 over 1) ≼ magnitude (round binary64 false num den)
round_ge_one num den D h p =
    le_cross unit (round binary64 false num den) tt p
    (subst (λ (z : Float). T (le z (round binary64 false num den))) unit_is (round_mono binary64 1 1 num den (zero-lt-suc 0) D (omega arith)))

-- ---- an operation on values that are near a and b, against the exact one on a and b
pub near_move : (x : Float) (a b : Frac) (e f : ℕ) → Pos a → Near x a e → Le a b f → Le b a f → Near x b (e + f)
near_move x a b e f A n h k = record {
  plus = n.plus;
  above = le_trans (magnitude x) a b e f A n.above h;
  below = swap (le_trans b a (magnitude x) f e A k n.below);
}
  where
    swap : Le b (magnitude x) (f + e) → Le b (magnitude x) (e + f)
    swap h = omega arith

pub near_mul : (x y : Float) (a b : Frac) (e f g h j : ℕ) → Near x a e → Near y b f → Pos a → j ≤ 20
    → (magnitude x ⊠ magnitude y).num ≤ 2 ^ j * (magnitude x ⊠ magnitude y).den
    → e * (magnitude y).num ≤ g * (magnitude y).den → f * a.num ≤ h * a.den
    → Near (mul binary64 x y) (a ⊠ b) (2 ^ j + (g + h))
near_mul x y a b e f g h j n m A s o c d =
    let X = magnitude x in
    let Y = magnitude y in
    let mid : Pos (a ⊠ Y) = mul-pos A (den_pos y) in
    let up : Le (X ⊠ Y) (a ⊠ b) (g + h) = le_trans (X ⊠ Y) (a ⊠ Y) (a ⊠ b) g h mid (le_mul X a Y e g n.above c) (mul_le Y b a f h m.above d) in
    let dn : Le (a ⊠ b) (X ⊠ Y) (h + g) = le_trans (a ⊠ b) (a ⊠ Y) (X ⊠ Y) h g mid (mul_le b Y a f h m.below d) (le_mul a X Y e g n.below c) in
    near_move (mul binary64 x y) (X ⊠ Y) (a ⊠ b) (2 ^ j) (g + h) (mul-pos (den_pos x) (den_pos y)) (mul_op x y j n.plus m.plus s o) up
    (subst (λ (z : ℕ). Le (a ⊠ b) (X ⊠ Y) z) (add_comm h g) dn)

pub near_add : (x y : Float) (a b : Frac) (e f j : ℕ) → Near x a e → Near y b f → j ≤ 20
    → (magnitude x ⊞ magnitude y).num ≤ 2 ^ j * (magnitude x ⊞ magnitude y).den
    → Near (add binary64 x y) (a ⊞ b) (2 ^ j + (e + f))
near_add x y a b e f j n m s o =
    let X = magnitude x in
    let Y = magnitude y in
    near_move (add binary64 x y) (X ⊞ Y) (a ⊞ b) (2 ^ j) (e + f) (mul-pos (den_pos x) (den_pos y)) (add_op x y j n.plus m.plus s o)
    (le_add X a Y b e f n.above m.above) (le_add a X b Y e f n.below m.below)

-- a quotient of at most 1 by a divisor of at least 1
pub near_div : (x y : Float) (a b : Frac) (e f : ℕ) → Near x a e → Near y b f → magnitude x ≼ magnitude y → a ≼ b
    → (magnitude y).den ≤ (magnitude y).num → b.den ≤ b.num → Near (div binary64 x y) (a ⧄ b) (1 + (e + f))
near_div x y a b e f n m l k o c =
    let X = magnitude x in
    let Y = magnitude y in
    let O : 0 < Y.num = le_trans' (den_pos y) o in
    near_move (div binary64 x y) (X ⧄ Y) (a ⧄ b) 1 (e + f) (mul-pos O (den_pos x)) (div_op x y n.plus m.plus O l)
    (le_div X a Y b e f n.above m.below o k) (le_div a X b Y e f n.below m.above c l)
  where
    le_trans' : {u v : ℕ} → 0 < u → u ≤ v → 0 < v
    le_trans' {u} {v} h k = omega arith

pub near_grow : (x : Float) (a : Frac) (e f : ℕ) → e ≤ f → Near x a e → Near x a f
near_grow x a e f h n = record { plus = n.plus; above = le_grow (magnitude x) a e f h n.above; below = le_grow a (magnitude x) e f h n.below }

-- ---- results on one side of 1
pub div_le_one : (x y : Float) → Plus x → Plus y → 0 < (magnitude y).num → magnitude x ≼ magnitude y → magnitude (div binary64 x y) ≼ (1 over 1)
div_le_one x y p q o l =
    subst (λ (z : Float). magnitude z ≼ (1 over 1)) (sym (div_is x y p q o))
    (round_le_one ((magnitude x).num * (magnitude y).den) ((magnitude y).num * (magnitude x).den) (mul-pos o (den_pos x)) l
    (subst Plus (div_is x y p q o) (div_op x y p q o l).plus))

pub mul_le_one : (x y : Float) → Plus x → Plus y → magnitude x ≼ (1 over 1) → magnitude y ≼ (1 over 1) → magnitude (mul binary64 x y) ≼ (1 over 1)
unfolding mul
mul_le_one nan y p q h k = absurd p
mul_le_one (inf s) y p q h k = absurd p
mul_le_one (fin true m e) y p q h k = absurd p
mul_le_one (fin false m e) nan p q h k = absurd q
mul_le_one (fin false m e) (inf s) p q h k = absurd q
mul_le_one (fin false m e) (fin true n d) p q h k = absurd q
mul_le_one (fin false m e) (fin false n d) p q h k =
    let l : m * up e * (n * up d) ≤ down e * down d = product (m * up e) (down e) (n * up d) (down d) h k in
    round_le_one (m * up e * (n * up d)) (down e * down d) (mul-pos (down_pos e) (down_pos d)) l
    (round_near (m * up e * (n * up d)) (down e * down d) 0 (mul-pos (down_pos e) (down_pos d)) (omega arith) (omega arith)).plus
  where
    product : (a b c d : ℕ) → a * 1 ≤ 1 * b → c * 1 ≤ 1 * d → a * c ≤ b * d
    product a b c d h k = omega (arith, mul-le-mul h k)

pub add_ge_one : (x y : Float) → Plus x → Plus y → (1 over 1) ≼ magnitude x → Plus (add binary64 x y) → (1 over 1) ≼ magnitude (add binary64 x y)
unfolding add
add_ge_one nan y p q h r = absurd p
add_ge_one (inf s) y p q h r = absurd p
add_ge_one (fin true m e) y p q h r = absurd p
add_ge_one (fin false m e) nan p q h r = absurd q
add_ge_one (fin false m e) (inf s) p q h r = absurd q
add_ge_one (fin false m e) (fin true n d) p q h r = absurd q
add_ge_one (fin false m e) (fin false n d) p q h r =
    round_ge_one (m * up e * down d + n * up d * down e) (down e * down d) (mul-pos (down_pos e) (down_pos d)) (total (m * up e) (down e) (n * up d * down e) (down d) h) r
  where
    total : (a b c d : ℕ) → 1 * b ≤ a * 1 → b * d ≤ a * d + c
    total a b c d h = omega (arith, mul-le-mul_right d h)
