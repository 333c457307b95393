-- Signed fractions scaled and turned, and float products and dot products against the exact ones. Assumes nothing.
use mathlib.Core.Path.{◌≡◌, sym, subst}
use mathlib.Core.Bool.{Bool, true, false, not}
use mathlib.Core.Logic.{◌⊎◌, inl, inr}
use Prim.Native.Nat.{ℕ, suc, ◌+◌, ◌*◌, ◌^◌, ◌≤◌, ◌<◌}
use native.Mathlib.Nat.{mul-pos, zero-lt-suc, mul-le-mul, mul-le-mul_right, pow-suc}
use native.Mathlib.Omega.{arith}
use lib.Dec.{leb, leb→le, nleb→lt, T, lit≤}
use lib.Pow.{pow_mono}
use lib.Ieee.{Float, nan, inf, fin, binary64, of_bits, up, down, round, add, mul, unlike}
use lib.Ieee.Fits.{down_pos}
use Rattle.numbers.specs.F64 as F
use Rattle.vec3.specs.declared.Vec3.{Vec3}
use Rattle.vec3.specs.Vec.{dot}
use Rattle.fractions.specs.Frac.{Frac, ◌over◌, ◌⊞◌, ◌⊠◌, magnitude}
use Rattle.fractions.proofs.Frac.{Le, Pos, le_add, le_grow, le_trans, mul_le}
use Rattle.fractions.proofs.Ops.{den_pos}
use Rattle.fractions.proofs.Sizes.{Fin, Size, mul_size, add_size}
use Rattle.exact_angles.specs.Steady.{Signed, Fractions, ◌⊹◌, none, lowest}
use Rattle.exact_angles.proofs.Signs.{SLe, fractions_add, s_trans, s_add, s_grow}
use Rattle.exact_angles.proofs.Adds.{signed_of, signed_pos, SNear, SSame, snear_same, round_snear, lowest_pos, add_signed}
use Rattle.sizes.proofs.Unit.{Sized}

pub le_split : (a b : ℕ) → (a ≤ b) ⊎ (b ≤ a)
le_split a b = go (leb a b) (leb→le a b) (nleb→lt a b)
  where
    go : (c : Bool) → (T c → a ≤ b) → (T (not c) → b < a) → (a ≤ b) ⊎ (b ≤ a)
    go true h k = inl (h tt)
    go false h k = inr (omega (arith, k tt))

-- ---- times a fraction, and with the sign turned
abbrev pub scale : Frac → Signed → Signed
scale f a = record { gain = f ⊠ a.gain; loss = f ⊠ a.loss }

abbrev pub turn : Bool → Signed → Signed
turn false a = a
turn true a = record { gain = a.loss; loss = a.gain }

pub scale_pos : (f : Frac) (a : Signed) → Pos f → Fractions a → Fractions (scale f a)
scale_pos f a h k = record { gain_is = mul-pos h k.gain_is; loss_is = mul-pos h k.loss_is }

turn_pos : (t : Bool) (a : Signed) → Fractions a → Fractions (turn t a)
turn_pos false a h = h
turn_pos true a h = record { gain_is = h.loss_is; loss_is = h.gain_is }

-- scaling goes through a sum, and through a turn and another scaling
spread : (f a b : Frac) → Le (f ⊠ (a ⊞ b)) (f ⊠ a ⊞ f ⊠ b) 0
spread f a b = omega arith

gather : (f a b : Frac) → Le (f ⊠ a ⊞ f ⊠ b) (f ⊠ (a ⊞ b)) 0
gather f a b = omega arith

scale_at : (f a b c d : Frac) (e g : ℕ) → Pos f → Pos a → Pos b → Pos c → Pos d → Le (a ⊞ b) (c ⊞ d) e → e * f.num ≤ g * f.den → Le (f ⊠ a ⊞ f ⊠ b) (f ⊠ c ⊞ f ⊠ d) g
scale_at f a b c d e g P A B C D h k =
    let x = f ⊠ a ⊞ f ⊠ b in
    let y = f ⊠ (a ⊞ b) in
    let z = f ⊠ (c ⊞ d) in
    let w = f ⊠ c ⊞ f ⊠ d in
    let l : Le x z (0 + g) = le_trans x y z 0 g (mul-pos P (mul-pos A B)) (gather f a b) (mul_le (a ⊞ b) (c ⊞ d) f e g h k) in
    le_grow x w (0 + g + 0) g (omega arith) (le_trans x z w (0 + g) 0 (mul-pos P (mul-pos C D)) l (spread f c d))

pub s_scale : (f : Frac) (a b : Signed) (e g : ℕ) → Pos f → Fractions a → Fractions b → SLe a b e → e * f.num ≤ g * f.den → SLe (scale f a) (scale f b) g
s_scale f a b e g P A B h k = scale_at f a.gain b.loss b.gain a.loss e g P A.gain_is B.loss_is B.gain_is A.loss_is h k

swap : (a b c d : Frac) (e : ℕ) → Le (a ⊞ b) (c ⊞ d) e → Le (b ⊞ a) (d ⊞ c) e
swap a b c d e h = omega arith

pub s_turn : (t : Bool) (a b : Signed) (e : ℕ) → SLe a b e → SLe b a e → SLe (turn t a) (turn t b) e
s_turn false a b e h k = h
s_turn true a b e h k = swap b.gain a.loss a.gain b.loss e k

-- ---- equal ones
same_le : (a b : Signed) → SSame a b → SLe a b 0
same_le a b h = omega arith

pub scale_out : (f : Frac) (a b : Signed) → SLe (scale f (a ⊹ b)) (scale f a ⊹ scale f b) 0
scale_out f a b = le_add (f ⊠ (a.gain ⊞ b.gain)) (f ⊠ a.gain ⊞ f ⊠ b.gain) (f ⊠ a.loss ⊞ f ⊠ b.loss) (f ⊠ (a.loss ⊞ b.loss)) 0 0 (spread f a.gain b.gain) (gather f a.loss b.loss)

pub scale_in : (f : Frac) (a b : Signed) → SLe (scale f a ⊹ scale f b) (scale f (a ⊹ b)) 0
scale_in f a b = le_add (f ⊠ a.gain ⊞ f ⊠ b.gain) (f ⊠ (a.gain ⊞ b.gain)) (f ⊠ (a.loss ⊞ b.loss)) (f ⊠ a.loss ⊞ f ⊠ b.loss) 0 0 (gather f a.gain b.gain) (spread f a.loss b.loss)

exchange : (f g : Frac) (t : Bool) (a : Signed) → SSame (scale f (turn t (scale g a))) (turn t (scale g (scale f a)))
exchange f g false a = go f.num f.den g.num g.den a.gain.num a.gain.den a.loss.num a.loss.den
  where
    go : (p q r s an ad bn bd : ℕ) → (p * (r * an) * (s * (q * bd)) + r * (p * bn) * (q * (s * ad))) * (s * (q * ad) * (q * (s * bd))) ≡ (r * (p * an) * (q * (s * bd)) + p * (r * bn) * (s * (q * ad))) * (q * (s * ad) * (s * (q * bd)))
    go p q r s an ad bn bd = omega arith
exchange f g true a = go f.num f.den g.num g.den a.loss.num a.loss.den a.gain.num a.gain.den
  where
    go : (p q r s an ad bn bd : ℕ) → (p * (r * an) * (s * (q * bd)) + r * (p * bn) * (q * (s * ad))) * (s * (q * ad) * (q * (s * bd))) ≡ (r * (p * an) * (q * (s * bd)) + p * (r * bn) * (s * (q * ad))) * (q * (s * ad) * (s * (q * bd)))
    go p q r s an ad bn bd = omega arith

flipped : (a b : Signed) → SSame a b → SSame b a
flipped a b h = sym h

-- a scaled by f is near b: then so are their products with a fraction g of at most w, turned or not
pub record Both (a b : Signed) (e : ℕ) : Type 0 where
  pub up_to : SLe a b e
  pub down_to : SLe b a e

pub product_both : (f g : Frac) (t : Bool) (a b : Signed) (e w : ℕ) → Pos f → Pos g → Fractions a → Fractions b → g.num ≤ w * g.den → Both (scale f a) b e
    → Both (scale f (turn t (scale g a))) (turn t (scale g b)) (e * w)
product_both f g t a b e w F' G A B l h =
    let k : e * g.num ≤ e * w * g.den = omega (arith, mul-le-mul_right e l) in
    let x = scale f (turn t (scale g a)) in
    let y = turn t (scale g (scale f a)) in
    let z = turn t (scale g b) in
    let X : Fractions x = scale_pos f (turn t (scale g a)) F' (turn_pos t (scale g a) (scale_pos g a G A)) in
    let Y : Fractions y = turn_pos t (scale g (scale f a)) (scale_pos g (scale f a) G (scale_pos f a F' A)) in
    let Z : Fractions z = turn_pos t (scale g b) (scale_pos g b G B) in
    let u : SLe (scale g (scale f a)) (scale g b) (e * w) = s_scale g (scale f a) b e (e * w) G (scale_pos f a F' A) B h.up_to k in
    let v : SLe (scale g b) (scale g (scale f a)) (e * w) = s_scale g b (scale f a) e (e * w) G B (scale_pos f a F' A) h.down_to k in
    let o : SSame x y = exchange f g t a in
    record {
      up_to = s_grow x z (0 + e * w) (e * w) (omega arith) (s_trans x y z 0 (e * w) X Y Z (same_le x y o) (s_turn t (scale g (scale f a)) (scale g b) (e * w) u v));
      down_to = s_grow z x (e * w + 0) (e * w) (omega arith) (s_trans z y x (e * w) 0 Z Y X (s_turn t (scale g b) (scale g (scale f a)) (e * w) v u) (same_le y x (flipped x y o)));
    }

-- ---- the exact product of two floats: the second's size and sign, on the first
abbrev pub minus : Float → Bool
minus nan = false
minus (inf s) = false
minus (fin s m e) = s

abbrev pub times : Float → Float → Signed
times x y = turn (minus y) (scale (magnitude y) (signed_of x))

pub times_pos : (x y : Float) → Fractions (times x y)
times_pos x y = turn_pos (minus y) (scale (magnitude y) (signed_of x)) (scale_pos (magnitude y) (signed_of x) (den_pos y) (signed_pos x))

module _ (a b c d : ℕ) where
  abbrev X : Frac
  X = a over b

  abbrev Y : Frac
  Y = c over d

  abbrev P : Frac
  P = (a * c) over (b * d)

  plus_plus : SSame (lowest false P P) (turn false (scale Y (lowest false X X)))
  plus_plus = omega arith

  plus_minus : SSame (lowest true P P) (turn true (scale Y (lowest false X X)))
  plus_minus = omega arith

  minus_plus : SSame (lowest true P P) (turn false (scale Y (lowest true X X)))
  minus_plus = omega arith

  minus_minus : SSame (lowest false P P) (turn true (scale Y (lowest true X X)))
  minus_minus = omega arith

pub mul_signed : (x y : Float) (j : ℕ) → Fin x → Fin y → j ≤ 20 → (magnitude x ⊠ magnitude y).num ≤ 2 ^ j * (magnitude x ⊠ magnitude y).den → SNear (mul binary64 x y) (times x y) (2 ^ j)
unfolding mul
mul_signed nan y j f g l h = absurd f
mul_signed (inf s) y j f g l h = absurd f
mul_signed (fin s m e) nan j f g l h = absurd g
mul_signed (fin s m e) (inf t) j f g l h = absurd g
mul_signed (fin s m e) (fin t n d) j f g l h =
    go s t (plus_plus (m * up e) (down e) (n * up d) (down d)) (plus_minus (m * up e) (down e) (n * up d) (down d)) (minus_plus (m * up e) (down e) (n * up d) (down d))
    (minus_minus (m * up e) (down e) (n * up d) (down d))
  where
    num : ℕ
    num = m * up e * (n * up d)

    den : ℕ
    den = down e * down d

    step : (s t u : Bool) → SSame (lowest u (num over den) (num over den)) (times (fin s m e) (fin t n d)) → SNear (round binary64 u num den) (times (fin s m e) (fin t n d)) (2 ^ j)
    step s t u k =
        snear_same (round binary64 u num den) (lowest u (num over den) (num over den)) (times (fin s m e) (fin t n d)) (2 ^ j) (lowest_pos u (num over den) (mul-pos (down_pos e) (down_pos d))) (times_pos (fin s m e) (fin t n d)) k
        (round_snear u num den j (mul-pos (down_pos e) (down_pos d)) l h)

    go : (s t : Bool)
        → SSame (lowest false (num over den) (num over den)) (times (fin false m e) (fin false n d)) → SSame (lowest true (num over den) (num over den)) (times (fin false m e) (fin true n d))
        → SSame (lowest true (num over den) (num over den)) (times (fin true m e) (fin false n d)) → SSame (lowest false (num over den) (num over den)) (times (fin true m e) (fin true n d))
        → SNear (round binary64 (unlike s t) num den) (times (fin s m e) (fin t n d)) (2 ^ j)
    go false false a b c d = step false false false a
    go false true a b c d = step false true true b
    go true false a b c d = step true false true c
    go true true a b c d = step true true false d

-- ---- nothing
pub zero_near : SNear F.zero none 0
unfolding of_bits
zero_near = record { finite = tt; above = lit≤ tt; below = lit≤ tt }

pub none_pos : Fractions none
none_pos = record { gain_is = zero-lt-suc 0; loss_is = zero-lt-suc 0 }

pub nothing_added : (a : Signed) → SSame (none ⊹ a) a
nothing_added a = go a.gain.num a.gain.den a.loss.num a.loss.den
  where
    go : (p q r s : ℕ) → ((0 * q + p * 1) * s + r * (1 * q)) * (q * (1 * s)) ≡ (p * (1 * s) + (0 * s + r * 1) * q) * (1 * q * s)
    go p q r s = omega arith

-- ---- sums of what is near
pub snear_add : (x y : Float) (a b : Signed) (e f p q j : ℕ) → Fractions a → Fractions b → SNear x a e → SNear y b f → Size x p → Size y q → j ≤ 20 → p + q ≤ 2 ^ j
    → SNear (add binary64 x y) (a ⊹ b) (2 ^ j + (e + f))
snear_add x y a b e f p q j A B h k P' Q' l m =
    let n : SNear (add binary64 x y) (signed_of x ⊹ signed_of y) (2 ^ j) = add_signed x y j h.finite k.finite l (wide (magnitude x).num (magnitude x).den (magnitude y).num (magnitude y).den P'.small Q'.small) in
    let s = signed_of x ⊹ signed_of y in
    let S : Fractions s = fractions_add (signed_of x) (signed_of y) (signed_pos x) (signed_pos y) in
    let r = signed_of (add binary64 x y) in
    record {
      finite = n.finite;
      above = s_trans r s (a ⊹ b) (2 ^ j) (e + f) (signed_pos (add binary64 x y)) S (fractions_add a b A B) n.above (s_add (signed_of x) a (signed_of y) b e f (signed_pos x) A (signed_pos y) B h.above k.above);
      below = s_grow (a ⊹ b) r (e + f + 2 ^ j) (2 ^ j + (e + f)) (omega arith)
          (s_trans (a ⊹ b) s r (e + f) (2 ^ j) (fractions_add a b A B) S (signed_pos (add binary64 x y)) (s_add a (signed_of x) b (signed_of y) e f A (signed_pos x) B (signed_pos y) h.below k.below) n.below);
    }
  where
    wide : (an ad bn bd : ℕ) → an * 1 ≤ p * ad → bn * 1 ≤ q * bd → an * bd + bn * ad ≤ 2 ^ j * (ad * bd)
    wide an ad bn bd h k = omega (arith, mul-le-mul_right bd h, mul-le-mul_right ad k, mul-le-mul_right (ad * bd) m)

abbrev pub dot3 : Vec3 → Vec3 → Signed
dot3 u v = (times u.x v.x ⊹ times u.y v.y) ⊹ times u.z v.z

pub dot_signed : (u v : Vec3) (a b j : ℕ) → Sized u a → Sized v b → a * b ≤ 2 ^ j → j ≤ 10 → SNear (dot u v) (dot3 u v) (9 * 2 ^ j)
dot_signed u v a b j h k l m =
    let W : 2 ^ j ≤ 1024 = pow_mono {i = j} {j = 10} m in
    let px = mul_signed u.x v.x j h.x_is.finite k.x_is.finite (omega arith) (at (magnitude u.x).num (magnitude u.x).den (magnitude v.x).num (magnitude v.x).den h.x_is.small k.x_is.small) in
    let py = mul_signed u.y v.y j h.y_is.finite k.y_is.finite (omega arith) (at (magnitude u.y).num (magnitude u.y).den (magnitude v.y).num (magnitude v.y).den h.y_is.small k.y_is.small) in
    let pz = mul_signed u.z v.z j h.z_is.finite k.z_is.finite (omega arith) (at (magnitude u.z).num (magnitude u.z).den (magnitude v.z).num (magnitude v.z).den h.z_is.small k.z_is.small) in
    let sx : Size (mul binary64 u.x v.x) (a * b) = mul_size u.x v.x a b h.x_is k.x_is (omega arith) in
    let sy : Size (mul binary64 u.y v.y) (a * b) = mul_size u.y v.y a b h.y_is k.y_is (omega arith) in
    let sz : Size (mul binary64 u.z v.z) (a * b) = mul_size u.z v.z a b h.z_is k.z_is (omega arith) in
    let tx = times u.x v.x in
    let ty = times u.y v.y in
    let tz = times u.z v.z in
    let Tx = times_pos u.x v.x in
    let Ty = times_pos u.y v.y in
    let q = snear_add (mul binary64 u.x v.x) (mul binary64 u.y v.y) tx ty (2 ^ j) (2 ^ j) (a * b) (a * b) (suc j) Tx Ty px py sx sy (omega arith) (omega (arith, pow-suc 2 j)) in
    let sq : Size (add binary64 (mul binary64 u.x v.x) (mul binary64 u.y v.y)) (a * b + a * b) = add_size (mul binary64 u.x v.x) (mul binary64 u.y v.y) (a * b) (a * b) sx sy (omega arith) in
    let r = snear_add (add binary64 (mul binary64 u.x v.x) (mul binary64 u.y v.y)) (mul binary64 u.z v.z) (tx ⊹ ty) tz (2 ^ suc j + (2 ^ j + 2 ^ j)) (2 ^ j) (a * b + a * b) (a * b) (suc (suc j))
    (fractions_add tx ty Tx Ty) (times_pos u.z v.z) q pz sq sz (omega arith) (omega (arith, pow-suc 2 j, pow-suc 2 (suc j))) in
    let c : 2 ^ suc (suc j) + (2 ^ suc j + (2 ^ j + 2 ^ j) + 2 ^ j) ≡ 9 * 2 ^ j = omega (arith, pow-suc 2 j, pow-suc 2 (suc j)) in
    subst (λ (z : ℕ). SNear (dot u v) (dot3 u v) z) c r
  where
    at : (xn xd yn yd : ℕ) → xn * 1 ≤ a * xd → yn * 1 ≤ b * yd → xn * yn ≤ 2 ^ j * (xd * yd)
    at xn xd yn yd h k = omega (arith, mul-le-mul h k, mul-le-mul_right (xd * yd) l)
