-- Whole numbers with a sign, as p less q; the identity of Binet and Cauchy over them; products of what is near. Assumes nothing.
use mathlib.Core.Path.{◌≡◌, sym, ap, ◌∙◌, subst}
use mathlib.Core.Logic.{◌⊎◌, inl, inr}
use Prim.Native.Nat.{ℕ, ◌+◌, ◌-◌, ◌*◌, ◌≤◌}
use native.Mathlib.Nat.{mul-le-mul, mul-le-mul_right, add-sub_of_le}
use native.Mathlib.Omega.{arith}
use Rattle.sure_sides.proofs.Scales.{le_split}

-- p less q
pub record Z : Type 0 where
  pub p : ℕ
  pub q : ℕ

infixl 65 ◌+z◌
infixl 70 ◌*z◌
infix 50 ◌=z◌
abbrev pub ◌+z◌ : Z → Z → Z
a +z b = record { p = a.p + b.p; q = a.q + b.q }

abbrev pub negz : Z → Z
negz a = record { p = a.q; q = a.p }

abbrev pub ◌*z◌ : Z → Z → Z
a *z b = record { p = a.p * b.p + a.q * b.q; q = a.p * b.q + a.q * b.p }

abbrev pub ◌=z◌ : Z → Z → Type 0
a =z b = a.p + b.q ≡ b.p + a.q

pub record Z3 : Type 0 where
  pub x : Z
  pub y : Z
  pub z : Z

abbrev pub dotz : Z3 → Z3 → Z
dotz u v = u.x *z v.x +z u.y *z v.y +z u.z *z v.z

abbrev pub crossz : Z3 → Z3 → Z3
crossz u v = record { x = u.y *z v.z +z negz (u.z *z v.y); y = u.z *z v.x +z negz (u.x *z v.z); z = u.x *z v.y +z negz (u.y *z v.x) }

abbrev pub sumz : Z3 → Z3 → Z3
sumz u v = record { x = v.x +z u.x; y = v.y +z u.y; z = v.z +z u.z }

abbrev pub partz : Z3 → Z3 → Z3
partz u v = record { x = v.x +z negz u.x; y = v.y +z negz u.y; z = v.z +z negz u.z }

-- ---- the laws of differences that the identity needs
-- (v + u) x (v - u) is twice u x v, a component
twice : (b c e f : Z) → (e +z b) *z (f +z negz c) +z negz ((f +z c) *z (e +z negz b)) =z (b *z f +z negz (c *z e)) +z (b *z f +z negz (c *z e))
twice b c e f = omega arith

-- a component of (N x n) . (n x A): b, c of N; e, f of n; g, h of A
spread : (a b c d : Z) → (a +z negz b) *z (c +z negz d) =z a *z c +z b *z d +z negz (a *z d +z b *z c)
spread a b c d = omega arith

inner : (a b c d : Z) → (a *z b) *z (c *z d) =z (a *z c) *z (b *z d)
inner a b c d = omega arith

outer : (a b c d : Z) → (a *z b) *z (c *z d) =z (a *z d) *z (b *z c)
outer a b c d = omega arith

join4 : (s a b c d a' b' c' d' : Z) → s =z a +z b +z negz (c +z d) → a =z a' → b =z b' → c =z c' → d =z d' → s =z a' +z b' +z negz (c' +z d')
join4 s a b c d a' b' c' d' h i j k l = omega arith

component : (b c e f g h : Z) → (b *z f +z negz (c *z e)) *z (e *z h +z negz (f *z g)) =z (b *z e) *z (f *z h) +z (c *z f) *z (e *z g) +z negz ((b *z g) *z (f *z f) +z (c *z h) *z (e *z e))
component b c e f g h =
    join4 ((b *z f +z negz (c *z e)) *z (e *z h +z negz (f *z g))) ((b *z f) *z (e *z h)) ((c *z e) *z (f *z g)) ((b *z f) *z (f *z g)) ((c *z e) *z (e *z h)) ((b *z e) *z (f *z h)) ((c *z f) *z (e *z g))
    ((b *z g) *z (f *z f)) ((c *z h) *z (e *z e))
    (spread (b *z f) (c *z e) (e *z h) (f *z g)) (inner b f e h) (inner c e f g) (outer b f f g) (outer c e e h)

row : (a d e f : Z) → a *z (d +z e +z f) =z a *z d +z a *z e +z a *z f
row a d e f = omega arith

column : (a b c s : Z) → (a +z b +z c) *z s =z a *z s +z b *z s +z c *z s
column a b c s = omega arith

regroup : (w r1 r2 r3 a1 a2 a3 b1 b2 b3 c1 c2 c3 : Z) → w =z r1 +z r2 +z r3 → r1 =z a1 +z a2 +z a3 → r2 =z b1 +z b2 +z b3 → r3 =z c1 +z c2 +z c3
    → w =z (a1 +z b2 +z c3) +z (b3 +z c2) +z (c1 +z a3) +z (a2 +z b1)
regroup w r1 r2 r3 a1 a2 a3 b1 b2 b3 c1 c2 c3 h i j k = omega arith

nine : (a b c d e f : Z) → (a +z b +z c) *z (d +z e +z f) =z (a *z d +z b *z e +z c *z f) +z (b *z f +z c *z e) +z (c *z d +z a *z f) +z (a *z e +z b *z d)
nine a b c d e f =
    let s = d +z e +z f in
    regroup ((a +z b +z c) *z s) (a *z s) (b *z s) (c *z s) (a *z d) (a *z e) (a *z f) (b *z d) (b *z e) (b *z f) (c *z d) (c *z e) (c *z f) (column a b c s) (row a d e f) (row b d e f) (row c d e f)

together : (x y z pq uv x1 x2 y1 y2 z1 z2 d : Z) → x =z x1 +z negz x2 → y =z y1 +z negz y2 → z =z z1 +z negz z2 → pq =z d +z x1 +z y1 +z z1 → uv =z d +z x2 +z y2 +z z2 → x +z y +z z =z pq +z negz uv
together x y z pq uv x1 x2 y1 y2 z1 z2 d h i j k l = omega arith

same_first : (s d d' x y z : Z) → s =z d +z x +z y +z z → d =z d' → s =z d' +z x +z y +z z
same_first s d d' x y z h k = omega arith

three : (a b c a' b' c' : Z) → a =z a' → b =z b' → c =z c' → a +z b +z c =z a' +z b' +z c'
three a b c a' b' c' h k l = omega arith

-- the identity of Binet and Cauchy
binet : (N n A : Z3) → dotz (crossz N n) (crossz n A) =z dotz N n *z dotz n A +z negz (dotz N A *z dotz n n)
binet N n A =
    let P1 = N.x *z n.x in
    let P2 = N.y *z n.y in
    let P3 = N.z *z n.z in
    let Q1 = n.x *z A.x in
    let Q2 = n.y *z A.y in
    let Q3 = n.z *z A.z in
    let U1 = N.x *z A.x in
    let U2 = N.y *z A.y in
    let U3 = N.z *z A.z in
    let V1 = n.x *z n.x in
    let V2 = n.y *z n.y in
    let V3 = n.z *z n.z in
    let d = P1 *z Q1 +z P2 *z Q2 +z P3 *z Q3 in
    together ((crossz N n).x *z (crossz n A).x) ((crossz N n).y *z (crossz n A).y) ((crossz N n).z *z (crossz n A).z) (dotz N n *z dotz n A) (dotz N A *z dotz n n)
    (P2 *z Q3 +z P3 *z Q2) (U2 *z V3 +z U3 *z V2) (P3 *z Q1 +z P1 *z Q3) (U3 *z V1 +z U1 *z V3) (P1 *z Q2 +z P2 *z Q1) (U1 *z V2 +z U2 *z V1) d
    (component N.y N.z n.y n.z A.y A.z) (component N.z N.x n.z n.x A.z A.x) (component N.x N.y n.x n.y A.x A.y)
    (nine P1 P2 P3 Q1 Q2 Q3)
    (same_first (dotz N A *z dotz n n) (U1 *z V1 +z U2 *z V2 +z U3 *z V3) d (U2 *z V3 +z U3 *z V2) (U3 *z V1 +z U1 *z V3) (U1 *z V2 +z U2 *z V1) (nine U1 U2 U3 V1 V2 V3)
    (three (U1 *z V1) (U2 *z V2) (U3 *z V3) (P1 *z Q1) (P2 *z Q2) (P3 *z Q3) (diagonal N.x n.x A.x) (diagonal N.y n.y A.y) (diagonal N.z n.z A.z)))
  where
    diagonal : (a b c : Z) → (a *z c) *z (b *z b) =z (a *z b) *z (b *z c)
    diagonal a b c = omega arith

-- (v + u) x (v - u) in the place of N x n: twice as much
twice_of : (a b c a' b' c' k l m : Z) → a =z a' +z a' → b =z b' +z b' → c =z c' +z c' → a *z k +z b *z l +z c *z m =z (a' *z k +z b' *z l +z c' *z m) +z (a' *z k +z b' *z l +z c' *z m)
twice_of a b c a' b' c' k l m h i j =
    sum (a *z k) (b *z l) (c *z m) (a' *z k) (b' *z l) (c' *z m) (doubled a a' k h) (doubled b b' l i) (doubled c c' m j)
  where
    doubled : (a b k : Z) → a =z b +z b → a *z k =z b *z k +z b *z k
    doubled a b k h = omega (arith, ap (λ (z : ℕ). z * k.p) h, ap (λ (z : ℕ). z * k.q) h)

    sum : (x y z x' y' z' : Z) → x =z x' +z x' → y =z y' +z y' → z =z z' +z z' → x +z y +z z =z (x' +z y' +z z') +z (x' +z y' +z z')
    sum x y z x' y' z' h i j = omega arith

-- the products turned round
turned_cross : (b c e f : Z) → b *z f +z negz (c *z e) =z negz (e *z c +z negz (f *z b))
turned_cross b c e f = omega arith

-- ((n + N) x (n - N)) . (N x A), with its sign turned: of the products of n, N and A alone
pub identity_back : (N n A : Z3) → negz (dotz (crossz (sumz N n) (partz N n)) (crossz N A)) =z (dotz n N *z dotz N A +z negz (dotz n A *z dotz N N)) +z (dotz n N *z dotz N A +z negz (dotz n A *z dotz N N))
identity_back N n A =
    let r = crossz (sumz N n) (partz N n) in
    let t = crossz N n in
    let o = crossz n N in
    let c = crossz N A in
    let e = dotz n N *z dotz N A +z negz (dotz n A *z dotz N N) in
    finish (dotz r c) (dotz t c) (dotz o c) e
    (twice_of r.x r.y r.z t.x t.y t.z c.x c.y c.z (twice N.y N.z n.y n.z) (twice N.z N.x n.z n.x) (twice N.x N.y n.x n.y))
    (sum (t.x *z c.x) (t.y *z c.y) (t.z *z c.z) (o.x *z c.x) (o.y *z c.y) (o.z *z c.z) (against t.x o.x c.x (turned_cross N.y N.z n.y n.z))
    (against t.y o.y c.y (turned_cross N.z N.x n.z n.x)) (against t.z o.z c.z (turned_cross N.x N.y n.x n.y)))
    (binet n N A)
  where
    against : (a b k : Z) → a =z negz b → a *z k =z negz (b *z k)
    against a b k h = omega (arith, ap (λ (z : ℕ). z * k.p) h, ap (λ (z : ℕ). z * k.q) h)

    sum : (x y z x' y' z' : Z) → x =z negz x' → y =z negz y' → z =z negz z' → x +z y +z z =z negz (x' +z y' +z z')
    sum x y z x' y' z' h i j = omega arith

    finish : (w b o e : Z) → w =z b +z b → b =z negz o → o =z e → negz w =z e +z e
    finish w b o e h k l = omega arith

-- ---- a product of two differences is at most the product of their bounds
like : (u a k b W S B : ℕ) → a * W ≤ S → b ≤ B → (u * k + (u + a) * (k + b)) * W ≤ (u * (k + b) + (u + a) * k) * W + S * B
like u a k b W S B h g = omega (arith, mul-le-mul h g)

like' : (v a l b W S B : ℕ) → a * W ≤ S → b ≤ B → ((v + a) * (l + b) + v * l) * W ≤ ((v + a) * l + v * (l + b)) * W + S * B
like' v a l b W S B h g = omega (arith, mul-le-mul h g)

unlike : (u a l b W S B : ℕ) → (u * (l + b) + (u + a) * l) * W ≤ (u * l + (u + a) * (l + b)) * W + S * B
unlike u a l b W S B = omega arith

unlike' : (v a k b W S B : ℕ) → ((v + a) * k + v * (k + b)) * W ≤ ((v + a) * (k + b) + v * k) * W + S * B
unlike' v a k b W S B = omega arith

pub prod_le : (u v k l W S B : ℕ) → u * W ≤ v * W + S → v * W ≤ u * W + S → k ≤ l + B → l ≤ k + B → (u * k + v * l) * W ≤ (u * l + v * k) * W + S * B
prod_le u v k l W S B h h' g g' = go (le_split u v) (le_split k l)
  where
    gap : (u a : ℕ) → (u + a) * W ≤ u * W + S → a * W ≤ S
    gap u a h = omega arith

    go : (u ≤ v) ⊎ (v ≤ u) → (k ≤ l) ⊎ (l ≤ k) → (u * k + v * l) * W ≤ (u * l + v * k) * W + S * B
    go (inl i) (inl j) =
        subst (λ (y : ℕ). (u * k + y * l) * W ≤ (u * l + y * k) * W + S * B) (add-sub_of_le i)
        (subst (λ (y : ℕ). (u * k + (u + (v - u)) * y) * W ≤ (u * y + (u + (v - u)) * k) * W + S * B) (add-sub_of_le j)
        (like u (v - u) k (l - k) W S B (gap u (v - u) (subst (λ (y : ℕ). y * W ≤ u * W + S) (sym (add-sub_of_le i)) h')) (omega arith)))
    go (inl i) (inr j) =
        subst (λ (y : ℕ). (u * k + y * l) * W ≤ (u * l + y * k) * W + S * B) (add-sub_of_le i)
        (subst (λ (y : ℕ). (u * y + (u + (v - u)) * l) * W ≤ (u * l + (u + (v - u)) * y) * W + S * B) (add-sub_of_le j)
        (unlike u (v - u) l (k - l) W S B))
    go (inr i) (inl j) =
        subst (λ (y : ℕ). (y * k + v * l) * W ≤ (y * l + v * k) * W + S * B) (add-sub_of_le i)
        (subst (λ (y : ℕ). ((v + (u - v)) * k + v * y) * W ≤ ((v + (u - v)) * y + v * k) * W + S * B) (add-sub_of_le j)
        (unlike' v (u - v) k (l - k) W S B))
    go (inr i) (inr j) =
        subst (λ (y : ℕ). (y * k + v * l) * W ≤ (y * l + v * k) * W + S * B) (add-sub_of_le i)
        (subst (λ (y : ℕ). ((v + (u - v)) * y + v * l) * W ≤ ((v + (u - v)) * l + v * y) * W + S * B) (add-sub_of_le j)
        (like' v (u - v) l (k - l) W S B (gap v (u - v) (subst (λ (y : ℕ). y * W ≤ v * W + S) (sym (add-sub_of_le i)) h)) (omega arith)))

-- ---- a / d and z / D are within e * 2 ^ -53 of one another
pub record Close (a : Z) (d : ℕ) (z : Z) (D e : ℕ) : Type 0 where
  pub above : (a.p * D + z.q * d) * 9007199254740992 ≤ (z.p * d + a.q * D) * 9007199254740992 + e * (d * D)
  pub below : (z.p * d + a.q * D) * 9007199254740992 ≤ (a.p * D + z.q * d) * 9007199254740992 + e * (d * D)

-- no more than b in size, over D
pub record Small (z : Z) (D b : ℕ) : Type 0 where
  pub above : z.p ≤ z.q + b * D
  pub below : z.q ≤ z.p + b * D

-- both times w / E, which is at most b in size
step : (x y t X Y S W E : ℕ) → x ≡ X * E → y ≡ Y * E → t ≡ S * E → X * W ≤ Y * W + S → x * W ≤ y * W + t
step x y t X Y S W E a b c h = omega (arith, mul-le-mul_right E h, ap (λ (z : ℕ). z * W) a, ap (λ (z : ℕ). z * W) b)

first_eq : (p q r s k l d D E : ℕ) → (p * k + q * l) * (D * E) + (r * l + s * k) * (d * E) ≡ ((p * D + s * d) * k + (r * d + q * D) * l) * E
first_eq p q r s k l d D E = omega arith

second_eq : (p q r s k l d D E : ℕ) → (r * k + s * l) * (d * E) + (p * l + q * k) * (D * E) ≡ ((p * D + s * d) * l + (r * d + q * D) * k) * E
second_eq p q r s k l d D E = omega arith

third_eq : (d D E e b : ℕ) → e * b * (d * E * (D * E)) ≡ e * (d * D) * (b * E) * E
third_eq d D E e b = omega arith

close_at : (p q r s k l d D E e b : ℕ)
    → ((p * D + s * d) * k + (r * d + q * D) * l) * 9007199254740992 ≤ ((p * D + s * d) * l + (r * d + q * D) * k) * 9007199254740992 + e * (d * D) * (b * E)
    → ((p * k + q * l) * (D * E) + (r * l + s * k) * (d * E)) * 9007199254740992 ≤ ((r * k + s * l) * (d * E) + (p * l + q * k) * (D * E)) * 9007199254740992 + e * b * (d * E * (D * E))
close_at p q r s k l d D E e b h =
    step _ _ _ ((p * D + s * d) * k + (r * d + q * D) * l) ((p * D + s * d) * l + (r * d + q * D) * k) (e * (d * D) * (b * E)) 9007199254740992 E (first_eq p q r s k l d D E) (second_eq p q r s k l d D E)
    (third_eq d D E e b) h

turned_eq : (p q r s d D k l : ℕ) → (p * D + s * d) * l + (r * d + q * D) * k ≡ (r * d + q * D) * k + (p * D + s * d) * l
turned_eq p q r s d D k l = omega arith

at_close : (p q r s k l d D E e b : ℕ)
    → ((r * d + q * D) * k + (p * D + s * d) * l) * 9007199254740992 ≤ ((r * d + q * D) * l + (p * D + s * d) * k) * 9007199254740992 + e * (d * D) * (b * E)
    → ((r * k + s * l) * (d * E) + (p * l + q * k) * (D * E)) * 9007199254740992 ≤ ((p * k + q * l) * (D * E) + (r * l + s * k) * (d * E)) * 9007199254740992 + e * b * (d * E * (D * E))
at_close p q r s k l d D E e b h =
    step _ _ _ ((r * d + q * D) * k + (p * D + s * d) * l) ((r * d + q * D) * l + (p * D + s * d) * k) (e * (d * D) * (b * E)) 9007199254740992 E
    (second_eq p q r s k l d D E ∙ ap (λ (z : ℕ). z * E) (turned_eq p q r s d D k l)) (first_eq p q r s k l d D E ∙ ap (λ (z : ℕ). z * E) (turned_eq p q r s d D l k)) (third_eq d D E e b) h

pub close_mul : (a z w : Z) (d D E e b : ℕ) → Close a d z D e → Small w E b → Close (a *z w) (d * E) (z *z w) (D * E) (e * b)
close_mul a z w d D E e b h s =
    let u = a.p * D + z.q * d in
    let v = z.p * d + a.q * D in
    record {
      above = close_at a.p a.q z.p z.q w.p w.q d D E e b (prod_le u v w.p w.q 9007199254740992 (e * (d * D)) (b * E) h.above h.below s.above s.below);
      below = at_close a.p a.q z.p z.q w.p w.q d D E e b (prod_le v u w.p w.q 9007199254740992 (e * (d * D)) (b * E) h.below h.above s.above s.below);
    }

turn_at_lem : (p q r s k l d D E e : ℕ)
    → ((p * k + q * l) * (D * E) + (r * l + s * k) * (d * E)) * 9007199254740992 ≤ ((r * k + s * l) * (d * E) + (p * l + q * k) * (D * E)) * 9007199254740992 + e * (d * E * (D * E))
    → ((k * p + l * q) * (E * D) + (k * s + l * r) * (E * d)) * 9007199254740992 ≤ ((k * r + l * s) * (E * d) + (k * q + l * p) * (E * D)) * 9007199254740992 + e * (E * d * (E * D))
turn_at_lem p q r s k l d D E e h = omega arith

at_turn : (p q r s k l d D E e : ℕ)
    → ((r * k + s * l) * (d * E) + (p * l + q * k) * (D * E)) * 9007199254740992 ≤ ((p * k + q * l) * (D * E) + (r * l + s * k) * (d * E)) * 9007199254740992 + e * (d * E * (D * E))
    → ((k * r + l * s) * (E * d) + (k * q + l * p) * (E * D)) * 9007199254740992 ≤ ((k * p + l * q) * (E * D) + (k * s + l * r) * (E * d)) * 9007199254740992 + e * (E * d * (E * D))
at_turn p q r s k l d D E e h = omega arith

pub mul_close : (a z w : Z) (d D E e b : ℕ) → Close a d z D e → Small w E b → Close (w *z a) (E * d) (w *z z) (E * D) (e * b)
mul_close a z w d D E e b h s =
    let c = close_mul a z w d D E e b h s in
    record {
      above = turn_at_lem a.p a.q z.p z.q w.p w.q d D E (e * b) c.above;
      below = at_turn a.p a.q z.p z.q w.p w.q d D E (e * b) c.below;
    }

-- ---- sizes
pub small_add : (a b : Z) (D c d : ℕ) → Small a D c → Small b D d → Small (a +z b) D (c + d)
small_add a b D c d h k = record { above = go a.p a.q b.p b.q h.above k.above; below = go a.q a.p b.q b.p h.below k.below }
  where
    go : (p q r s : ℕ) → p ≤ q + c * D → r ≤ s + d * D → p + r ≤ q + s + (c + d) * D
    go p q r s h k = omega arith

pub small_neg : (a : Z) (D c : ℕ) → Small a D c → Small (negz a) D c
small_neg a D c h = record { above = h.below; below = h.above }

pub small_mul : (a b : Z) (D E c d : ℕ) → Small a D c → Small b E d → Small (a *z b) (D * E) (c * d)
small_mul a b D E c d h k = record {
  above = go (a.p * b.p + a.q * b.q) (a.p * b.q + a.q * b.p) D E c d (prod_le a.p a.q b.p b.q 1 (c * D) (d * E) (one a.p a.q (c * D) h.above) (one a.q a.p (c * D) h.below) k.above k.below);
  below = go (a.p * b.q + a.q * b.p) (a.p * b.p + a.q * b.q) D E c d (prod_le a.p a.q b.q b.p 1 (c * D) (d * E) (one a.p a.q (c * D) h.above) (one a.q a.p (c * D) h.below) k.below k.above);
}
  where
    one : (x y z : ℕ) → x ≤ y + z → x * 1 ≤ y * 1 + z
    one x y z h = omega arith

    go : (x y D E c d : ℕ) → x * 1 ≤ y * 1 + c * D * (d * E) → x ≤ y + c * d * (D * E)
    go x y D E c d h = omega arith
