-- What is read at an offset, in the words of specs/Why: both ways. Assumes nothing.
use Prim.Native.Nat.{ℕ, ◌+◌, ◌*◌, ◌/◌, ◌%◌, ◌≤◌, ◌<◌}
use mathlib.Core.Path.{◌≡◌, refl, sym, subst, ◌∙◌}
use mathlib.Core.Bool.{Bool, true, false, cond}
use mathlib.Core.List.{List}
use native.Mathlib.Omega.{arith}
use lib.ListN.{length}
use lib.Dec.{eqb, ltb, leb}
use borrow.Author.Tests.{eqb-true, eqb-false, eq-eqb, ne_eqb, leb-true, leb-false, lt-leb, ltb-true, ltb-false, lt-ltb, le-ltb}
use Rattle.scene_records.specs.declared.Fault.TheVariants.{CutShort, UnknownKind, WrongLength}
use Rattle.scene_records.specs.declared.Read.{Read}
use Rattle.scene_records.specs.declared.Read.TheVariants as Read
use Rattle.scene_records.specs.Records.{u16_of, length_field, kind_field, area_at, place_at, pair_at, kind_at, read_at}
use Rattle.theorem_scene.specs.Why.{length_of, kind_of, Short, in_head, in_body, Whole, Known, Fits, Formed, IsArea, number_of}
use Rattle.theorem_scene.specs.Why as Why

-- a length of an area, as its positions count
area_size : (len : ℕ) → len % 24 ≡ 2 → len ≡ 2 + 24 * (len / 24)
area_size len e = omega arith

module _ (s : List ℕ) (at : ℕ) where
  -- ---- what is read has its reason
  pub data ReadWhy : Read → Type 0 where
    ended : length s ≤ at → ReadWhy Read.End
    short : Short s at → ReadWhy (Read.Bad CutShort (length s))
    unknown : Whole s at → (Known (kind_of s at) → ⊥) → ReadWhy (Read.Bad UnknownKind (kind_field at))
    wrong : Whole s at → Known (kind_of s at) → (Fits (kind_of s at) (length_of s at) → ⊥) → ReadWhy (Read.Bad WrongLength (length_field at))
    an_area : (count : ℕ) → IsArea s at count → ReadWhy (Read.Area (number_of s at) count)
    a_place : Formed s at 2 26 → ReadWhy (Read.Place (number_of s at) false)
    a_pair : Formed s at 3 4 → ReadWhy (Read.Pair (number_of s at) (u16_of s (at + 8)))
    a_far : Formed s at 4 26 → ReadWhy (Read.Place (number_of s at) true)

  module _ (whole : Whole s at) where
    -- a kind that is known, and no length that it asks for
    wrong_area : kind_of s at ≡ 1 → (length_of s at % 24 ≡ 2 → ⊥) → Fits (kind_of s at) (length_of s at) → ⊥
    wrong_area e h f = go (kind_of s at) (length_of s at) e h f
      where
        go : (kind len : ℕ) → kind ≡ 1 → (len % 24 ≡ 2 → ⊥) → Fits kind len → ⊥
        go _ _ e h (Why.area count) = h (omega arith)
        go _ _ e h Why.place = omega arith
        go _ _ e h Why.pair = omega arith
        go _ _ e h Why.far = omega arith

    wrong_place : kind_of s at ≡ 2 → (length_of s at ≡ 26 → ⊥) → Fits (kind_of s at) (length_of s at) → ⊥
    wrong_place e h f = go (kind_of s at) (length_of s at) e h f
      where
        go : (kind len : ℕ) → kind ≡ 2 → (len ≡ 26 → ⊥) → Fits kind len → ⊥
        go _ _ e h (Why.area count) = omega arith
        go _ _ e h Why.place = h refl
        go _ _ e h Why.pair = omega arith
        go _ _ e h Why.far = omega arith

    wrong_pair : kind_of s at ≡ 3 → (length_of s at ≡ 4 → ⊥) → Fits (kind_of s at) (length_of s at) → ⊥
    wrong_pair e h f = go (kind_of s at) (length_of s at) e h f
      where
        go : (kind len : ℕ) → kind ≡ 3 → (len ≡ 4 → ⊥) → Fits kind len → ⊥
        go _ _ e h (Why.area count) = omega arith
        go _ _ e h Why.place = omega arith
        go _ _ e h Why.pair = h refl
        go _ _ e h Why.far = omega arith

    wrong_far : kind_of s at ≡ 4 → (length_of s at ≡ 26 → ⊥) → Fits (kind_of s at) (length_of s at) → ⊥
    wrong_far e h f = go (kind_of s at) (length_of s at) e h f
      where
        go : (kind len : ℕ) → kind ≡ 4 → (len ≡ 26 → ⊥) → Fits kind len → ⊥
        go _ _ e h (Why.area count) = omega arith
        go _ _ e h Why.place = omega arith
        go _ _ e h Why.pair = omega arith
        go _ _ e h Why.far = h refl

    area_why : kind_of s at ≡ 1 → (b : Bool) → eqb (length_of s at % 24) 2 ≡ b
        → ReadWhy (cond b (Read.Area (number_of s at) (length_of s at / 24)) (Read.Bad WrongLength (length_field at)))
    area_why e true t = an_area (length_of s at / 24) (record { whole = whole; of_kind = e; of_size = area_size (length_of s at) (eqb-true _ _ t) })
    area_why e false t = wrong whole (subst Known (sym e) Why.area) (wrong_area e (eqb-false _ _ t))

    place_why : kind_of s at ≡ 2 → (b : Bool) → eqb (length_of s at) 26 ≡ b → ReadWhy (cond b (Read.Place (number_of s at) false) (Read.Bad WrongLength (length_field at)))
    place_why e true t = a_place (record { whole = whole; of_kind = e; of_size = eqb-true _ _ t })
    place_why e false t = wrong whole (subst Known (sym e) Why.place) (wrong_place e (eqb-false _ _ t))

    pair_why : kind_of s at ≡ 3 → (b : Bool) → eqb (length_of s at) 4 ≡ b → ReadWhy (cond b (Read.Pair (number_of s at) (u16_of s (at + 8))) (Read.Bad WrongLength (length_field at)))
    pair_why e true t = a_pair (record { whole = whole; of_kind = e; of_size = eqb-true _ _ t })
    pair_why e false t = wrong whole (subst Known (sym e) Why.pair) (wrong_pair e (eqb-false _ _ t))

    far_why : kind_of s at ≡ 4 → (b : Bool) → eqb (length_of s at) 26 ≡ b → ReadWhy (cond b (Read.Place (number_of s at) true) (Read.Bad WrongLength (length_field at)))
    far_why e true t = a_far (record { whole = whole; of_kind = e; of_size = eqb-true _ _ t })
    far_why e false t = wrong whole (subst Known (sym e) Why.far) (wrong_far e (eqb-false _ _ t))

    not_known : (kind_of s at ≡ 1 → ⊥) → (kind_of s at ≡ 2 → ⊥) → (kind_of s at ≡ 3 → ⊥) → (kind_of s at ≡ 4 → ⊥) → Known (kind_of s at) → ⊥
    not_known a p q r k = go (kind_of s at) a p q r k
      where
        go : (kind : ℕ) → (kind ≡ 1 → ⊥) → (kind ≡ 2 → ⊥) → (kind ≡ 3 → ⊥) → (kind ≡ 4 → ⊥) → Known kind → ⊥
        go _ a p q r Why.area = a refl
        go _ a p q r Why.place = p refl
        go _ a p q r Why.pair = q refl
        go _ a p q r Why.far = r refl

    kind_why : (a b c d : Bool) → eqb (kind_of s at) 1 ≡ a → eqb (kind_of s at) 2 ≡ b → eqb (kind_of s at) 3 ≡ c → eqb (kind_of s at) 4 ≡ d
        → ReadWhy (cond a (area_at s at (length_of s at)) (cond b (place_at false s at (length_of s at))
        (cond c (pair_at s at (length_of s at)) (cond d (place_at true s at (length_of s at)) (Read.Bad UnknownKind (kind_field at))))))
    unfolding area_at place_at pair_at
    kind_why true b c d p q r t = area_why (eqb-true _ _ p) (eqb (length_of s at % 24) 2) refl
    kind_why false true c d p q r t = place_why (eqb-true _ _ q) (eqb (length_of s at) 26) refl
    kind_why false false true d p q r t = pair_why (eqb-true _ _ r) (eqb (length_of s at) 4) refl
    kind_why false false false true p q r t = far_why (eqb-true _ _ t) (eqb (length_of s at) 26) refl
    kind_why false false false false p q r t = unknown whole (not_known (eqb-false _ _ p) (eqb-false _ _ q) (eqb-false _ _ r) (eqb-false _ _ t))

  read_by : (a b c : Bool) → leb (length s) at ≡ a → ltb (length s) (at + 6) ≡ b → ltb (length s) (at + 6 + length_of s at) ≡ c
      → ReadWhy (cond a Read.End (cond b (Read.Bad CutShort (length s)) (cond c (Read.Bad CutShort (length s)) (kind_at s at (length_of s at)))))
  unfolding kind_at
  read_by true b c p q r = ended (leb-true _ _ p)
  read_by false true c p q r = short (in_head (leb-false _ _ p) (ltb-true _ _ q))
  read_by false false true p q r = short (in_body (ltb-false _ _ q) (ltb-true _ _ r))
  read_by false false false p q r = kind_why (ltb-false _ _ r) (eqb (kind_of s at) 1) (eqb (kind_of s at) 2) (eqb (kind_of s at) 3) (eqb (kind_of s at) 4) refl refl refl refl

  pub read_why : ReadWhy (read_at s at)
  unfolding read_at
  read_why = read_by (leb (length s) at) (ltb (length s) (at + 6)) (ltb (length s) (at + 6 + length_of s at)) refl refl refl

  -- ---- and each reason its reading
  pub short_read : Short s at → read_at s at ≡ Read.Bad CutShort (length s)
  unfolding read_at
  short_read (in_head h g) = rw (lt-leb _ _ h, lt-ltb _ _ g)
  short_read (in_body h g) =
      let here : at < length s = omega arith in
      rw (lt-leb _ _ here, le-ltb _ _ h, lt-ltb _ _ g)

  whole_read : Whole s at → read_at s at ≡ kind_at s at (length_of s at)
  unfolding read_at
  whole_read h =
      let here : at < length s = omega (arith, h) in
      let head : at + 6 ≤ length s = omega (arith, h) in
      rw (lt-leb _ _ here, le-ltb _ _ head, le-ltb _ _ h)

  pub unknown_read : Whole s at → (Known (kind_of s at) → ⊥) → read_at s at ≡ Read.Bad UnknownKind (kind_field at)
  unfolding kind_at
  unknown_read h k =
      let a = ne_eqb (kind_of s at) 1 (λ e. k (subst Known (sym e) Why.area)) in
      let p = ne_eqb (kind_of s at) 2 (λ e. k (subst Known (sym e) Why.place)) in
      let q = ne_eqb (kind_of s at) 3 (λ e. k (subst Known (sym e) Why.pair)) in
      let r = ne_eqb (kind_of s at) 4 (λ e. k (subst Known (sym e) Why.far)) in
      whole_read h ∙ rw (a, p, q, r)

  -- a kind's own reading
  kind_area : kind_of s at ≡ 1 → kind_at s at (length_of s at) ≡ area_at s at (length_of s at)
  unfolding kind_at
  kind_area e = rw (eq-eqb (kind_of s at) 1 e)

  kind_place : kind_of s at ≡ 2 → kind_at s at (length_of s at) ≡ place_at false s at (length_of s at)
  unfolding kind_at
  kind_place e = rw (ne_eqb (kind_of s at) 1 (λ q. let z : ◌≡◌ {A = ℕ} 1 2 = sym q ∙ e in omega arith), eq-eqb (kind_of s at) 2 e)

  kind_pair : kind_of s at ≡ 3 → kind_at s at (length_of s at) ≡ pair_at s at (length_of s at)
  unfolding kind_at
  kind_pair e =
      rw (
        ne_eqb (kind_of s at) 1 (λ q. let z : ◌≡◌ {A = ℕ} 1 3 = sym q ∙ e in omega arith),
        ne_eqb (kind_of s at) 2 (λ q. let z : ◌≡◌ {A = ℕ} 2 3 = sym q ∙ e in omega arith),
        eq-eqb (kind_of s at) 3 e,
      )

  kind_far : kind_of s at ≡ 4 → kind_at s at (length_of s at) ≡ place_at true s at (length_of s at)
  unfolding kind_at
  kind_far e =
      rw (
        ne_eqb (kind_of s at) 1 (λ q. let z : ◌≡◌ {A = ℕ} 1 4 = sym q ∙ e in omega arith),
        ne_eqb (kind_of s at) 2 (λ q. let z : ◌≡◌ {A = ℕ} 2 4 = sym q ∙ e in omega arith),
        ne_eqb (kind_of s at) 3 (λ q. let z : ◌≡◌ {A = ℕ} 3 4 = sym q ∙ e in omega arith),
        eq-eqb (kind_of s at) 4 e,
      )

  module _ (h : Whole s at) (f : Fits (kind_of s at) (length_of s at) → ⊥) where
    area_misfit : kind_of s at ≡ 1 → area_at s at (length_of s at) ≡ Read.Bad WrongLength (length_field at)
    unfolding area_at
    area_misfit e = rw (ne_eqb (length_of s at % 24) 2 (λ q. f (fits_area q)))
      where
        fits_area : length_of s at % 24 ≡ 2 → Fits (kind_of s at) (length_of s at)
        fits_area q = subst (λ (k : ℕ). Fits k (length_of s at)) (sym e) (subst (Fits 1) (sym (area_size (length_of s at) q)) (Why.area (length_of s at / 24)))

    -- by the kind of the two
    place_misfit : (kind : ℕ) (far : Bool) → Fits kind 26 → kind_of s at ≡ kind → place_at far s at (length_of s at) ≡ Read.Bad WrongLength (length_field at)
    unfolding place_at
    place_misfit kind far y e = rw (ne_eqb (length_of s at) 26 (λ q. f (subst (λ (k : ℕ). Fits k (length_of s at)) (sym e) (subst (Fits kind) (sym q) y))))

    pair_misfit : kind_of s at ≡ 3 → pair_at s at (length_of s at) ≡ Read.Bad WrongLength (length_field at)
    unfolding pair_at
    pair_misfit e = rw (ne_eqb (length_of s at) 4 (λ q. f (subst (λ (k : ℕ). Fits k (length_of s at)) (sym e) (subst (Fits 3) (sym q) Why.pair))))

    wrong_by : (kind : ℕ) → kind_of s at ≡ kind → Known kind → kind_at s at (length_of s at) ≡ Read.Bad WrongLength (length_field at)
    wrong_by _ e Why.area = kind_area e ∙ area_misfit e
    wrong_by _ e Why.place = kind_place e ∙ place_misfit 2 false Why.place e
    wrong_by _ e Why.pair = kind_pair e ∙ pair_misfit e
    wrong_by _ e Why.far = kind_far e ∙ place_misfit 4 true Why.far e

    pub wrong_read : Known (kind_of s at) → read_at s at ≡ Read.Bad WrongLength (length_field at)
    wrong_read k = whole_read h ∙ wrong_by (kind_of s at) refl k

  pub area_read : (count : ℕ) → IsArea s at count → read_at s at ≡ Read.Area (number_of s at) count
  unfolding area_at
  area_read count f =
      let size = f.of_size in
      let rest : length_of s at % 24 ≡ 2 = omega (arith, size) in
      let many : length_of s at / 24 ≡ count = omega (arith, size) in
      whole_read f.whole ∙ kind_area f.of_kind ∙ rw (eq-eqb _ _ rest, many)

  pub place_read : Formed s at 2 26 → read_at s at ≡ Read.Place (number_of s at) false
  unfolding place_at
  place_read f = whole_read f.whole ∙ kind_place f.of_kind ∙ rw (eq-eqb _ _ f.of_size)

  pub pair_read : Formed s at 3 4 → read_at s at ≡ Read.Pair (number_of s at) (u16_of s (at + 8))
  unfolding pair_at
  pair_read f = whole_read f.whole ∙ kind_pair f.of_kind ∙ rw (eq-eqb _ _ f.of_size)

  pub far_read : Formed s at 4 26 → read_at s at ≡ Read.Place (number_of s at) true
  unfolding place_at
  far_read f = whole_read f.whole ∙ kind_far f.of_kind ∙ rw (eq-eqb _ _ f.of_size)
