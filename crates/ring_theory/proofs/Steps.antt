-- One corner cut off a ring of numbers, given by which numbers are on it: its sides before and after, and how the triples run them. Assumes nothing.
use Prim.Native.Nat.{ℕ, ◌+◌, ◌<◌}
use mathlib.Core.Path.{◌≡◌, refl, sym, ◌∙◌, subst, subst₂}
use mathlib.Core.Logic.{◌≢◌}
use mathlib.Core.List.{List, ◌∷◌}
use native.Mathlib.Decide.{ℕ_discrete}
use native.Mathlib.Omega.{arith}
use Rattle.ring_theory.specs.Demand3.{passes, runs, holders}
use Rattle.ring_theory.proofs.Rounds.{Round, rotated, later, not_first, other}
use Rattle.ring_theory.proofs.Sides.{Different, Leg, one, two, three, dec_leg, passes_yes, passes_no, one_way, lies_is}
use Rattle.ring_theory.proofs.Crossings.{Cross, reversed, swapped, from_corner, to_corner, same_triple}

-- v is the next on the ring after u
pub record Side (P : ℕ → Type 0) (u v : ℕ) : Type 0 where
  pub from : P u
  pub to : P v
  pub differ : u ≢ v
  pub bare : (w : ℕ) → P w → ¬ Round u w v

pub next_one : {P : ℕ → Type 0} {u v w : ℕ} → Side P u v → Side P u w → v ≡ w
next_one {v = v} {w = w} s t = go (ℕ_discrete v w)
  where
    go : Dec (v ≡ w) → v ≡ w
    go (yes e) = e
    go (no e) = absurd (s.bare w t.to (other s.differ e t.differ (t.bare v s.to)))

pub last_one : {P : ℕ → Type 0} {u v w : ℕ} → Side P u w → Side P v w → u ≡ v
last_one {u = u} {v = v} s t = go (ℕ_discrete u v)
  where
    go : Dec (u ≡ v) → u ≡ v
    go (yes e) = e
    go (no e) = absurd (s.bare v t.from (rotated (other (λ q. t.differ (sym q)) (λ q. e (sym q)) (λ q. s.differ (sym q)) (λ r. t.bare u s.from (rotated r)))))

-- how the list runs u to v, for the ring that it cuts
pub data Kind (P : ℕ → Type 0) (tris : List ℕ) (u v : ℕ) : Type 0 where
  along : Side P u v → runs u v tris ≡ 1 → runs v u tris ≡ 0 → Kind P tris u v
  against : Side P v u → runs u v tris ≡ 0 → runs v u tris ≡ 1 → Kind P tris u v
  inner : ¬ Side P u v → ¬ Side P v u → P u → P v → runs u v tris ≡ 1 → runs v u tris ≡ 1 → Kind P tris u v
  none : ¬ Side P u v → ¬ Side P v u → runs u v tris ≡ 0 → runs v u tris ≡ 0 → Kind P tris u v

pub flip : {P : ℕ → Type 0} {tris : List ℕ} {u v : ℕ} → Kind P tris u v → Kind P tris v u
flip (along s x y) = against s y x
flip (against s x y) = along s y x
flip (inner s t p q x y) = inner t s q p y x
flip (none s t x y) = none t s y x

-- {u, v} is a side of a triple
abbrev pub On : List ℕ → ℕ → ℕ → Type 0
On tris u v = 0 < runs u v tris + runs v u tris

pub ends : {P : ℕ → Type 0} {tris : List ℕ} {u v : ℕ} → Kind P tris u v → On tris u v → P u × P v
ends (along s x y) h = (s.from, s.to)
ends (against s x y) h = (s.to, s.from)
ends (inner s t p q x y) h = (p, q)
ends (none s t x y) h = absurd (omega arith)

-- what the triples of a ring come to
pub record Net (P : ℕ → Type 0) (tris : List ℕ) : Type 0 where
  pub kind : (u v : ℕ) → Kind P tris u v
  pub held : (u v : ℕ) → holders u v tris ≡ runs u v tris + runs v u tris
  pub clear : (u v w z : ℕ) → On tris u v → On tris w z → Cross u v w z → ⊥

-- Q is the ring P without its corner b, between p and q; and one corner more is left
pub record Cutting (P Q : ℕ → Type 0) (p b q : ℕ) : Type 0 where
  pub before : Side P p b
  pub past : Side P b q
  pub apart : p ≢ q
  pub less : (w : ℕ) → Q w → P w
  pub gone : ¬ Q b
  pub kept : (w : ℕ) → P w → w ≢ b → Q w
  pub more : (x : ℕ) × P x × (x ≢ p) × (x ≢ b) × (x ≢ q)

module _ {P Q : ℕ → Type 0} {p b q : ℕ} (c : Cutting P Q p b q) where
  different : Different p b q
  different = record { ab = c.before.differ; bc = c.past.differ; ac = c.apart }

  -- p to q is a side of what is left
  closing : Side Q p q
  closing =
      record {
        from = c.kept p c.before.from c.before.differ;
        to = c.kept q c.past.to (λ e. c.past.differ (sym e));
        differ = c.apart;
        bare = λ w h r.
            let wb : w ≢ b = λ e. c.gone (subst Q e h) in
            let pbw : Round p b w = other (λ e. not_first r (sym e)) wb c.before.differ (c.before.bare w (c.less w h)) in
            c.past.bare w (c.less w h) (rotated (rotated (later (rotated r) (rotated (rotated pbw)))));
      }

  not_p_q : ¬ Side P p q
  not_p_q s = s.bare b c.past.from (other c.apart (λ e. c.past.differ (sym e)) c.before.differ (c.before.bare q c.past.to))

  not_q_p' : ¬ Side Q q p
  not_q_p' s =
      let x = c.more.0 in
      let h : Q x = c.kept x c.more.1 c.more.3 in
      closing.bare x h (rotated (other (λ e. c.more.4 (sym e)) c.more.2 (λ e. c.apart (sym e)) (s.bare x h)))

  down : {u v : ℕ} → Side P u v → u ≢ b → v ≢ b → Side Q u v
  down {u} {v} s ub vb = record { from = c.kept u s.from ub; to = c.kept v s.to vb; differ = s.differ; bare = λ w h. s.bare w (c.less w h) }

  not_q_p : ¬ Side P q p
  not_q_p s = not_q_p' (down s (λ e. c.past.differ (sym e)) c.before.differ)

  -- a side of what is left, but for p to q, was a side already
  up : {u v : ℕ} → Side Q u v → ¬ ((u ≡ p) × (v ≡ q)) → Side P u v
  up {u} {v} s new = record { from = c.less u s.from; to = c.less v s.to; differ = s.differ; bare = λ w h r. at w h r (ℕ_discrete w b) }
    where
      present : (w : ℕ) → Q w → w ≢ b
      present w h e = c.gone (subst Q e h)

      -- where b would lie between u and v, so would p or q
      over_b : Dec (u ≡ p) → Round u b v → ⊥
      over_b (no e) r =
          s.bare p closing.from (later (rotated (rotated (other (λ x. e (sym x)) (present u s.from) c.before.differ (c.before.bare u (c.less u s.from))))) r)
      over_b (yes e) r =
          let vq : v ≢ q = λ x. new (e, x) in
          let bqv : Round b q v = other (λ x. present v s.to (sym x)) vq c.past.differ (c.past.bare v (c.less v s.to)) in
          s.bare q closing.to (rotated (later (rotated (rotated r)) (rotated (rotated bqv))))

      at : (w : ℕ) → P w → Round u w v → Dec (w ≡ b) → ⊥
      at w h r (yes e) = over_b (ℕ_discrete u p) (subst (λ x. Round u x v) e r)
      at w h r (no e) = s.bare w (c.kept w h e) r

  module _ {rest : List ℕ} (net : Net Q rest) where
    tris : List ℕ
    tris = p ∷ b ∷ q ∷ rest

    -- the triples after the cut have no side at b
    absent : {u v : ℕ} → ¬ (Q u × Q v) → (runs u v rest ≡ 0) × (runs v u rest ≡ 0)
    absent {u} {v} h = go (net.kind u v)
      where
        go : Kind Q rest u v → (runs u v rest ≡ 0) × (runs v u rest ≡ 0)
        go (along s x y) = absurd (h (s.from, s.to))
        go (against s x y) = absurd (h (s.to, s.from))
        go (inner s t x y z k) = absurd (h (x, y))
        go (none s t x y) = (x, y)

    runs_is : (u v : ℕ) → runs u v tris ≡ passes u v p b q + runs u v rest
    unfolding tris runs
    runs_is u v = refl

    new : {u v : ℕ} → Leg p b q u v → ¬ (Q u × Q v) → Side P u v → Kind P tris u v
    new {u} {v} t h s =
        along s (rw (runs_is, passes_yes different t, (absent h).0)) (rw (runs_is, passes_no (one_way different t), (absent h).1))

    at_q_p : Kind P tris q p
    at_q_p = go (net.kind q p)
      where
        t : Leg p b q q p
        t = three refl refl

        go : Kind Q rest q p → Kind P tris q p
        go (along s x y) = absurd (not_q_p' s)
        go (against s x y) = inner not_q_p not_p_q c.past.to c.before.from (rw (runs_is, passes_yes different t, x)) (rw (runs_is, passes_no (one_way different t), y))
        go (inner s k x y z l) = absurd (k closing)
        go (none s k x y) = absurd (k closing)

    leg_kind : {u v : ℕ} → Leg p b q u v → Kind P tris u v
    leg_kind (one e f) = subst₂ (Kind P tris) (sym e) (sym f) (new (one refl refl) (λ h. c.gone h.1) c.before)
    leg_kind (two e f) = subst₂ (Kind P tris) (sym e) (sym f) (new (two refl refl) (λ h. c.gone h.0) c.past)
    leg_kind (three e f) = subst₂ (Kind P tris) (sym e) (sym f) at_q_p

    -- a side that is none of the triple's: the rest runs it as it did
    module _ {u v : ℕ} (s : ¬ Leg p b q u v) (t : ¬ Leg p b q v u) where
      ahead : runs u v tris ≡ runs u v rest
      ahead = rw (runs_is, passes_no s) (omega arith)

      back : runs v u tris ≡ runs v u rest
      back = rw (runs_is, passes_no t) (omega arith)

    no_side : {u v : ℕ} → ¬ Leg p b q u v → ¬ Side Q u v → ¬ Side P u v
    no_side {u} {v} s k l = go (ℕ_discrete u b) (ℕ_discrete v b)
      where
        go : Dec (u ≡ b) → Dec (v ≡ b) → ⊥
        go (yes e) d = s (two e (next_one l (subst (λ x. Side P x q) (sym e) c.past)))
        go (no e) (yes f) = s (one (last_one l (subst (Side P p) (sym f) c.before)) f)
        go (no e) (no f) = k (down l e f)

    staying : {u v : ℕ} → ¬ Leg p b q u v → ¬ Leg p b q v u → Kind Q rest u v → Kind P tris u v
    staying s t (along k x y) = along (up k (λ e. t (three e.1 e.0))) (ahead s t ∙ x) (back s t ∙ y)
    staying s t (against k x y) = against (up k (λ e. s (three e.1 e.0))) (ahead s t ∙ x) (back s t ∙ y)
    staying {u} {v} s t (inner k l x y i j) = inner (no_side s k) (no_side t l) (c.less u x) (c.less v y) (ahead s t ∙ i) (back s t ∙ j)
    staying s t (none k l x y) = none (no_side s k) (no_side t l) (ahead s t ∙ x) (back s t ∙ y)

    kinds : (u v : ℕ) → Kind P tris u v
    kinds u v = go (dec_leg p b q u v) (dec_leg p b q v u)
      where
        go : Dec (Leg p b q u v) → Dec (Leg p b q v u) → Kind P tris u v
        go (yes s) t = leg_kind s
        go (no s) (yes t) = flip (leg_kind t)
        go (no s) (no t) = staying s t (net.kind u v)

    holds : (u v : ℕ) → holders u v tris ≡ runs u v tris + runs v u tris
    unfolding tris runs holders
    holds u v = rw (lies_is u v different, net.held u v) (omega arith)

    -- a side of the triple crosses no chord of what is left
    triple_clear : {u v w z : ℕ} → Leg p b q u v → Q w × Q z → Cross u v w z → ⊥
    triple_clear {w = w} (one e f) h x = c.before.bare w (c.less w h.0) (subst₂ (λ u v. Round u w v) e f x.there)
    triple_clear {w = w} (two e f) h x = c.past.bare w (c.less w h.0) (subst₂ (λ u v. Round u w v) e f x.there)
    triple_clear {z = z} (three e f) h x = closing.bare z h.1 (subst₂ (λ u v. Round u z v) f e x.back)

    data Whose (u v : ℕ) : Type 0 where
      old : On rest u v → Whose u v
      fore : Leg p b q u v → Whose u v
      aft : Leg p b q v u → Whose u v

    whose : {u v : ℕ} → On tris u v → Whose u v
    whose {u} {v} h = go (dec_leg p b q u v) (dec_leg p b q v u)
      where
        go : Dec (Leg p b q u v) → Dec (Leg p b q v u) → Whose u v
        go (yes s) t = fore s
        go (no s) (yes t) = aft t
        go (no s) (no t) = old (omega (arith, ahead s t, back s t))

    old_ends : {u v : ℕ} → On rest u v → Q u × Q v
    old_ends {u} {v} h = ends (net.kind u v) h

    swapped_ends : {u v : ℕ} → On rest u v → Q v × Q u
    swapped_ends h = ((old_ends h).1, (old_ends h).0)

    clears : {u v w z : ℕ} → Whose u v → Whose w z → Cross u v w z → ⊥
    clears {u} {v} {w} {z} (old h) (old k) x = net.clear u v w z h k x
    clears (old h) (fore t) x = triple_clear t (swapped_ends h) (swapped x)
    clears (old h) (aft t) x = triple_clear t (old_ends h) (reversed (swapped x))
    clears (fore s) (old k) x = triple_clear s (old_ends k) x
    clears (fore s) (fore t) x = same_triple s (from_corner t) (to_corner t) x
    clears (fore s) (aft t) x = same_triple s (to_corner t) (from_corner t) x
    clears (aft s) (old k) x = triple_clear s (swapped_ends k) (reversed x)
    clears (aft s) (fore t) x = same_triple s (to_corner t) (from_corner t) (reversed x)
    clears (aft s) (aft t) x = same_triple s (from_corner t) (to_corner t) (reversed x)

    pub step : Net P (p ∷ b ∷ q ∷ rest)
    unfolding tris
    step = record { kind = kinds; held = holds; clear = λ u v w z h k. clears (whose h) (whose k) }
