-- `out` by the refusal's number and the opened count. Assumes nothing.
use Prim.Native.Nat.{ℕ, ◌*◌, ◌≤◌, ◌<◌}
use mathlib.Core.Path.{◌≡◌, sym, ap}
use mathlib.Core.List.{List}
use native.Mathlib.Omega.{arith}
use lib.ListN.{length}
use lib.Ieee.{Float}
use borrow.Author.Tests.{lt-ltb, le-ltb}
use Rattle.judge.specs.declared.Refusal.{Refusal}
use Rattle.judge.specs.Refusals.{number}
use Rattle.minor_arc.specs.declared.Mode.{Mode}
use Rattle.loop_header.specs.declared.Header.{Header}
use Rattle.loop_header.specs.Loops.{empty_header}
use Rattle.loop_build.specs.Build.{refused, loop, opened_count, refusal, Lent, made, kept, outcome_of, build_outcome}
use Rattle.loop_build.proofs.Rooms.{Listed, list_fine, room, fine}

module _ (l ps ns : List Float) (cs : List ℕ) where
  pub was_refused : (mode : Mode) (r : Refusal) → number r ≡ refusal l ps ns cs → kept (refused (number r)) ps ns cs ≡ build_outcome mode l ps ns cs
  unfolding build_outcome
  was_refused mode r e = rw (← e)

  module _ {n : ℕ} (z : 0 ≡ refusal l ps ns cs) (o : n ≡ opened_count l) where
    none : refusal l ps ns cs ≡ 0
    none = sym z

    pub listed : Listed l
    listed = list_fine l (fine l ps ns cs none).0

    pub small : n ≤ 512
    small = omega (arith, listed.small, o)

    pub nothing_left : (mode : Mode) {h : Header} → h ≡ empty_header mode → n < 3 → kept (loop h) ps ns cs ≡ build_outcome mode l ps ns cs
    unfolding build_outcome
    nothing_left mode q h = rw (none, ← o, lt-ltb _ _ h, q)

    pub lent : {a b : ℕ} → 3 ≤ n → a ≡ 3 * n → b ≡ n → Lent l n a b (length ps) (length ns) (length cs)
    lent h p q =
        let r = room n (length ps) (length ns) (length cs) (rw o (fine l ps ns cs none).1) h in
        record {
          least = h;
          most = small;
          listed = omega (arith, listed.within, o);
          edges_size = p;
          codes_size = q;
          positions_room = r.for_positions;
          normals_room = r.for_normals;
          classes_room = r.for_classes;
        }

    pub looped : (mode : Mode) {h : Header} {ps' ns' : List Float} {cs' : List ℕ} → 3 ≤ n
        → record { header = h; positions = ps'; normals = ns'; classes = cs' } ≡ made mode l n ps ns cs
        → record { answer = loop h; positions = ps'; normals = ns'; classes = cs' } ≡ build_outcome mode l ps ns cs
    unfolding build_outcome
    looped mode g q = rw (none, ← o, le-ltb _ _ g) (ap outcome_of q)
