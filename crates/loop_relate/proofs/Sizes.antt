-- The sizes of two loops that are not refused. Assumes nothing.
use Prim.Native.Nat.{ℕ, ◌*◌, ◌≤◌}
use mathlib.Core.Path.{◌≡◌}
use mathlib.Core.List.{List}
use native.Mathlib.Omega.{arith}
use lib.ListN.{length}
use lib.Ieee.{Float}
use Rattle.loop_header.specs.declared.Header.{Header}
use Rattle.loop_header.proofs.Sounds.{Sound, sound_most, sound_positions}
use Rattle.loop_ask.specs.Questions.{pair_fault}
use Rattle.loop_ask.proofs.Judged.{both_sound}
use Rattle.loop_relate.specs.Relations.{Sized}

three_positions : {h : Header} {ps ns : List Float} {cs : List ℕ} → Sound h ps ns cs → 3 * h.count ≤ length ps
three_positions s = omega (arith, sound_positions s)

three_normals : {h : Header} {ps ns : List Float} {cs : List ℕ} → Sound h ps ns cs → 3 * h.count ≤ length ns
three_normals s = omega (arith, s.normals)

pub sized : (h : Header) (ps ns : List Float) (cs : List ℕ) (o : Header) (qs ms : List Float) (ds : List ℕ) → 0 ≡ pair_fault h ps ns cs o qs ms ds → Sized h ps ns o qs ms
sized h ps ns cs o qs ms ds e =
    let s = both_sound h ps ns cs o qs ms ds e in
    record {
      most = sound_most s.0;
      positions = three_positions s.0;
      normals = three_normals s.0;
      other_most = sound_most s.1;
      other_positions = three_positions s.1;
      other_normals = three_normals s.1;
    }
