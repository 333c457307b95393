-- What the inner functions need of a loop and a query, or of two loops, without a refusal. Assumes nothing.
use Prim.Native.Nat.{ℕ, ◌*◌, ◌≤◌}
use mathlib.Core.Path.{◌≡◌, sym}
use mathlib.Core.List.{List}
use native.Mathlib.Omega.{arith}
use lib.ListN.{length}
use lib.Ieee.{Float}
use Rattle.laws.proofs.Firsts.{first_zero_lem}
use Rattle.vec3.specs.declared.Vec3.{Vec3}
use Rattle.loop_header.specs.declared.Header.{Header}
use Rattle.loop_header.specs.Loops.{loop_fault}
use Rattle.loop_header.proofs.Sounds.{Sound, sound, sound_most, sound_positions, sound_classes}
use Rattle.loop_ask.specs.Questions.{query_fault, pair_fault, Comparable}

module _ (h : Header) (ps ns : List Float) (cs : List ℕ) where
  pub loop_most : 0 ≡ loop_fault h ps ns cs → h.count ≤ 512
  loop_most e = sound_most (sound h ps ns cs (sym e))

  pub loop_positions : 0 ≡ loop_fault h ps ns cs → 3 * h.count ≤ length ps
  loop_positions e = omega (arith, sound_positions (sound h ps ns cs (sym e)))

  pub loop_normals : 0 ≡ loop_fault h ps ns cs → 3 * h.count ≤ length ns
  loop_normals e = let s = sound h ps ns cs (sym e) in omega (arith, s.normals)

  module _ (p : Vec3) (e : 0 ≡ query_fault h ps ns cs p) where
    loop_of_query : 0 ≡ loop_fault h ps ns cs
    unfolding query_fault
    loop_of_query = sym (first_zero_lem _ _ (sym e)).0

    pub query_most : h.count ≤ 512
    query_most = loop_most loop_of_query

    pub query_positions : 3 * h.count ≤ length ps
    query_positions = loop_positions loop_of_query

    pub query_normals : 3 * h.count ≤ length ns
    query_normals = loop_normals loop_of_query

-- two loops, neither of which is refused
module _ (h : Header) (ps ns : List Float) (cs : List ℕ) (o : Header) (qs ms : List Float) (ds : List ℕ) (e : 0 ≡ pair_fault h ps ns cs o qs ms ds) where
  pub both_sound : Sound h ps ns cs × Sound o qs ms ds
  unfolding pair_fault
  both_sound =
      let a = first_zero_lem _ _ (sym e) in
      (sound h ps ns cs a.0, sound o qs ms ds a.1)

  pub comparable : Comparable h ps cs o qs ds
  comparable =
      let s = both_sound in
      record {
        most = sound_most s.0;
        positions = sound_positions s.0;
        classes = sound_classes s.0;
        others = sound_positions s.1;
        codes = sound_classes s.1;
      }
