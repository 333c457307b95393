-- A ring that is written, at the level of lists. Assumes nothing.
use Prim.Native.Nat.{ℕ, ◌*◌}
use mathlib.Core.Path.{◌≡◌, refl, ap, ◌∙◌}
use mathlib.Core.Bool.{Bool, true, false, not}
use mathlib.Core.List.{List, [], ◌∷◌, ◌++◌}
use native.Mathlib.Omega.{arith}
use lib.ListN.{length, take, drop}
use lib.Seq.{take_at}
use lib.Ieee.{Float}
use Rattle.std.specs.Prelude.{Option}
use Rattle.laws.proofs.Copies.{length_flat}
use Rattle.angle.specs.declared.Angle.{Angle}
use Rattle.angle.specs.Angles.{weak, clockwise}
use Rattle.vec3.specs.declared.Vec3.{Vec3}
use Rattle.cap.specs.declared.Cap.{Cap}
use Rattle.cap.specs.Caps.{bounding_cap}
use Rattle.ring_turns.specs.Turns.{turn_sum, edge_normals}
use Rattle.ring_corners.specs.Corners.{corner_at, class_at, reversal, ring_of, normals_of, classes_of, all_both}
use Rattle.vec3.proofs.Arrays.{size}
use Rattle.ring_cut.specs.Cut.{Ring}
use Rattle.minor_arc.specs.declared.Mode.{Mode}
use Rattle.loop_header.specs.declared.Header.{Header}
use Rattle.loop_header.specs.declared.State.TheVariants as S
use Rattle.loop_header.specs.Loops.{full_header}
use Rattle.loop_build.specs.Build.{Prepared, prepared, insides_for, Ready, Lent, Written, written, ring_header, made}

module _ {l : List Float} {n : ℕ} {reversed : Bool} {edges : List Float} {codes : List ℕ} {p q r : ℕ} (d : Ready l n reversed edges codes p q r) where
  pub codes_size : length codes ≡ n
  codes_size = rw d.prepared_codes (length_flat (λ k. class_at l n reversed k ∷ []) (λ j. refl) n 0)

  ring_size : length (ring_of l n reversed) ≡ 3 * n
  ring_size = size (corner_at l n reversed) n

  -- the front of what the corners were written into is the ring
  pub front : (ps : List Float) {x : List Float} → x ≡ ring_of l n reversed ++ drop (3 * n) ps → take (3 * n) x ≡ ring_of l n reversed
  front ps e = rw e (take_at (ring_of l n reversed) _ (3 * n) ring_size)

  pub front_size : (ps : List Float) {x : List Float} → x ≡ ring_of l n reversed ++ drop (3 * n) ps → length (take (3 * n) x) ≡ 3 * n
  front_size ps e = rw (front ps e) ring_size

  pub is_ring : (ps : List Float) {x : List Float} → x ≡ ring_of l n reversed ++ drop (3 * n) ps → Ring (take (3 * n) x) codes
  is_ring ps e = record {
    whole = front_size ps e ∙ omega (arith, codes_size);
    least = omega (arith, codes_size, d.least);
    most = omega (arith, codes_size, d.most);
  }

  pub all_written : (ps ns : List Float) (cs : List ℕ) {i : Option (Vec3 × Vec3)} {ps' ns' : List Float} {cs' : List ℕ}
      → i ≡ insides_for (take (3 * n) ps') codes → ps' ≡ ring_of l n reversed ++ drop (3 * n) ps → ns' ≡ normals_of l n reversed ++ drop (3 * n) ns
      → cs' ≡ codes ++ drop (length codes) cs → record { insides = i; positions = ps'; normals = ns'; classes = cs' } ≡ written l n reversed ps ns cs
  all_written ps ns cs e p q r = rw (e, front ps p, p, q, r, codes_size, d.prepared_codes)

-- what was prepared
module _ (l : List Float) (n : ℕ) {s : Angle} {edges : List Float} {codes : List ℕ} (e : record { sum = s; edges = edges; classes = codes } ≡ prepared l n) where
  sum_is : s ≡ turn_sum l n
  sum_is = ap (λ (x : Prepared). x.sum) e

  edges_are : edges ≡ edge_normals l n
  edges_are = ap (λ (x : Prepared). x.edges) e

  codes_are : codes ≡ classes_of l n (reversal l n)
  codes_are = ap (λ (x : Prepared). x.classes) e

  turned : {c : Bool} → c ≡ clockwise s → not c ≡ reversal l n
  unfolding reversal
  turned q = rw (q, sum_is)

  pub ready : {a b p q r : ℕ} → Lent l n a b p q r → {c : Bool} → c ≡ clockwise s → Ready l n (not c) edges codes p q r
  ready d h = record {
    least = d.least;
    most = d.most;
    listed = d.listed;
    prepared_edges = edges_are;
    prepared_codes = rw (turned h) codes_are;
    positions_room = d.positions_room;
    normals_room = d.normals_room;
    classes_room = d.classes_room;
  }

  module _ (mode : Mode) (ps ns : List Float) (cs : List ℕ) where
    pub full_made : {b w : Bool} {h : Header} → b ≡ all_both codes → b ≡ true → w ≡ weak s → h ≡ full_header mode w
        → record { header = h; positions = ps; normals = ns; classes = cs } ≡ made mode l n ps ns cs
    unfolding made
    full_made p t q r = rw (← codes_are, ← p, t, r, q, sum_is)

    pub ring_made_lem : {b c w : Bool} {i : Option (Vec3 × Vec3)} {ps' ns' : List Float} {cs' : List ℕ} {cap : Cap}
        → b ≡ all_both codes → b ≡ false → c ≡ clockwise s → record { insides = i; positions = ps'; normals = ns'; classes = cs' } ≡ written l n (not c) ps ns cs
        → cap ≡ bounding_cap l n → w ≡ weak s
        → record { header = record { count = n; state = S.Ring; cap = cap; insides = i; reversed = not c; weak = w; mode = mode }; positions = ps'; normals = ns'; classes = cs' } ≡ made mode l n ps ns cs
    unfolding made ring_header
    ring_made_lem p f h q g k =
        let t = turned h in
        rw (← codes_are, ← p, f, g, k, sum_is, ap (λ (x : Written). x.insides) q, ap (λ (x : Written). x.positions) q, ap (λ (x : Written). x.normals) q, ap (λ (x : Written). x.classes) q, t)
