-- A sum of squares in range has finite terms alone. Assumes nothing.
use mathlib.Core.Path.{◌≡◌, refl, sym, ◌∙◌}
use mathlib.Core.Bool.{Bool, true, false, ◌&&◌, true≢false}
use lib.Ieee.{Float, nan, inf, fin, of_bits, add, mul, le}
use Rattle.numbers.specs.F64.{◌⊕◌, ◌⊗◌}
use Rattle.numbers.specs.Finite.{finite}
use Rattle.vec3.specs.declared.Vec3.{Vec3}
use Rattle.judge.specs.Judge.{finite_vec, in_range, within_range, vector_fault, fault_of}

-- NaN and plus infinity: what a sum of squares is that has a term which is not finite
data Off : Float → Type 0 where
  no : Off nan
  far : Off (inf false)

square_off : (x : Float) → finite x ≡ false → Off (x ⊗ x)
unfolding mul
square_off nan e = no
square_off (inf true) e = far
square_off (inf false) e = far
square_off (fin s m e) h = absurd (true≢false h)

add_left : {x : Float} (y : Float) → Off x → Off (x ⊕ y)
unfolding add
add_left y no = no
add_left nan far = no
add_left (inf true) far = no
add_left (inf false) far = far
add_left (fin s m e) far = far

add_right : (x : Float) {y : Float} → Off y → Off (x ⊕ y)
unfolding add
add_right nan no = no
add_right (inf s) no = no
add_right (fin s m e) no = no
add_right nan far = no
add_right (inf true) far = no
add_right (inf false) far = far
add_right (fin s m e) far = far

off_range : {d : Float} → Off d → in_range d ≡ false
unfolding le of_bits
off_range no = refl
off_range far = refl

-- in range, so finite: by the first term that is not
terms : (x y z : Float) (a b c : Bool) → finite x ≡ a → finite y ≡ b → finite z ≡ c → in_range (x ⊗ x ⊕ y ⊗ y ⊕ z ⊗ z) ≡ true → (a && b) && c ≡ true
terms x y z true true true p q r h = refl
terms x y z true true false p q r h = sym (off_range (add_right (x ⊗ x ⊕ y ⊗ y) (square_off z r))) ∙ h
terms x y z true false c p q r h = sym (off_range (add_left (z ⊗ z) (add_right (x ⊗ x) (square_off y q)))) ∙ h
terms x y z false b c p q r h = sym (off_range (add_left (z ⊗ z) (add_left (y ⊗ y) (square_off x p)))) ∙ h

pub finite_within : (v : Vec3) → within_range v ≡ true → finite_vec v ≡ true
finite_within v h = terms v.x v.y v.z (finite v.x) (finite v.y) (finite v.z) refl refl refl h

pub within_fault : (v : Vec3) → within_range v ≡ true → fault_of v ≡ 0
unfolding fault_of vector_fault
within_fault v h = rw (finite_within v h, h)

pub off_fault : (v : Vec3) → within_range v ≡ false → fault_of v ≡ vector_fault v 4
unfolding fault_of
off_fault v h = rw h
