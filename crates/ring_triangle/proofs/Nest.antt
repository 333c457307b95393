-- The source's `inside_or_edge` asks its three sides in a nest of tests. It answers as `fits` does, for every three sides. Assumes nothing.
use mathlib.Core.Path.{◌≡◌, refl}
use mathlib.Core.Bool.{Bool, true, false, ◌&&◌}
use Rattle.std.specs.Prelude.{if◌then◌else◌}
use Rattle.base.specs.declared.Side.{Side}
use Rattle.base.specs.declared.Side.TheVariants.{Left, Right, Collinear}
use Rattle.ring_triangle.specs.Inside.{fits}

abbrev pub on : Side → Bool
on Left = false
on Right = false
on Collinear = true

abbrev pub left : Side → Bool
left Left = true
left Right = false
left Collinear = false

-- test by test, as the source has them
abbrev pub nest : Side → Side → Side → Bool
nest r s t =
    if on r && on s then false else
    if on r && on t then false else
    if on s && on t then false else
    if (on r && left s) && left t then true else
    if (on s && left r) && left t then true else
    if (on t && left r) && left s then true else
    (left r && left s) && left t

pub nest_fits : (r s t : Side) → nest r s t ≡ fits r s t
unfolding fits
nest_fits Left Left Left = refl
nest_fits Left Left Right = refl
nest_fits Left Left Collinear = refl
nest_fits Left Right Left = refl
nest_fits Left Right Right = refl
nest_fits Left Right Collinear = refl
nest_fits Left Collinear Left = refl
nest_fits Left Collinear Right = refl
nest_fits Left Collinear Collinear = refl
nest_fits Right Left Left = refl
nest_fits Right Left Right = refl
nest_fits Right Left Collinear = refl
nest_fits Right Right Left = refl
nest_fits Right Right Right = refl
nest_fits Right Right Collinear = refl
nest_fits Right Collinear Left = refl
nest_fits Right Collinear Right = refl
nest_fits Right Collinear Collinear = refl
nest_fits Collinear Left Left = refl
nest_fits Collinear Left Right = refl
nest_fits Collinear Left Collinear = refl
nest_fits Collinear Right Left = refl
nest_fits Collinear Right Right = refl
nest_fits Collinear Right Collinear = refl
nest_fits Collinear Collinear Left = refl
nest_fits Collinear Collinear Right = refl
nest_fits Collinear Collinear Collinear = refl
