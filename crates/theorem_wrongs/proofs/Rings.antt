-- The rings of the examples as built in plain mode, so that each is computed once: whether it is reversed, and its classes. Assumes nothing.
use mathlib.Core.Path.{◌≡◌, refl}
use mathlib.Core.Bool.{true, false}
use mathlib.Core.List.{[], ◌∷◌}
use Rattle.minor_arc.specs.declared.Mode.TheVariants.{Plain}
use Rattle.theorem_settled.specs.Settled.{built, area_1, four_corners}
use Rattle.theorem_settled.proofs.Computing as Computing
use Rattle.theorem_modes.proofs.Rings.{ring, as_built}
use Rattle.theorem_wrongs.specs.Wrongs.{area_2, across, one_mean, round_z, repeated, five_positions, to_and_fro, ear_at_first, ear_at_last}

pub area_1_built : built area_1 3 ≡ ring Plain area_1 3 true (0 ∷ 0 ∷ 0 ∷ [])
unfolding Computing.of_building
area_1_built = as_built Plain area_1 3 true (0 ∷ 0 ∷ 0 ∷ []) (record { fine = refl; counted = refl; more = refl; turned = refl; classed = refl; other = refl })

pub area_2_built : built area_2 3 ≡ ring Plain area_2 3 false (0 ∷ 0 ∷ 0 ∷ [])
unfolding Computing.of_building
area_2_built = as_built Plain area_2 3 false (0 ∷ 0 ∷ 0 ∷ []) (record { fine = refl; counted = refl; more = refl; turned = refl; classed = refl; other = refl })

pub across_built : built across 3 ≡ ring Plain across 3 false (0 ∷ 0 ∷ 0 ∷ [])
unfolding Computing.of_building
across_built = as_built Plain across 3 false (0 ∷ 0 ∷ 0 ∷ []) (record { fine = refl; counted = refl; more = refl; turned = refl; classed = refl; other = refl })

pub one_mean_built : built one_mean 4 ≡ ring Plain one_mean 4 false (2 ∷ 2 ∷ 0 ∷ 2 ∷ [])
unfolding Computing.of_building
one_mean_built = as_built Plain one_mean 4 false (2 ∷ 2 ∷ 0 ∷ 2 ∷ []) (record { fine = refl; counted = refl; more = refl; turned = refl; classed = refl; other = refl })

pub repeated_built : built repeated 4 ≡ ring Plain repeated 4 true (0 ∷ 1 ∷ 2 ∷ 0 ∷ [])
unfolding Computing.of_building
repeated_built = as_built Plain repeated 4 true (0 ∷ 1 ∷ 2 ∷ 0 ∷ []) (record { fine = refl; counted = refl; more = refl; turned = refl; classed = refl; other = refl })

pub four_corners_built : built four_corners 4 ≡ ring Plain four_corners 4 true (0 ∷ 0 ∷ 0 ∷ 0 ∷ [])
unfolding Computing.of_building
four_corners_built = as_built Plain four_corners 4 true (0 ∷ 0 ∷ 0 ∷ 0 ∷ []) (record { fine = refl; counted = refl; more = refl; turned = refl; classed = refl; other = refl })

pub five_positions_built : built five_positions 5 ≡ ring Plain five_positions 5 true (0 ∷ 1 ∷ 0 ∷ 2 ∷ 2 ∷ [])
unfolding Computing.of_building
five_positions_built = as_built Plain five_positions 5 true (0 ∷ 1 ∷ 0 ∷ 2 ∷ 2 ∷ []) (record { fine = refl; counted = refl; more = refl; turned = refl; classed = refl; other = refl })

pub to_and_fro_built : built to_and_fro 5 ≡ ring Plain to_and_fro 5 false (0 ∷ 0 ∷ 1 ∷ 0 ∷ 0 ∷ [])
unfolding Computing.of_building
to_and_fro_built = as_built Plain to_and_fro 5 false (0 ∷ 0 ∷ 1 ∷ 0 ∷ 0 ∷ []) (record { fine = refl; counted = refl; more = refl; turned = refl; classed = refl; other = refl })

pub ear_at_first_built : built ear_at_first 5 ≡ ring Plain ear_at_first 5 true (0 ∷ 2 ∷ 2 ∷ 1 ∷ 2 ∷ [])
unfolding Computing.of_building
ear_at_first_built = as_built Plain ear_at_first 5 true (0 ∷ 2 ∷ 2 ∷ 1 ∷ 2 ∷ []) (record { fine = refl; counted = refl; more = refl; turned = refl; classed = refl; other = refl })

pub ear_at_last_built : built ear_at_last 5 ≡ ring Plain ear_at_last 5 false (2 ∷ 2 ∷ 2 ∷ 2 ∷ 0 ∷ [])
unfolding Computing.of_building
ear_at_last_built = as_built Plain ear_at_last 5 false (2 ∷ 2 ∷ 2 ∷ 2 ∷ 0 ∷ []) (record { fine = refl; counted = refl; more = refl; turned = refl; classed = refl; other = refl })

pub round_z_built : built round_z 3 ≡ ring Plain round_z 3 true (0 ∷ 0 ∷ 0 ∷ [])
unfolding Computing.of_building
round_z_built = as_built Plain round_z 3 true (0 ∷ 0 ∷ 0 ∷ []) (record { fine = refl; counted = refl; more = refl; turned = refl; classed = refl; other = refl })
