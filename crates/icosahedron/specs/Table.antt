-- SCOPE 19: the tables of the full loop, 20 triples over 12 positions that are recorded bit for bit. Definitions only.
use Rattle.std.specs.Prelude.{ℕ, ◌+◌, ◌-◌, ◌*◌, List, [], ◌∷◌, ◌++◌, get_or, Float}
use Rattle.std.specs.Float.{binary64, nan}
use Rattle.std.specs.Float.Ieee.{of_bits}
use Rattle.laws.specs.Loop.{flat}
use Rattle.vec3.specs.declared.Vec3.{Vec3}

abbrev b : ℕ → Float
b n = of_bits binary64 n

-- as docs/CONSTANTS.md has them
unfoldable pub positions : List Float
positions =
    b 0x0000000000000000 ∷
    b 0x0000000000000000 ∷
    b 0x3ff0000000000000 ∷
    b 0x3fec9f25c5bfedd9 ∷
    b 0x0000000000000000 ∷
    b 0x3fdc9f25c5bfedd9 ∷
    b 0x3fd1b06d1d200914 ∷
    b 0x3feb38880b4603e4 ∷
    b 0x3fdc9f25c5bfedd9 ∷
    b 0xbfe727c9716ffb75 ∷
    b 0x3fe0d2ca0da1530e ∷
    b 0x3fdc9f25c5bfedd9 ∷
    b 0xbfe727c9716ffb75 ∷
    b 0xbfe0d2ca0da1530e ∷
    b 0x3fdc9f25c5bfedd9 ∷
    b 0x3fd1b06d1d200914 ∷
    b 0xbfeb38880b4603e4 ∷
    b 0x3fdc9f25c5bfedd9 ∷
    b 0x3fe727c9716ffb76 ∷
    b 0x3fe0d2ca0da1530d ∷
    b 0xbfdc9f25c5bfedd9 ∷
    b 0xbfd1b06d1d200912 ∷
    b 0x3feb38880b4603e5 ∷
    b 0xbfdc9f25c5bfedd9 ∷
    b 0xbfec9f25c5bfedd9 ∷
    b 0x3c9f924f9f58fd97 ∷
    b 0xbfdc9f25c5bfedd9 ∷
    b 0xbfd1b06d1d200912 ∷
    b 0xbfeb38880b4603e5 ∷
    b 0xbfdc9f25c5bfedd9 ∷
    b 0x3fe727c9716ffb76 ∷
    b 0xbfe0d2ca0da1530d ∷
    b 0xbfdc9f25c5bfedd9 ∷
    b 0x0000000000000000 ∷
    b 0x0000000000000000 ∷
    b 0xbff0000000000000 ∷
    []

unfoldable pub triples : List ℕ
triples =
    0 ∷ 1 ∷ 2 ∷
    0 ∷ 2 ∷ 3 ∷
    0 ∷ 3 ∷ 4 ∷
    0 ∷ 4 ∷ 5 ∷
    0 ∷ 5 ∷ 1 ∷
    1 ∷ 2 ∷ 6 ∷
    2 ∷ 3 ∷ 7 ∷
    3 ∷ 4 ∷ 8 ∷
    4 ∷ 5 ∷ 9 ∷
    5 ∷ 1 ∷ 10 ∷
    6 ∷ 7 ∷ 2 ∷
    7 ∷ 8 ∷ 3 ∷
    8 ∷ 9 ∷ 4 ∷
    9 ∷ 10 ∷ 5 ∷
    10 ∷ 6 ∷ 1 ∷
    6 ∷ 7 ∷ 11 ∷
    7 ∷ 8 ∷ 11 ∷
    8 ∷ 9 ∷ 11 ∷
    9 ∷ 10 ∷ 11 ∷
    10 ∷ 6 ∷ 11 ∷
    []

abbrev pub position_at : ℕ → Vec3
position_at i = record { x = get_or positions (3 * i) nan; y = get_or positions (3 * i + 1) nan; z = get_or positions (3 * i + 2) nan }

-- SCOPE 19: the rule by which the triples are numbered, five of each form, the fifth of which closes the round
abbrev top : ℕ → List ℕ
top i = 0 ∷ i ∷ (i + 1) ∷ []

abbrev upper : ℕ → List ℕ
upper i = i ∷ (i + 1) ∷ (i + 5) ∷ []

abbrev lower : ℕ → List ℕ
lower i = i ∷ (i + 1) ∷ (i - 4) ∷ []

abbrev bottom : ℕ → List ℕ
bottom i = i ∷ (i + 1) ∷ 11 ∷ []

unfoldable pub rule : List ℕ
rule =
    flat top 4 1 ++ (0 ∷ 5 ∷ 1 ∷ []) ++ flat upper 4 1 ++ (5 ∷ 1 ∷ 10 ∷ []) ++
    flat lower 4 6 ++ (10 ∷ 6 ∷ 1 ∷ []) ++ flat bottom 4 6 ++ (10 ∷ 6 ∷ 11 ∷ [])
