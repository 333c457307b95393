-- SCOPE 30, 46, 52: the text of a scene's lines, as bytes. Definitions only.
use Rattle.std.specs.Prelude.{ℕ, List, ◌++◌}
use Rattle.loop_header.specs.declared.Header.{Header}
use Rattle.loop_header.specs.Loops.{mute}
use Rattle.scene_words.specs.Bytes.{bytes}
use Rattle.scene_words.specs.Words.{decimal, hex, state_word, turned_word, sure_word, place_word, relation_word}
use Rattle.scene_lines.specs.declared.Line.{Line}
use Rattle.scene_lines.specs.declared.Line.TheVariants.{Area, Place, Pair, Far, End, Refused, RefusedAt}

abbrev pub marks_words : Header → List ℕ
marks_words h = state_word h.state (mute h) ++ turned_word h.reversed ++ sure_word h.weak

-- number, count, state, whether reversed, whether weak, how many triangles
unfoldable pub area_line : ℕ → Header → ℕ → List ℕ
area_line number h triangles =
    bytes "area " ++ decimal number ++ bytes " " ++ decimal h.count ++ marks_words h ++ decimal triangles ++ bytes "\n"

-- the area, and where the place lies
unfoldable pub place_line : ℕ → ℕ → List ℕ
place_line number answer = bytes "place " ++ decimal number ++ place_word answer

-- both areas, and the relation
unfoldable pub pair_line : ℕ → ℕ → ℕ → List ℕ
pair_line first second relation = bytes "pair " ++ decimal first ++ bytes " " ++ decimal second ++ relation_word relation

-- SCOPE 52: the area, and the bits of the squared chord
unfoldable pub far_line : ℕ → ℕ → List ℕ
far_line number bits = bytes "far " ++ decimal number ++ bytes " " ++ hex bits ++ bytes "\n"

-- how many records there were
unfoldable pub end_line : ℕ → List ℕ
end_line records = bytes "end " ++ decimal records ++ bytes "\n"

-- SCOPE 46: the refusal's number, and the offsets of its record and of its field
abbrev pub refusal_words : ℕ → ℕ → ℕ → List ℕ
refusal_words number offset field = bytes "refused " ++ decimal number ++ bytes " at " ++ decimal offset ++ bytes " " ++ decimal field

unfoldable pub refused_line : ℕ → ℕ → ℕ → List ℕ
refused_line number offset field = refusal_words number offset field ++ bytes "\n"

-- the same with the index of a position in its list
unfoldable pub refused_at_line : ℕ → ℕ → ℕ → ℕ → List ℕ
refused_at_line number offset field index = refusal_words number offset field ++ bytes " " ++ decimal index ++ bytes "\n"

-- a line by its kind
abbrev pub line_text : Line → List ℕ
line_text (Area number h triangles) = area_line number h triangles
line_text (Place number answer) = place_line number answer
line_text (Pair first second relation) = pair_line first second relation
line_text (Far number bits) = far_line number bits
line_text (End records) = end_line records
line_text (Refused number offset field) = refused_line number offset field
line_text (RefusedAt number offset field index) = refused_at_line number offset field index

-- the most bytes that a line takes: no number has more than five digits
unfoldable pub room_of : Line → ℕ
room_of (Area number h triangles) = 45
room_of (Place number answer) = 20
room_of (Pair first second relation) = 30
room_of (Far number bits) = 27
room_of (End records) = 10
room_of (Refused number offset field) = 29
room_of (RefusedAt number offset field index) = 35
