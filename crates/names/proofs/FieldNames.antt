-- How long a field's words are at most.
use Prim.Native.Nat.{ℕ, zero, suc, ◌+◌, ◌≤◌}
use native.Mathlib.Omega.{arith}
use lib.ListN.{length, length-append}
use Rattle.inspector.specs.declared.field.Field.{Field}
use Rattle.inspector.specs.declared.field.Field.TheVariants.{Header, Plant, Segment, Line, After, Untold}
use Rattle.output.specs.Lines.{most_spaced}
use Rattle.output.proofs.Room.{spaced_long}
use Rattle.names.specs.FieldWords.{header_words, plant_words, segment_words, line_words, field_text, most_field_words}

-- the most bytes of a field's words, with its record's number
abbrev pub most_field_text : ℕ
most_field_text = most_spaced + most_field_words

-- the words of a header's field
header_words_long : (field : ℕ) → length (header_words field) ≤ most_field_text
header_words_long zero = omega arith
header_words_long (suc zero) = omega arith
header_words_long (suc (suc zero)) = omega arith
header_words_long (suc (suc (suc field))) = omega arith

-- the most bytes of the name behind a record's number
abbrev most_name : ℕ
most_name = 16

plant_words_long : (field : ℕ) → length (plant_words field) ≤ most_name
plant_words_long zero = omega arith
plant_words_long (suc zero) = omega arith
plant_words_long (suc (suc field)) = omega arith

segment_words_long : (field : ℕ) → length (segment_words field) ≤ most_name
segment_words_long zero = omega arith
segment_words_long (suc zero) = omega arith
segment_words_long (suc (suc field)) = omega arith

line_words_long : (field : ℕ) → length (line_words field) ≤ most_name
line_words_long zero = omega arith
line_words_long (suc zero) = omega arith
line_words_long (suc (suc zero)) = omega arith
line_words_long (suc (suc (suc zero))) = omega arith
line_words_long (suc (suc (suc (suc field)))) = omega arith

pub field_long : (field : Field) → length (field_text field) ≤ most_field_text
field_long (Header field) = header_words_long field
field_long (Plant number field) = simp length-append (omega (arith, spaced_long number, plant_words_long field))
field_long (Segment number field) = simp length-append (omega (arith, spaced_long number, segment_words_long field))
field_long (Line number field) = simp length-append (omega (arith, spaced_long number, line_words_long field))
field_long After = omega arith
field_long Untold = omega arith
