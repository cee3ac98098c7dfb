-- The words for a field (rule 11.5).
use Rattle.std.specs.Prelude.{ℕ, zero, suc, List, ◌++◌}
use Rattle.inspector.specs.declared.field.Field.{Field}
use Rattle.inspector.specs.declared.field.Field.TheVariants.{Header, Plant, Segment, Line, After, Untold}
use Rattle.output.specs.Words.{ascii}
use Rattle.output.specs.Lines.{spaced}

-- ---- the fields of a record, from 0 on; the last name is for all that are left
abbrev pub header_words : ℕ → List ℕ
header_words zero = ascii " edition"
header_words (suc zero) = ascii " plants"
header_words (suc (suc zero)) = ascii " segments"
header_words (suc (suc (suc more))) = ascii " lines"

abbrev pub plant_words : ℕ → List ℕ
plant_words zero = ascii " exported"
plant_words (suc zero) = ascii " first segment"
plant_words (suc (suc more)) = ascii " origin fraction"

abbrev pub segment_words : ℕ → List ℕ
segment_words zero = ascii " kind"
segment_words (suc zero) = ascii " metered outflow"
segment_words (suc (suc more)) = ascii " next segment"

abbrev pub line_words : ℕ → List ℕ
line_words zero = ascii " owner kind"
line_words (suc zero) = ascii " owner number"
line_words (suc (suc zero)) = ascii " class"
line_words (suc (suc (suc zero))) = ascii " quantity"
line_words (suc (suc (suc (suc more)))) = ascii " factor"

-- ---- behind the record's name and number
abbrev pub plant_text : (number field : ℕ) → List ℕ
plant_text number field = ascii " plant" ++ spaced number ++ plant_words field

abbrev pub segment_text : (number field : ℕ) → List ℕ
segment_text number field = ascii " segment" ++ spaced number ++ segment_words field

abbrev pub line_text : (number field : ℕ) → List ℕ
line_text number field = ascii " line" ++ spaced number ++ line_words field

-- The words for a field, without its record's name and number.
abbrev pub field_words : Field → List ℕ
field_words (Header field) = header_words field
field_words (Plant number field) = plant_words field
field_words (Segment number field) = segment_words field
field_words (Line number field) = line_words field
field_words After = ascii " after the last number"
field_words Untold = ascii " not told by the header"

-- Which field of which record it is (rule 11.5).
abbrev pub field_text : Field → List ℕ
field_text (Header field) = header_words field
field_text (Plant number field) = plant_text number field
field_text (Segment number field) = segment_text number field
field_text (Line number field) = line_text number field
field_text After = ascii " after the last number"
field_text Untold = ascii " not told by the header"

-- The most bytes of a field's words, without its record's number.
abbrev pub most_field_words : ℕ
most_field_words = 24
