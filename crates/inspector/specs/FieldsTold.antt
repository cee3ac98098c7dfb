-- What the theorems say of a field: the number in it, and the refusal that is due to it (rule 11.5).
use Rattle.std.specs.Prelude.{ℕ, zero, suc, ◌-◌, get_or}
use Rattle.fields.specs.declared.reason.Reason.TheVariants.{WrongEdition, WrongCount, WrongPlant, WrongSegment, WrongLine, BytesAfter}
use Rattle.fields.specs.Reasons.{number_of}
use Rattle.records.specs.Plants.{no_plant}
use Rattle.records.specs.Segments.{no_segment}
use Rattle.records.specs.Lines.{no_line}
use Rattle.records.specs.Periods.{Period}
use Rattle.records.specs.Numbers.{header_numbers_of, plant_numbers_of, segment_numbers_of, line_numbers_of}
use Rattle.inspector.specs.declared.field.Field.{Field}

-- The number in a field of a period; 0 if there is no such field.
abbrev pub stands_in : Field → Period → ℕ
stands_in (Field.Header field) period = get_or (header_numbers_of period) field 0
stands_in (Field.Plant number field) period = get_or (plant_numbers_of (get_or period.plants (number - 1) no_plant)) field 0
stands_in (Field.Segment number field) period = get_or (segment_numbers_of (get_or period.segments (number - 1) no_segment)) field 0
stands_in (Field.Line number field) period = get_or (line_numbers_of (get_or period.lines (number - 1) no_line)) field 0
stands_in Field.After period = 0
stands_in Field.Untold period = 0

-- The refusal for a number in this field that is not allowed, 4 to 8; behind the last number 9; 0, which is none, if the header tells nothing.
abbrev pub refusal_due : Field → ℕ
refusal_due (Field.Header zero) = number_of WrongEdition
refusal_due (Field.Header (suc field)) = number_of WrongCount
refusal_due (Field.Plant number field) = number_of WrongPlant
refusal_due (Field.Segment number field) = number_of WrongSegment
refusal_due (Field.Line number field) = number_of WrongLine
refusal_due Field.After = number_of BytesAfter
refusal_due Field.Untold = 0
