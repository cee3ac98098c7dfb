-- The worked period (rule 13.11), walked: the numbers that reading consumes of it, where they start, and which fields they are. And what is consumed
-- of files that are refused.
use mathlib.Core.Path.{◌≡◌, refl}
use mathlib.Core.List.{[], ◌∷◌, flat_map}
use Rattle.number.specs.Groups.{gather, value, padded}
use Rattle.number.specs.Reading.{number, reading, formed, read_at}
use Rattle.number.specs.Counting.{start_of, number_at}
use Rattle.number.specs.Writing.{writing, written}
use Rattle.fields.specs.Readers.{each, reads, consumes}
use Rattle.records.specs.Classes.{classes, class_of}
use Rattle.records.specs.Headers.{announced, header, header_of}
use Rattle.records.specs.Periods.{plant, segment, line, records, period}
use Rattle.records.specs.Numbers.{consumed}
use Rattle.accounts.proofs.Examples.{numbers, whole}
use Rattle.std.specs.Prelude.{Some, None}
use Rattle.inspector.specs.declared.field.Field.TheVariants as Field
use Rattle.inspector.specs.FieldsAt.{field_at}

pub examples :
    -- all its numbers are consumed
    (consumed whole ≡ numbers 10000 5001 14900 6 14899 2000 350)
    -- number 5 starts at byte 6, and the file ends at byte 37
    × (number_at whole 5 ≡ number 1 7)
    × (start_of whole 26 ≡ 37)
    -- the header tells two records of each kind, and so the fields: the header's lines, plant 2's first segment, line 1's factor, none
    × (header_of whole ≡ Some (announced 2 2 2))
    × (field_at (header_of whole) 3 ≡ Field.Header 3)
    × (field_at (header_of whole) 8 ≡ Field.Plant 2 1)
    × (field_at (header_of whole) 15 ≡ Field.Segment 2 2)
    × (field_at (header_of whole) 20 ≡ Field.Line 1 4)
    × (field_at (header_of whole) 26 ≡ Field.After)
    -- an edition that is refused is consumed; behind it the header tells nothing
    × (consumed (0x02 ∷ 0x01 ∷ 0x01 ∷ 0x00 ∷ []) ≡ 2 ∷ [])
    × (header_of (0x02 ∷ 0x01 ∷ 0x01 ∷ 0x00 ∷ []) ≡ None)
    × (field_at None 4 ≡ Field.Untold)
    -- a number that has a fault is not
    × (consumed (0x01 ∷ 0x80 ∷ 0x00 ∷ []) ≡ 1 ∷ [])
unfolding flat_map gather value padded reading formed read_at start_of writing written classes class_of each reads header plant segment
    line records period header_of consumes consumed field_at
examples = (refl, refl, refl, refl, refl, refl, refl, refl, refl, refl, refl, refl, refl)
