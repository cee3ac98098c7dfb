-- Texts, from their bytes to what is printed, by computation.
use mathlib.Core.Path.{◌≡◌, refl}
use mathlib.Core.List.{[], ◌∷◌, flat_map}
use Rattle.number.specs.Writing.{writing, written}
use Rattle.fields.specs.Lists.{in_turn}
use Rattle.fields.specs.Readers.{each}
use Rattle.fields.specs.Written.{file_of, list_read}
use Rattle.records.specs.Classes.{classes, class_of}
use Rattle.records.specs.Headers.{header}
use Rattle.records.specs.Periods as periods
use Rattle.records.specs.Periods.{plant, segment, records, period}
use Rattle.output.specs.Words.{ascii}
use Rattle.output.specs.Decimal.{decimal_within}
use Rattle.output.specs.Lines.{text_line}
use Rattle.typed.specs.Text.{after, numbers_from, is_stray, before_stray, starts_number, starts_from}
use Rattle.typing.specs.Printed.{printed_for}
use Rattle.write.specs.Printed.{printed_write}

pub examples :
    -- one plant, one segment, no lines
    (printed_write (ascii "1 1 1 0 # counts\n10000 1 1000000\n6 10000 0\n") ≡ 0x01 ∷ 0x01 ∷ 0x01 ∷ 0x00 ∷ 0x90 ∷ 0x4E ∷ 0x01 ∷ 0xC0 ∷ 0x84 ∷ 0x3D ∷ 0x06 ∷ 0x90 ∷ 0x4E ∷ 0x00 ∷ [])
    -- nothing typed; a wrong edition; no plants; a plant's segment that there is not; a number too many
    × (printed_write [] ≡ ascii "R 1 0 0\n")
    × (printed_write (ascii " 2") ≡ ascii "R 4 0 1\n")
    × (printed_write (ascii "1 0") ≡ ascii "R 5 1 2\n")
    × (printed_write (ascii "1 1 1 0 # counts\n10000 2") ≡ ascii "R 6 5 23\n")
    × (printed_write (ascii "1 1 1 0 10000 1 1000000 6 10000 0 7") ≡ ascii "R 9 10 34\n")
    -- a stray byte
    × (printed_write (ascii "1 2,2") ≡ ascii "T 3 44\n")
unfolding writing written in_turn each file_of list_read classes class_of header plant segment periods.line records period flat_map decimal_within text_line after
    numbers_from is_stray before_stray starts_number starts_from printed_for printed_write
examples = (refl, refl, refl, refl, refl, refl, refl)
