-- Texts, from their bytes to what is printed, by computation.
use mathlib.Core.Path.{◌≡◌, refl}
use mathlib.Core.List.{[], ◌∷◌, flat_map}
use Rattle.number.specs.Writing.{writing, written}
use Rattle.fields.specs.Lists.{in_turn}
use Rattle.fields.specs.Readers.{each}
use Rattle.fields.specs.Written.{file_of, list_read}
use Rattle.meter.specs.Sheets.{readings, sheet}
use Rattle.output.specs.Words.{ascii}
use Rattle.output.specs.Decimal.{decimal_within}
use Rattle.output.specs.Lines.{text_line}
use Rattle.typed.specs.Text.{after, numbers_from, is_stray, before_stray, starts_number, starts_from}
use Rattle.typing.specs.Printed.{printed_for}
use Rattle.write_days.specs.Printed.{printed_write_days}

pub examples :
    -- two days
    (printed_write_days (ascii "2 # days\n10000 0") ≡ 0x02 ∷ 0x90 ∷ 0x4E ∷ 0x00 ∷ [])
    -- nothing typed; no days; a reading is missing, is over the limit, and is one too many
    × (printed_write_days [] ≡ ascii "R 1 0 0\n")
    × (printed_write_days (ascii " 0") ≡ ascii "R 5 0 1\n")
    × (printed_write_days (ascii "2 7\n") ≡ ascii "R 1 2 4\n")
    × (printed_write_days (ascii "2 7 4000000001") ≡ ascii "R 3 2 4\n")
    × (printed_write_days (ascii "1 7 8") ≡ ascii "R 9 2 4\n")
    -- a stray byte
    × (printed_write_days (ascii "2 7,5 8") ≡ ascii "T 3 44\n")
unfolding writing written in_turn each file_of list_read readings sheet flat_map decimal_within text_line after numbers_from is_stray before_stray starts_number
    starts_from printed_for printed_write_days
examples = (refl, refl, refl, refl, refl, refl, refl)
