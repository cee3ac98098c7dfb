-- Sheets, from their bytes to the printed line, by computation.
use mathlib.Core.Path.{◌≡◌, refl}
use mathlib.Core.List.{[], ◌∷◌, flat_map}
use Rattle.number.specs.Groups.{gather, value, padded}
use Rattle.number.specs.Reading.{formed, reading, read_at}
use Rattle.fields.specs.Lists.{sum}
use Rattle.fields.specs.Readers.{each, reads}
use Rattle.meter.specs.Sheets.{readings, sheet, sheet_file}
use Rattle.meter.specs.Figures.{repeats_after, repeats, shows, run_from, longest_run, earliest, figures_of}
use Rattle.meter.specs.Days.{meter_days}
use Rattle.output.specs.Words.{ascii}
use Rattle.output.specs.Decimal.{decimal_within}
use Rattle.output.specs.Lines.{text_line}
use Rattle.days.specs.Printed.{printed_days}

pub examples :
    -- 10000, 5001, 5001, 0, 0, 0
    (printed_days (0x06 ∷ 0x90 ∷ 0x4E ∷ 0x89 ∷ 0x27 ∷ 0x89 ∷ 0x27 ∷ 0x00 ∷ 0x00 ∷ 0x00 ∷ []) ≡ ascii "20002 1 2 2 2\n")
    -- a meter that shows nothing
    × (printed_days (0x01 ∷ 0x00 ∷ []) ≡ ascii "0 0 0 0 0\n")
    -- no bytes; no days; a byte behind the last reading
    × (printed_days [] ≡ ascii "R 1 0 0\n")
    × (printed_days (0x00 ∷ []) ≡ ascii "R 5 0 0\n")
    × (printed_days (0x01 ∷ 0x07 ∷ 0x00 ∷ []) ≡ ascii "R 9 2 2\n")
unfolding gather value padded formed reading read_at reads each readings sheet sheet_file sum repeats_after repeats shows run_from longest_run
    earliest figures_of meter_days flat_map decimal_within text_line printed_days
examples = (refl, refl, refl, refl, refl)
