-- The worked period (rule 13.11), from the bytes of the file to the printed text, by computation; and what is printed for files that are refused.
use mathlib.Core.Path.{◌≡◌, refl}
use mathlib.Core.List.{[], ◌∷◌, ◌++◌, zip_with, flat_map}
use Rattle.number.specs.Groups.{gather, value, padded}
use Rattle.number.specs.Reading.{reading, read_at, formed}
use Rattle.number.specs.Counting.{start_of}
use Rattle.fields.specs.Readers.{each, reads}
use Rattle.fields.specs.Tests.{tested_by, listed}
use Rattle.fields.specs.Lists.{sum}
use Rattle.records.specs.Classes.{classes, class_of}
use Rattle.records.specs.Headers.{header}
use Rattle.records.specs.Periods as periods
use Rattle.records.specs.Periods.{plant, segment, records, period, period_file}
use Rattle.accounts.specs.Emissions.{chosen, grams_of, emission}
use Rattle.accounts.specs.Flow.{credits_from, passed, turns, arrived}
use Rattle.accounts.specs.Accounts.{set_of, account}
use Rattle.accounts.specs.Rows.{plant_rows, segment_rows}
use Rattle.accounts.specs.Order.{line_tests, emission_tests, segment_tests}
use Rattle.accounts.specs.Quantified.{accounts_of, rows, judged, quantified}
use Rattle.output.specs.Words.{ascii}
use Rattle.output.specs.Decimal.{decimal_within}
use Rattle.output.specs.Lines.{text_line, rows_text}
use Rattle.rows.specs.Printed.{printed_rows}

pub examples :
    -- the worked period
    (printed_rows
    (0x01 ∷ 0x02 ∷ 0x02 ∷ 0x02
    ∷ 0x90 ∷ 0x4E ∷ 0x01 ∷ 0xC0 ∷ 0x84 ∷ 0x3D
    ∷ 0x89 ∷ 0x27 ∷ 0x01 ∷ 0xA0 ∷ 0xF7 ∷ 0x36
    ∷ 0x01 ∷ 0xB4 ∷ 0x74 ∷ 0x02
    ∷ 0x06 ∷ 0xB3 ∷ 0x74 ∷ 0x00
    ∷ 0x00 ∷ 0x01 ∷ 0x04 ∷ 0xD0 ∷ 0x0F ∷ 0xDE ∷ 0x02
    ∷ 0x01 ∷ 0x01 ∷ 0x03 ∷ 0x65 ∷ 0xDA ∷ 0x14
    ∷ [])
    ≡ ascii "P 1 10000 9931 69 9931 879 9052 9 0\n"
    ++ ascii "P 2 5001 4968 33 4471 90 4381 4 0\n"
    ++ ascii "S 1 15001 14900 101 268 3\n"
    ++ ascii "S 2 14900 14899 1 0 3\n")
    -- no bytes; a number that is cut; one not in its shortest form; a wrong edition; no plants
    × (printed_rows [] ≡ ascii "R 1 0 0\n")
    × (printed_rows (0x01 ∷ []) ≡ ascii "R 1 1 1\n")
    × (printed_rows (0x80 ∷ 0x00 ∷ []) ≡ ascii "R 2 0 0\n")
    × (printed_rows (0x02 ∷ []) ≡ ascii "R 4 0 0\n")
    × (printed_rows (0x01 ∷ 0x00 ∷ []) ≡ ascii "R 5 1 1\n")
unfolding gather value padded reading formed zip_with flat_map classes class_of read_at start_of each reads header plant segment periods.line records period
    period_file sum chosen grams_of emission credits_from passed turns arrived set_of account plant_rows segment_rows tested_by listed line_tests emission_tests segment_tests
    accounts_of rows judged quantified decimal_within text_line rows_text printed_rows
examples = (refl, refl, refl, refl, refl, refl)
