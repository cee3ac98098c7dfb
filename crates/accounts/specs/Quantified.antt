-- The answer to a period file, for every file and every length of both tables.
use Rattle.std.specs.Prelude.{ℕ, List, ◌++◌, map, length}
use Rattle.fields.specs.Readers.{Read, read, refused}
use Rattle.records.specs.Periods.{Period, period_file}
use Rattle.records.specs.Places.{line_start}
use Rattle.records.specs.Within.{counts_of}
use Rattle.accounts.specs.Flow.{Standing, at_first, Turn, turns, arrived}
use Rattle.accounts.specs.Accounts.{Account, account}
use Rattle.accounts.specs.Rows.{plant_rows, segment_rows}
use Rattle.accounts.specs.Order.{Ruling, refusal, accepted, tested, emission_tests, segment_tests, table_tests}

-- Where the plants of a period start (rule 5.2).
abbrev pub started : Period → List Standing
started period = map at_first period.plants

-- The turns of a period's segments, from segment 1 on (rule 5.1).
abbrev pub turns_of : Period → List Turn
turns_of period = turns 1 period.segments (started period)

-- The account of each turn (rule 5.3).
unfoldable pub accounts_of : Period → List Account
accounts_of period = map (account period.lines) (turns_of period)

-- Where the plants are after all turns: the amount is what is stored (rule 5.6).
abbrev pub stores : Period → List Standing
stores period = arrived 1 period.segments (started period)

-- Acceptance, with the rows of both tables (rules 7.1 and 7.2).
unfoldable pub rows : Period → List Account → Ruling
rows period accounts =
    accepted
    (plant_rows period.lines accounts 0 period.plants (stores period))
    (segment_rows accounts)

-- The ruling on a period that was read from a file: the tests 10 to 16, with tables of these lengths (rules 8.5 to 8.10).
unfoldable pub judged : (file : List ℕ) → Period → List Account → (plant_table segment_table : ℕ) → Ruling
judged file period accounts plant_table segment_table =
    tested
    (emission_tests (line_start file (counts_of period)) (length file) (length period.plants) period.lines
    ++ (segment_tests (length file) accounts
    ++ table_tests (length file) (counts_of period) plant_table segment_table))
    (rows period accounts)

-- A refusal of reading is the answer; a period that was read is judged (rule 8.8).
abbrev pub after_reading : (file : List ℕ) → Read Period → (plant_table segment_table : ℕ) → Ruling
after_reading file (refused notice) plant_table segment_table = refusal notice
after_reading file (read period place at) plant_table segment_table = judged file period (accounts_of period) plant_table segment_table

-- The answer to a file, with tables of these lengths (rule 8.8).
unfoldable pub quantified : List ℕ → (plant_table segment_table : ℕ) → Ruling
quantified file plant_table segment_table = after_reading file (period_file file) plant_table segment_table
