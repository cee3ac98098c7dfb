-- What is printed for a period file (rules 11.1 and 11.2).
use Rattle.std.specs.Prelude.{ℕ, ◌+◌, ◌*◌, List, ◌++◌}
use Rattle.records.specs.Plants.{most_plants}
use Rattle.records.specs.Segments.{most_segments}
use Rattle.accounts.specs.Order.{Ruling, refusal, accepted, plant_row_numbers, segment_row_numbers}
use Rattle.accounts.specs.Quantified.{quantified}
use Rattle.output.specs.Words.{ascii}
use Rattle.output.specs.Lines.{refusal_text, table_text, most_in_rows}

-- By the ruling on a file: the rows of its plants and then of its segments, or the line of a refused file.
abbrev pub ruling_text : Ruling → List ℕ
ruling_text (accepted plants segments) = table_text (ascii "P") plant_row_numbers plants ++ table_text (ascii "S") segment_row_numbers segments
ruling_text (refusal notice) = refusal_text notice

-- The ruling on a file, with room for the rows of every period, so that there is no 14 or 15.
abbrev pub ruling_on_file : List ℕ → Ruling
ruling_on_file file = quantified file (plant_row_numbers * most_plants) (segment_row_numbers * most_segments)

-- The text that is printed for a file (rules 11.1 and 11.2).
unfoldable pub printed_rows : List ℕ → List ℕ
printed_rows file = ruling_text (ruling_on_file file)

-- The most bytes that are printed: the rows of the most plants and segments.
abbrev pub most_rows_text : ℕ
most_rows_text = most_in_rows most_plants plant_row_numbers + most_in_rows most_segments segment_row_numbers
