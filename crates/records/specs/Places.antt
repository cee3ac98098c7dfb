-- Where the records of a file are: behind the header P plants, then S segments, then L lines, each with a number for each of its fields.
use Rattle.std.specs.Prelude.{ℕ, ◌+◌, ◌*◌, List}
use Rattle.number.specs.Counting.{start_of}
use Rattle.records.specs.declared.counts.Counts.{Counts}
use Rattle.records.specs.Plants.{plant_fields}
use Rattle.records.specs.Segments.{segment_fields}
use Rattle.records.specs.Lines.{line_fields}
use Rattle.records.specs.Headers.{header_fields}

-- The place of the first number of a plant, and below of a segment and of a line, each at an index from 0 (rules 2.1 and 2.2).
abbrev pub plant_place : ℕ → ℕ
plant_place index = header_fields + plant_fields * index

abbrev pub segment_place : Counts → ℕ → ℕ
segment_place counts index = plant_place counts.plants + segment_fields * index

abbrev pub line_place : Counts → ℕ → ℕ
line_place counts index = segment_place counts counts.segments + line_fields * index

-- How many numbers a file with these counts has (rule 2.2).
abbrev pub number_count : Counts → ℕ
number_count counts = line_place counts counts.lines

-- The first byte of the line at an index from 0: that of its first number (rule 8.9).
abbrev pub line_start : List ℕ → Counts → ℕ → ℕ
line_start file counts index = start_of file (line_place counts index)
