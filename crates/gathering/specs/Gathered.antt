-- What a file gives before any segment has its turn: whether it is refused (1 to 10, 16), its records, and what every plant and segment emits.
use Rattle.std.specs.Prelude.{ℕ, suc, ◌≡◌, List, [], length, Result, Ok, Err}
use Rattle.fields.specs.declared.answer.Refusal.{Refusal}
use Rattle.fields.specs.Answers.{Notice, Verdict, accepts, refuses, refusing}
use Rattle.fields.specs.Lists.{filled}
use Rattle.fields.specs.Readers.{Read, read, refused}
use Rattle.fields.specs.Tests.{Test, tested_by, listed}
use Rattle.records.specs.declared.counts.Counts.{Counts}
use Rattle.records.specs.declared.line.Line.{Line}
use Rattle.records.specs.Plants.{most_plants, no_plant}
use Rattle.records.specs.Segments.{most_segments, no_segment}
use Rattle.records.specs.Classes.{plant_owner, segment_owner}
use Rattle.records.specs.Periods.{Period, period_of, period_file}
use Rattle.records.specs.Places.{line_start}
use Rattle.records.specs.Within.{counts_of}
use Rattle.accounts.specs.Emissions.{emission}
use Rattle.accounts.specs.Order.{emission_tests}
use Rattle.gathering.specs.declared.gathering.Gathered.{Gathered}

-- The tests of a period that was read from a file, before any segment has its turn: 10 over its lines, then 16 over its plants (rules 8.5, 8.9
-- and 8.10).
abbrev pub gathering_tests : (file : List ℕ) → Period → List Test
gathering_tests file period = emission_tests (line_start file (counts_of period)) (length file) (length period.plants) period.lines

-- ---- the contents of a file: the verdict and, if it is accepted, its records and how many bytes it has
pub record Contents : Type 0 where
  pub verdict : Verdict
  pub period : Period
  pub bytes : ℕ

-- A refusal has no records.
abbrev pub nothing_gathered : Notice → Contents
nothing_gathered notice = record { verdict = refuses notice; period = period_of [] [] []; bytes = 0 }

-- An accepted file has those that were read, up to its end.
abbrev pub gathered_of : (file : List ℕ) → Period → Contents
gathered_of file period = record { verdict = accepts; period = period; bytes = length file }

-- A refusal of reading decides; a period that was read is tested, and the first test that fails refuses (rule 8.8).
abbrev pub gathered_after : (file : List ℕ) → Read Period → Contents
gathered_after file (refused notice) = nothing_gathered notice
gathered_after file (read period place at) = tested_by nothing_gathered (gathering_tests file period) (gathered_of file period)

-- What is gathered of a file (rules 8.3 to 8.5 and 8.10).
unfoldable pub gathering : List ℕ → Contents
gathering file = gathered_after file (period_file file)

-- ---- the promise of the call
-- The column of what the first `count` owners of a kind emit by these lines; both kinds have the same room (rules 4.3 and 4.4).
abbrev pub owner_column : (owner_kind count : ℕ) → List Line → List ℕ
owner_column owner_kind count lines = filled 0 most_segments (listed (λ (index : ℕ). emission owner_kind (suc index) lines) 0 count)

-- Those of so many plants and segments.
pub record OwnerEmissions (plants segments : List ℕ) (counts : Counts) (lines : List Line) : Type 0 where
  pub plants_are : plants ≡ owner_column plant_owner counts.plants lines
  pub segments_are : segments ≡ owner_column segment_owner counts.segments lines

-- What is gathered holds the contents, which are accepted: how many records there are, plants and segments in arrays with zeros behind them (rules 2.4
-- and 2.5), what they emit, and how many bytes were read.
pub record Holds (r : Gathered) (contents : Contents) : Type 0 where
  pub verdict : accepts ≡ contents.verdict
  pub counts : r.counts ≡ counts_of contents.period
  pub plants : r.plants ≡ filled no_plant most_plants contents.period.plants
  pub segments : r.segments ≡ filled no_segment most_segments contents.period.segments
  pub emissions : OwnerEmissions r.emissions.plants r.emissions.segments (counts_of contents.period) contents.period.lines
  pub bytes : r.emissions.bytes ≡ contents.bytes

-- What the code says of the contents: all that they are, or the refusal.
abbrev pub Gathers : Result Gathered Refusal → Contents → Type 0
Gathers (Ok r) contents = Holds r contents
Gathers (Err refusal) contents = refusing refusal ≡ contents.verdict

-- The promise of `gather`: its answer is what is gathered of the file (rules 2.1 to 4.4, 8.1 to 8.5, 8.9 and 8.10).
abbrev pub GatherPromise : List ℕ → Result Gathered Refusal → Type 0
GatherPromise file r = Gathers r (gathering file)
