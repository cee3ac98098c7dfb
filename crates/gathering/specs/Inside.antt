-- What the private functions promise to their callers. Nothing here is needed to read the promise of `gather`.
use Rattle.std.specs.Prelude.{ℕ, ◌≡◌, List, length, Result, Ok, Err}
use Rattle.fields.specs.declared.answer.Refusal.{Refusal}
use Rattle.fields.specs.declared.spot.Spot.{Spot}
use Rattle.fields.specs.Answers.{Answer, Verdict, accepts, refuses, refusing}
use Rattle.fields.specs.Spots.{end_at}
use Rattle.fields.specs.Reaching.{Reach, whole, stopped, reads_from}
use Rattle.fields.specs.Tests.{Test, tested_by}
use Rattle.records.specs.declared.counts.Counts.{Counts}
use Rattle.records.specs.declared.line.Line.{Line}
use Rattle.records.specs.Places.{line_start}
use Rattle.records.specs.Periods.{lines_of}
use Rattle.accounts.specs.Order.{line_tests, emission_tests}
use Rattle.gathering.specs.declared.emissions.Emissions.{Emissions}
use Rattle.gathering.specs.declared.totals.Totals.{Totals}
use Rattle.gathering.specs.Gathered.{OwnerEmissions}
use Rattle.gathering.specs.OwnerTotals.{Sums}

-- ---- the lines added up
-- One verdict, and then another: the first refusal decides.
abbrev pub and_then : Verdict → Verdict → Verdict
and_then (refuses notice) later = refuses notice
and_then accepts later = later

-- What is said of lines that are read to a spot: first the end of the file, then the tests of these lines (rules 8.4 and 8.5).
abbrev pub end_then : List ℕ → (List Line → List Test) → Reach (List Line) → Verdict
end_then file tests (whole lines last) = and_then (end_at file last) (tested_by refuses (tests lines) accepts)
end_then file tests (stopped notice) = refuses notice

-- With 10 alone; and below with 10 and then 16 (rules 8.5 and 8.10).
abbrev pub ten_ruling : List ℕ → Counts → Reach (List Line) → Verdict
ten_ruling file counts = end_then file (λ (lines : List Line). line_tests (line_start file counts) lines 0 lines)

abbrev pub lines_ruling : List ℕ → Counts → Reach (List Line) → Verdict
lines_ruling file counts = end_then file (emission_tests (line_start file counts) (length file) counts.plants)

-- All lines are read and added: the file ends behind them, none passes the limit, and these are their owners' totals (rules 4.2, 8.4 and 8.5).
pub record AllAdded (file : List ℕ) (start : Spot) (counts : Counts) (totals : Totals) : Type 0 where
  pub lines : List Line
  pub last : Spot
  pub came : reads_from (lines_of counts) file start ≡ whole lines last
  pub passed : ten_ruling file counts (whole lines last) ≡ accepts
  pub sums : Sums lines totals

-- What reading and adding the lines gives: this, or the first refusal (rules 8.4 and 8.5).
abbrev pub LinesAdded : (file : List ℕ) → Spot → Counts → Answer → Totals → Type 0
LinesAdded file start counts (Ok done) totals = AllAdded file start counts totals
LinesAdded file start counts (Err refusal) totals = refusing refusal ≡ ten_ruling file counts (reads_from (lines_of counts) file start)

-- All lines are read and accepted: what each plant and segment emits, and how many bytes were read (rules 4.3, 4.4, 8.4, 8.5, 8.9 and 8.10).
pub record AllEmitted (file : List ℕ) (start : Spot) (counts : Counts) (emissions : Emissions) : Type 0 where
  pub lines : List Line
  pub last : Spot
  pub came : reads_from (lines_of counts) file start ≡ whole lines last
  pub passed : lines_ruling file counts (whole lines last) ≡ accepts
  pub emitted : OwnerEmissions emissions.plants emissions.segments counts lines
  pub all_bytes : emissions.bytes ≡ length file

-- What adding them up gives: this, or the first refusal.
abbrev pub AddedUp : (file : List ℕ) → Spot → Counts → Result Emissions Refusal → Type 0
AddedUp file start counts (Ok emissions) = AllEmitted file start counts emissions
AddedUp file start counts (Err refusal) = refusing refusal ≡ lines_ruling file counts (reads_from (lines_of counts) file start)
