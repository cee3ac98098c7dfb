-- What the private functions promise to their callers, beside the books. Nothing here is needed to read the promise of `settle`.
use Rattle.std.specs.Prelude.{ℕ, zero, suc, ◌+◌, ◌*◌, ◌≤◌, ◌<◌, ◌≡◌, List, length, take, get_or, Result, Err}
use Rattle.number.specs.Groups.{largest}
use Rattle.fields.specs.declared.answer.Refusal.{Refusal}
use Rattle.fields.specs.Lists.{Each, filled}
use Rattle.fields.specs.Tests.{listed}
use Rattle.fields.specs.Answers.{Answer}
use Rattle.records.specs.declared.line.Line.{Line}
use Rattle.records.specs.declared.plant.Plant.{Plant}
use Rattle.records.specs.declared.segment.Segment.{Segment}
use Rattle.records.specs.Plants.{most_plants, no_plant}
use Rattle.records.specs.Segments.{most_segments, no_segment}
use Rattle.records.specs.Classes.{plant_owner, segment_owner}
use Rattle.records.specs.Periods.{Period, period_of}
use Rattle.records.specs.Within.{CountsWithin, PlantWithin, SegmentWithin}
use Rattle.accounts.specs.Sums.{rounded_up}
use Rattle.accounts.specs.Emissions.{emission}
use Rattle.accounts.specs.Order.{segment_tests}
use Rattle.accounts.specs.Quantified.{accounts_of}
use Rattle.gathering.specs.declared.gathering.Gathered.{Gathered}
use Rattle.settling.specs.declared.account.PlantAccount.{PlantAccount}
use Rattle.settling.specs.declared.account.SegmentAccount.{SegmentAccount}
use Rattle.settling.specs.declared.flow.Books.{Books}
use Rattle.settling.specs.declared.settling.Settled.{Settled}
use Rattle.settling.specs.Settled.{no_plant_account, no_segment_account, Settlement, settled_of, settled_by, Settles, outcome}
use Rattle.settling.specs.Books.{cell}

-- No number is over the largest (rule 1.4).
abbrev pub Small : List ℕ → Type 0
Small numbers = (i : ℕ) → get_or numbers i 0 ≤ largest

-- ---- what is charged, by the books
-- What the first `segments` segments charge to a plant for its amounts (rule 6.1).
unfoldable pub charges_by : Books → (p : ℕ) (emissions : List ℕ) → (segments : ℕ) → ℕ
charges_by books p emissions zero = 0
charges_by books p emissions (suc s) =
    charges_by books p emissions s + rounded_up (cell books.amounts p s * get_or emissions s 0) (get_or books.inflows s 0)

-- A plant brought no more than the inflow, so that no charge passes the segment's emission (rule 9.3).
abbrev pub Chargeable : Books → (p segments : ℕ) → Type 0
Chargeable books p segments = (s : ℕ) → s < segments → cell books.amounts p s ≤ get_or books.inflows s 0

-- ---- a period that was gathered
module _ (gathered : Gathered) where
  -- Its plants and its segments.
  abbrev pub plants_in : List Plant
  plants_in = take gathered.counts.plants gathered.plants

  abbrev pub segments_in : List Segment
  segments_in = take gathered.counts.segments gathered.segments

  -- The period, if it has these lines.
  abbrev pub period_in : List Line → Period
  period_in = period_of plants_in segments_in

  -- Each of its owners emits what these lines say (rules 4.3 and 4.4).
  pub record EmissionsOf (lines : List Line) : Type 0 where
    pub plants : (p : ℕ) → p < gathered.counts.plants → get_or gathered.emissions.plants p 0 ≡ emission plant_owner (suc p) lines
    pub segments : (s : ℕ) → s < gathered.counts.segments → get_or gathered.emissions.segments s 0 ≡ emission segment_owner (suc s) lines

  -- What settling asks of it: all is within its limits, and no owner emits more than the largest number (rules 2.10 and 9.3).
  pub record Given : Type 0 where
    pub counts_within : CountsWithin gathered.counts
    pub plants_counted : length plants_in ≡ gathered.counts.plants
    pub segments_counted : length segments_in ≡ gathered.counts.segments
    pub each_plant : Each (PlantWithin gathered.counts) 1 plants_in
    pub each_segment : Each (SegmentWithin gathered.counts) 1 segments_in
    pub small_plants : Small gathered.emissions.plants
    pub small_segments : Small gathered.emissions.segments

  -- ---- its accounts, by the books
  -- What they ask of the books.
  pub record Accountable (books : Books) : Type 0 where
    pub plants_are : books.plants ≡ gathered.counts.plants
    pub chargeable : (p : ℕ) → p < gathered.counts.plants → Chargeable books p gathered.counts.segments

  abbrev pub plant_account_by : Books → (p : ℕ) → PlantAccount
  plant_account_by books p = record {
    exported = (get_or gathered.plants p no_plant).exported;
    fraction = (get_or gathered.plants p no_plant).fraction;
    stored = get_or books.stored p 0;
    associated = get_or gathered.emissions.plants p 0 + charges_by books p gathered.emissions.segments gathered.counts.segments;
  }

  abbrev pub segment_account_by : Books → (s : ℕ) → SegmentAccount
  segment_account_by books s = record {
    inflow = get_or books.inflows s 0;
    outflow = (get_or gathered.segments s no_segment).outflow;
    emission = get_or gathered.emissions.segments s 0;
    plants = get_or books.sets s 0;
  }

  -- The arrays of them.
  abbrev pub plant_accounts_by : Books → List PlantAccount
  plant_accounts_by books = filled no_plant_account most_plants (listed (plant_account_by books) 0 gathered.counts.plants)

  abbrev pub segment_accounts_by : Books → List SegmentAccount
  segment_accounts_by books = filled no_segment_account most_segments (listed (segment_account_by books) 0 gathered.counts.segments)

-- ---- the period settled
-- By the tests after those of the lines, if so many bytes were read (rules 8.6 and 8.9).
abbrev pub worked_off : (bytes : ℕ) → Period → Settlement
worked_off bytes period = settled_by (segment_tests bytes (accounts_of period)) (settled_of period)

-- Settling gives that, for all lines by which its owners emit these kg.
abbrev pub SettledBy : Gathered → Result Settled Refusal → Type 0
SettledBy gathered r =
    (lines : List Line) → EmissionsOf gathered lines → Settles r (worked_off gathered.emissions.bytes (period_in gathered lines))

-- So it does into lent accounts, which a refusal leaves as they were.
pub record SettledInto (gathered : Gathered) (before : Settled) (r : Answer) (after : Settled) : Type 0 where
  pub settles : SettledBy gathered (outcome r after)
  pub kept : (refusal : Refusal) → r ≡ Err refusal → after ≡ before
