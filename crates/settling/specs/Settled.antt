-- What a file gives before any table is looked at: whether it is refused (1 to 13 and 16), and the figures of every plant and segment.
use Rattle.std.specs.Prelude.{ℕ, ◌≡◌, List, [], ◌++◌, map, length, get_or, Result, Ok, Err}
use Rattle.fields.specs.declared.answer.Refusal.{Refusal}
use Rattle.fields.specs.Answers.{Answer, Notice, Verdict, accepts, refuses, refusing}
use Rattle.fields.specs.Lists.{filled}
use Rattle.fields.specs.Readers.{Read, read, refused}
use Rattle.fields.specs.Tests.{Test, tested_by, listed}
use Rattle.records.specs.Plants.{most_plants, no_plant}
use Rattle.records.specs.Segments.{most_segments}
use Rattle.records.specs.Periods.{Period, period_file}
use Rattle.accounts.specs.Flow.{nowhere}
use Rattle.accounts.specs.Accounts.{Account}
use Rattle.accounts.specs.Rows.{associated}
use Rattle.accounts.specs.Order.{segment_tests}
use Rattle.accounts.specs.Quantified.{accounts_of, stores}
use Rattle.gathering.specs.Gathered.{gathering_tests}
use Rattle.settling.specs.declared.account.PlantAccount.{PlantAccount}
use Rattle.settling.specs.declared.account.SegmentAccount.{SegmentAccount}
use Rattle.settling.specs.declared.settling.Settled.{Settled}

-- ---- accounts: what a row is made of
-- The account of the plant at an index from 0; stored is what it has after all turns (rules 5.6 and 6.2).
abbrev pub plant_account_at : Period → ℕ → PlantAccount
plant_account_at period index = record {
  exported = (get_or period.plants index no_plant).exported;
  fraction = (get_or period.plants index no_plant).fraction;
  stored = (get_or (stores period) index nowhere).amount;
  associated = associated period.lines (accounts_of period) index;
}

-- The account of a segment (rule 7.2).
abbrev pub segment_account : Account → SegmentAccount
segment_account a = record { inflow = a.inflow; outflow = a.outflow; emission = a.emission; plants = a.plants }

-- The accounts of a period's plants, and below of its segments, in their order.
abbrev pub plant_accounts : Period → List PlantAccount
plant_accounts period = listed (plant_account_at period) 0 (length period.plants)

abbrev pub segment_accounts : Period → List SegmentAccount
segment_accounts period = map segment_account (accounts_of period)

-- ---- a settlement: the verdict, and the accounts of a period that is accepted
pub record Settlement : Type 0 where
  pub verdict : Verdict
  pub plants : List PlantAccount
  pub segments : List SegmentAccount

-- A refusal has no accounts.
abbrev pub nothing_settled : Notice → Settlement
nothing_settled notice = record { verdict = refuses notice; plants = []; segments = [] }

-- An accepted period has those of all its plants and segments.
abbrev pub settled_of : Period → Settlement
settled_of period = record { verdict = accepts; plants = plant_accounts period; segments = segment_accounts period }

-- The first test that fails refuses; if none fails, the given settlement is the answer (rule 8.8).
abbrev pub settled_by : List Test → Settlement → Settlement
settled_by = tested_by nothing_settled

-- The settlement of a period that was read from a file, by the tests of its gathering and then of its segments (rules 8.5, 8.6 and 8.9).
unfoldable pub settled_period : (file : List ℕ) → Period → Settlement
settled_period file period =
    settled_by (gathering_tests file period ++ segment_tests (length file) (accounts_of period)) (settled_of period)

-- A refusal of reading decides; a period that was read is settled (rule 8.8).
abbrev pub settled_after : (file : List ℕ) → Read Period → Settlement
settled_after file (refused notice) = nothing_settled notice
settled_after file (read period place at) = settled_period file period

-- The settlement of a file (rules 8.3 to 8.6 and 8.10).
unfoldable pub settlement : List ℕ → Settlement
settlement file = settled_after file (period_file file)

-- ---- the promise of the call
-- What the arrays of the code hold in an entry without an account.
abbrev pub no_plant_account : PlantAccount
no_plant_account = record { exported = 0; fraction = 0; stored = 0; associated = 0 }

abbrev pub no_segment_account : SegmentAccount
no_segment_account = record { inflow = 0; outflow = 0; emission = 0; plants = 0 }

-- What the code hands back of a settlement that is accepted: how many accounts there are, and the accounts.
pub record Accounted (r : Settled) (settled : Settlement) : Type 0 where
  pub verdict : accepts ≡ settled.verdict
  pub plant_count_is : r.plant_count ≡ length settled.plants
  pub segment_count_is : r.segment_count ≡ length settled.segments
  pub plants : r.plants ≡ filled no_plant_account most_plants settled.plants
  pub segments : r.segments ≡ filled no_segment_account most_segments settled.segments

-- What the code's answer says of a settlement: the accounts, or why there are none.
abbrev pub Settles : Result Settled Refusal → Settlement → Type 0
Settles (Ok r) settled = Accounted r settled
Settles (Err refusal) settled = refusing refusal ≡ settled.verdict

-- The promise of `settle`: its answer is the settlement of the file (rules 4.1 to 6.2, 8.1 to 8.6, 8.9 and 8.10).
abbrev pub SettlePromise : List ℕ → Result Settled Refusal → Type 0
SettlePromise file r = Settles r (settlement file)

-- The same of what the code answers and of what it leaves in lent accounts.
abbrev pub outcome : Answer → Settled → Result Settled Refusal
outcome (Ok done) settled = Ok settled
outcome (Err refusal) settled = Err refusal

-- `settle_into`: the answer and the accounts are that settlement; a refusal leaves the accounts as they were.
pub record SettleIntoPromise (file : List ℕ) (before : Settled) (r : Answer) (after : Settled) : Type 0 where
  pub settles : SettlePromise file (outcome r after)
  pub kept : (refusal : Refusal) → r ≡ Err refusal → after ≡ before
