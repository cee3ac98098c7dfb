-- An accepted file: the period that it holds, and the numbers that it gives.
use Rattle.std.specs.Prelude.{ℕ, ◌≡◌, List}
use Rattle.records.specs.Periods.{Period, period_file}
use Rattle.records.specs.Held.{records_of}
use Rattle.accounts.specs.Order.{accepted}
use Rattle.accounts.specs.Quantified.{quantified}

-- A file that is accepted with tables of some lengths, and the numbers that both tables get (rule 8.8).
pub record Accepted (file plants segments : List ℕ) : Type 0 where
  pub plant_table : ℕ
  pub segment_table : ℕ
  pub answer : quantified file plant_table segment_table ≡ accepted plants segments

-- The period that a file holds; a file that reading refuses holds no records (rule 2.2).
unfoldable pub held : List ℕ → Period
held file = records_of (period_file file)
