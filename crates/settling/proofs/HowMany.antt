-- A settlement has no more accounts than a period may have plants and segments.
use Prim.Native.Nat.{ℕ, ◌≤◌}
use mathlib.Core.Path.{◌≡◌, refl}
use mathlib.Core.Bool.{Bool, true, false, cond}
use mathlib.Core.List.{List, [], ◌∷◌}
use native.Mathlib.Omega.{arith}
use lib.ListN.{length, length-map}
use Rattle.fields.specs.Readers.{Read, read, refused}
use Rattle.fields.specs.Tests.{Test, refusal_by, tested_by}
use Rattle.fields.proofs.Testing.{listed_length}
use Rattle.records.specs.Plants.{most_plants}
use Rattle.records.specs.Segments.{most_segments}
use Rattle.records.specs.Periods.{Period, period_file}
use Rattle.records.proofs.Within.{read_within}
use Rattle.accounts.specs.Quantified.{accounts_of}
use Rattle.accounts.proofs.Accepting.{accounts_length}
use Rattle.settling.specs.Settled.{segment_account, plant_account_at, Settlement, nothing_settled, settled_of, settled_by, settled_period, settled_after, settlement}

-- no more than the most
pub record Few (settled : Settlement) : Type 0 where
  pub plants : length settled.plants ≤ most_plants
  pub segments : length settled.segments ≤ most_segments

-- a refusal has none, whatever was tested
few_by : (tests : List Test) (settled : Settlement) → Few settled → Few (settled_by tests settled)
unfolding tested_by
few_by [] settled few = few
few_by (test ∷ tests) settled few = by_test test.fails (few_by tests settled few)
  where
    by_test : (t : Bool) → Few (settled_by tests settled) → Few (cond t (nothing_settled (refusal_by test)) (settled_by tests settled))
    by_test true rest = record { plants = omega arith; segments = omega arith }
    by_test false rest = rest

-- and a period that was read has no more
pub few_settled : (file : List ℕ) → Few (settlement file)
unfolding settlement settled_period
few_settled file = by_outcome (period_file file) refl
  where
    by_outcome : (outcome : Read Period) → period_file file ≡ outcome → Few (settled_after file outcome)
    by_outcome (refused notice) is = record { plants = omega arith; segments = omega arith }
    by_outcome (read period place at) is =
        let within = read_within file period place at is in
        few_by _ (settled_of period) (record {
          plants = rw (listed_length (plant_account_at period) 0 (length period.plants)) within.counts.most_plants_is;
          segments = rw (length-map (accounts_of period) segment_account, accounts_length period) within.counts.most_segments_is;
        })
