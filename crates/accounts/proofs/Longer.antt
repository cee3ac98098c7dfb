-- Bytes past the longest file cannot change the answer: whoever reads one byte more than that may stop there.
use Prim.Native.Nat.{ℕ, ◌<◌}
use mathlib.Core.Path.{◌≡◌, refl, ap, ◌∙◌}
use mathlib.Core.List.{List}
use native.Mathlib.Omega.{arith}
use lib.ListN.{take}
use lib.Seq.{take_all}
use Rattle.fields.specs.Readers.{Read, read, refused}
use Rattle.records.specs.Periods.{Period, period_file, most_bytes}
use Rattle.records.proofs.Longest.{cut, no_longer}
use Rattle.accounts.specs.Quantified.{after_reading, quantified}

pub longer :
    (file : List ℕ) (n plant_table segment_table : ℕ) → most_bytes < n →
    quantified (take n file) plant_table segment_table ≡ quantified file plant_table segment_table
unfolding quantified
longer file n plant_table segment_table more =
    ap (λ (outcome : Read Period). after_reading (take n file) outcome plant_table segment_table) (cut file n more) ∙ by_reading (period_file file) refl
  where
    -- a file that is read is no longer than its front; of one that reading refuses nothing else is looked at
    by_reading :
        (outcome : Read Period) → period_file file ≡ outcome →
        after_reading (take n file) outcome plant_table segment_table ≡ after_reading file outcome plant_table segment_table
    by_reading (refused notice) e = refl
    by_reading (read period place at) e =
        ap (λ (bytes : List ℕ). after_reading bytes (read period place at) plant_table segment_table)
        (take_all n file (omega (arith, more, no_longer file period place at e)))
