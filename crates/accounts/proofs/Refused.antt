-- What reading refuses is refused: the whole answer has the same notice, whatever the tables.
use Prim.Native.Nat.{ℕ}
use mathlib.Core.Path.{◌≡◌, ap}
use mathlib.Core.List.{List}
use Rattle.fields.specs.Answers.{Notice}
use Rattle.fields.specs.Readers.{Read, refused}
use Rattle.records.specs.Periods.{Period, period_file}
use Rattle.accounts.specs.Order.{refusal}
use Rattle.accounts.specs.Quantified.{after_reading, quantified}

pub reading_refuses :
    (file : List ℕ) (plant_table segment_table : ℕ) (notice : Notice) → period_file file ≡ refused notice →
    quantified file plant_table segment_table ≡ refusal notice
unfolding quantified
reading_refuses file plant_table segment_table notice e = ap (λ (outcome : Read Period). after_reading file outcome plant_table segment_table) e
