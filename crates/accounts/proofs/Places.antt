-- What reading asks of a period file, number by number: the tests at their places, and what stands there if none of them fails.
use Prim.Native.Nat.{ℕ, suc}
use mathlib.Core.Path.{refl}
use mathlib.Core.List.{List, ◌∷◌, ◌++◌, append_assoc}
use native.Mathlib.Omega.{arith}
use Rattle.fields.specs.Tests.{Test, end_test}
use Rattle.fields.proofs.Asking.{Asks, done, field, amount, one_then, so_many}
use Rattle.records.specs.Headers.{header}
use Rattle.records.specs.Periods.{plant, segment, line, records, period}
use Rattle.records.specs.Places.{plant_place, segment_place, line_place, number_count}
use Rattle.accounts.specs.Order.{refusal}
use Rattle.accounts.specs.AllTests.{counts_at, plant_at, segment_at, line_at, period_at, header_tests, plant_tests, segment_field_tests, line_field_tests, reading_tests}

module _ (file : List ℕ) where
  -- ---- the header, and one record of each kind
  header_asks : (left : List Test) → Asks refusal file header 0 (header_tests file ++ left) (counts_at file) (plant_place 0) left
  unfolding header header_tests counts_at
  header_asks left = field refl (field refl (field refl (field refl done)))

  module _ (index : ℕ) (left : List Test) where
    plant_asks :
        Asks refusal file (plant (counts_at file)) (plant_place index) (plant_tests file index ++ left) (plant_at file index) (plant_place (suc index)) left
    unfolding plant plant_tests
    plant_asks = amount (omega arith) (field (omega arith) (field (omega arith) done))

    segment_asks :
        Asks refusal file (segment (counts_at file) (suc index)) (segment_place (counts_at file) index) (segment_field_tests file index ++ left)
        (segment_at file index) (segment_place (counts_at file) (suc index)) left
    unfolding segment segment_field_tests
    segment_asks = field (omega arith) (amount (omega arith) (field (omega arith) done))

    line_asks :
        Asks refusal file (line (counts_at file)) (line_place (counts_at file) index) (line_field_tests file index ++ left)
        (line_at file index) (line_place (counts_at file) (suc index)) left
    unfolding line line_field_tests
    line_asks = field (omega arith) (field (omega arith) (field (omega arith) (amount (omega arith) (field (omega arith) done))))

  -- ---- the whole period: the segments start where the plants end, and the lines where the segments do
  pub period_asks :
      (left : List Test) → Asks refusal file period 0 (reading_tests file ++ left) (period_at file) (number_count (counts_at file)) (end_test file (number_count (counts_at file)) ∷ left)
  unfolding period records period_at reading_tests
  period_asks left =
      let counts = counts_at file in
      simp append_assoc
      (one_then (header_asks _) (λ h is. rw is (
      one_then (so_many (λ own. plant counts) (plant_tests file) plant_asks counts.plants refl) (λ plants p.
      one_then (so_many (segment counts) (segment_field_tests file) segment_asks counts.segments (omega arith)) (λ segments s.
      one_then (so_many (λ own. line counts) (line_field_tests file) line_asks counts.lines (omega arith)) (λ lines l.
      rw (p, s, l) done))))))
