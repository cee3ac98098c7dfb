-- The charges at a segment cover its emission, and exceed it by less than a kg for each plant there.
-- Each plant on a segment is charged its part of the emission, rounded up. The parts add up to E, so the charges are no less; and each of the
-- plants on the segment is charged less than one kg over its part.
use Prim.Native.Nat.{ℕ, ◌+◌, ◌-◌, ◌*◌, ◌≤◌, ◌<◌}
use mathlib.Core.Path.{◌≡◌, refl}
use mathlib.Core.Bool.{Bool, true, false, cond}
use mathlib.Core.List.{List, [], ◌∷◌, map}
use mathlib.Core.Logic.{◌⊎◌, inl, inr}
use native.Mathlib.Nat.{mul-lt-mul_of_pos_left, le_of_mul-le-mul_left, lt_of_mul-lt-mul_left}
use native.Mathlib.Omega.{arith}
use lib.Count.{ones}
use lib.ListN.{length}
use Rattle.fields.specs.Lists.{sum}
use Rattle.records.specs.declared.line.Line.{Line}
use Rattle.accounts.specs.Flow.{Standing, passes, amounts, Turn}
use Rattle.accounts.specs.Accounts.{Account, account, charge}
use Rattle.accounts.specs.Order.{segment_row_numbers}
use Rattle.accounts.specs.Accepted.{Accepted, held}
use Rattle.accounts.specs.RowsAndColumns.{in_row, inflow_column, emission_column, set_column}
use Rattle.accounts.specs.Shares.{turn_at, entering, charged, AddUp}
use Rattle.accounts.proofs.Bits.{digit}
use Rattle.accounts.proofs.Sets.{passing, plants_on_it}
use Rattle.accounts.proofs.Charges.{charge_without_inflow, charge_nothing, charge_least, charge_most}
use Rattle.accounts.proofs.Accepting.{Sound, accepted_means}
use Rattle.accounts.proofs.RowsAt.{segment_row_at_lem}

-- ---- what some plants are charged at a segment
module _ (a : Account) where
  -- no less than their parts, taken times the inflow
  all_least : 0 < a.inflow → (entering : List ℕ) → sum entering * a.emission ≤ sum (map (charge a) entering) * a.inflow
  unfolding sum
  all_least some [] = omega arith
  all_least some (amount ∷ rest) = omega (arith, charge_least a amount some, all_least some rest)

  -- each is over its part by less than a kg
  all_most :
      (own : ℕ) (standings : List Standing) →
      sum (map (charge a) (amounts own standings)) * a.inflow
      ≤ sum (amounts own standings) * a.emission + passing own standings * (a.inflow - 1)
  unfolding sum passing
  all_most own [] = omega arith
  all_most own (standing ∷ rest) = by_test (passes own standing) (all_most own rest)
    where
      others : ℕ
      others = sum (map (charge a) (amounts own rest))

      by_test :
          (t : Bool) → others * a.inflow ≤ sum (amounts own rest) * a.emission + passing own rest * (a.inflow - 1) →
          (charge a (cond t standing.amount 0) + others) * a.inflow
          ≤ (cond t standing.amount 0 + sum (amounts own rest)) * a.emission + (digit t + passing own rest) * (a.inflow - 1)
      by_test true h = omega (arith, charge_most a standing.amount)
      by_test false h = rw (charge_nothing a) (omega arith)

  -- nothing without inflow
  all_none : a.inflow ≡ 0 → (entering : List ℕ) → sum (map (charge a) entering) ≡ 0
  unfolding sum
  all_none none [] = refl
  all_none none (amount ∷ rest) = omega (arith, charge_without_inflow a amount none, all_none none rest)

-- if something comes in, some plant's route passes
some_pass : (own : ℕ) (standings : List Standing) → 0 < sum (amounts own standings) → 0 < passing own standings
unfolding sum passing
some_pass own [] some = omega arith
some_pass own (standing ∷ rest) some = by_test (passes own standing) (some_pass own rest) some
  where
    by_test :
        (t : Bool) → (0 < sum (amounts own rest) → 0 < passing own rest) → 0 < cond t standing.amount 0 + sum (amounts own rest) →
        0 < digit t + passing own rest
    by_test true h some = omega arith
    by_test false h some = omega (arith, h (omega arith))

-- ---- one segment that was not refused
turn_adds_up :
    (lines : List Line) (turn : Turn) → let a = account lines turn in
    Sound a → AddUp a.emission a.inflow (ones a.plants) (sum (charged lines turn))
unfolding account
turn_adds_up lines turn sound = record {
  no_less = by_emission sound.emission;
  fewer =
      λ some.
      let on_it = some_pass turn.own turn.standings some in
      let over = mul-lt-mul_of_pos_left {m = inflow - 1} {n = inflow} {k = plants} (omega arith) on_it in
      rw (plants_on_it turn.own turn.standings)
      (lt_of_mul-lt-mul_left inflow (omega (arith, all_most a turn.own turn.standings)));
  none = λ nothing. (without sound.emission nothing, all_none a nothing (entering turn));
}
  where
    a : Account
    a = account lines turn

    inflow : ℕ
    inflow = sum (entering turn)

    plants : ℕ
    plants = passing turn.own turn.standings

    by_emission : (a.emission ≡ 0) ⊎ (0 < inflow) → a.emission ≤ sum (charged lines turn)
    by_emission (inl none) = omega arith
    by_emission (inr some) = le_of_mul-le-mul_left {k = inflow} (omega (arith, all_least a some (entering turn))) some

    without : (a.emission ≡ 0) ⊎ (0 < inflow) → inflow ≡ 0 → a.emission ≡ 0
    without (inl e) nothing = e
    without (inr some) nothing = absurd (omega arith)

-- E, A and the set of plants stand in the segment's row
pub charges_add_up :
    {file plants segments : List ℕ} → Accepted file plants segments → (index : ℕ) → index < length (held file).segments →
    AddUp
    (in_row segment_row_numbers index emission_column segments)
    (in_row segment_row_numbers index inflow_column segments)
    (ones (in_row segment_row_numbers index set_column segments))
    (sum (charged (held file).lines (turn_at (held file) index)))
charges_add_up {file} accepted index below =
    let means = accepted_means accepted in
    rw (segment_row_at_lem means index below) (turn_adds_up (held file).lines (turn_at (held file) index) (means.sound index below))
