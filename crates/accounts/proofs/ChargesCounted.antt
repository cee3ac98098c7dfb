-- A plant's associated emissions are its own and what each segment charges it. Every charge is counted once: together they add up to the own
-- emissions of all plants and the charges of all segments.
use Prim.Native.Nat.{ℕ, zero, suc, ◌+◌, ◌≤◌, ◌<◌}
use mathlib.Core.Path.{◌≡◌, refl, sym, ap, ap₂, ◌∙◌}
use mathlib.Core.List.{List, [], ◌∷◌, map}
use native.Mathlib.Omega.{arith}
use lib.ListN.{length, length-map, get_or, take, get_or-map}
use lib.Seq.{take_all}
use Rattle.fields.specs.Lists.{sum}
use Rattle.fields.proofs.Sums.{sum_snoc}
use Rattle.records.specs.declared.segment.Segment.{Segment}
use Rattle.records.specs.declared.line.Line.{Line}
use Rattle.records.specs.Classes.{plant_owner}
use Rattle.records.specs.Periods.{Period}
use Rattle.accounts.specs.Emissions.{emission}
use Rattle.accounts.specs.Flow.{Standing, passed, Turn, turns}
use Rattle.accounts.specs.Accounts.{account, charge, charge_to, charges}
use Rattle.accounts.specs.Order.{plant_row_numbers}
use Rattle.accounts.specs.Quantified.{started, turns_of, accounts_of}
use Rattle.accounts.specs.Accepted.{Accepted, held}
use Rattle.accounts.specs.RowsAndColumns.{in_row, column_sum, associated_column}
use Rattle.accounts.specs.Shares.{entering, charged, own_emissions}
use Rattle.accounts.proofs.Passing.{passed_length}
use Rattle.accounts.proofs.Charges.{charge_nothing}
use Rattle.accounts.proofs.Accepting.{Means, accepted_means}
use Rattle.accounts.proofs.RowsAt.{plant_row_at_lem}

-- one number more of a list, or 0 behind its last
sum_one_more : (numbers : List ℕ) (count : ℕ) → sum (take (suc count) numbers) ≡ sum (take count numbers) + get_or numbers count 0
unfolding sum
sum_one_more [] zero = refl
sum_one_more [] (suc count) = refl
sum_one_more (n ∷ numbers) zero = omega arith
sum_one_more (n ∷ numbers) (suc count) = omega (arith, sum_one_more numbers count)

module _ (lines : List Line) where
  -- what the plants from the first on, up to a count of them, are charged at a segment
  abbrev charged_up_to : ℕ → Turn → ℕ
  charged_up_to count turn = sum (take count (charged lines turn))

  -- the number at an index is that plant's charge
  charged_at : (index : ℕ) (turn : Turn) → get_or (charged lines turn) index 0 ≡ charge_to index (account lines turn)
  unfolding account
  charged_at index turn =
      ap (get_or (charged lines turn) index) (sym (charge_nothing (account lines turn)))
      ∙ get_or-map (charge (account lines turn)) (entering turn) index 0

  -- ---- at all segments
  -- what one plant is charged
  charges_at :
      (index : ℕ) (all : List Turn) →
      charges index (map (account lines) all) ≡ sum (map (λ (turn : Turn). get_or (charged lines turn) index 0) all)
  unfolding sum
  charges_at index [] = refl
  charges_at index (turn ∷ all) = omega (arith, charged_at index turn, charges_at index all)

  -- one plant more adds all its charges
  one_plant_more :
      (count : ℕ) (all : List Turn) →
      sum (map (charged_up_to (suc count)) all) ≡ sum (map (charged_up_to count) all) + charges count (map (account lines) all)
  unfolding sum
  one_plant_more count [] = refl
  one_plant_more count (turn ∷ all) =
      omega (arith, sum_one_more (charged lines turn) count, charged_at count turn, one_plant_more count all)

  -- of no plants there are no charges
  no_plants : (all : List Turn) → sum (map (charged_up_to 0) all) ≡ 0
  unfolding sum
  no_plants [] = refl
  no_plants (turn ∷ all) = omega (arith, no_plants all)

  -- up to the last plant, these are all charges
  all_plants :
      (count own : ℕ) (segments : List Segment) (standings : List Standing) → length standings ≤ count →
      map (charged_up_to count) (turns own segments standings) ≡ map (λ (turn : Turn). sum (charged lines turn)) (turns own segments standings)
  unfolding turns
  all_plants count own [] standings few = refl
  all_plants count own (segment ∷ rest) standings few =
      ap₂
      (λ (here : ℕ) (later : List ℕ). here ∷ later)
      (ap sum (take_all count (charged lines (record { own = own; segment = segment; standings = standings })) (simp length-map few)))
      (all_plants count (suc own) rest (passed own segment standings) (rw (passed_length own segment standings) few))

-- ---- one plant's row
pub charges_of_plant :
    {file plants segments : List ℕ} → Accepted file plants segments → (index : ℕ) → index < length (held file).plants →
    in_row plant_row_numbers index associated_column plants
    ≡ emission plant_owner (suc index) (held file).lines
    + sum (map (λ (turn : Turn). get_or (charged (held file).lines turn) index 0) (turns_of (held file)))
unfolding accounts_of
charges_of_plant {file} accepted index below =
    ap (λ (row : List ℕ). get_or row associated_column 0) (plant_row_at_lem (accepted_means accepted) index below)
    ∙ ap (λ (all : ℕ). emission plant_owner (suc index) (held file).lines + all) (charges_at (held file).lines index (turns_of (held file)))

-- ---- the column of the plants up to a count of them
column_up_to :
    {period : Period} {plants segments : List ℕ} → Means period plants segments → (count : ℕ) → count ≤ length period.plants →
    column_sum plant_row_numbers associated_column count plants
    ≡ sum (own_emissions period.lines count) + sum (map (charged_up_to period.lines count) (turns_of period))
unfolding column_sum own_emissions accounts_of sum
column_up_to {period} means zero few = omega (arith, no_plants period.lines (turns_of period))
column_up_to {period} means (suc count) few =
    let lines = period.lines in
    rw (plant_row_at_lem means count few)
    (omega (
      arith,
      column_up_to means count (omega arith),
      sum_snoc (own_emissions lines count) (emission plant_owner (suc count) lines),
      one_plant_more lines count (turns_of period),
    ))

-- of all plants
pub charges_counted :
    {file plants segments : List ℕ} → Accepted file plants segments →
    column_sum plant_row_numbers associated_column (length (held file).plants) plants
    ≡ sum (own_emissions (held file).lines (length (held file).plants))
    + sum (map (λ (turn : Turn). sum (charged (held file).lines turn)) (turns_of (held file)))
charges_counted {file} accepted =
    let period = held file in
    let count = length period.plants in
    column_up_to (accepted_means accepted) count (omega arith)
    ∙ ap
    (λ (all : List ℕ). sum (own_emissions period.lines count) + sum all)
    (all_plants period.lines count 1 period.segments (started period) (simp length-map (omega arith)))
