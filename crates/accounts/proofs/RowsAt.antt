-- The rows of both tables by their index, and their columns.
use Prim.Native.Nat.{ℕ, zero, suc, ◌+◌, ◌*◌, ◌≤◌, ◌<◌}
use mathlib.Core.Path.{◌≡◌, refl, sym, ap, ap₂, ◌∙◌}
use mathlib.Core.List.{List, [], ◌∷◌, ◌++◌}
use native.Mathlib.Nat.{mul-suc, mul-zero}
use native.Mathlib.Omega.{arith}
use lib.ListN.{length, get_or, take, drop, length-map, length-drop}
use lib.Seq.{take_at, take-suc, take-append-le, drop-append-add, drop-append-le}
use Rattle.fields.specs.Lists.{sum}
use Rattle.fields.proofs.Sums.{sum_snoc}
use Rattle.records.specs.declared.plant.Plant.{Plant}
use Rattle.records.specs.declared.line.Line.{Line}
use Rattle.records.specs.Plants.{no_plant}
use Rattle.records.specs.Periods.{Period}
use Rattle.accounts.specs.Flow.{Standing, nowhere, at_first}
use Rattle.accounts.specs.Accounts.{Account}
use Rattle.accounts.specs.Rows.{plant_row, associated, plant_rows, segment_row, segment_rows}
use Rattle.accounts.specs.Order.{plant_row_numbers, segment_row_numbers}
use Rattle.accounts.specs.Quantified.{started, accounts_of, stores}
use Rattle.accounts.specs.RowsAndColumns.{row_at, in_row, column_sum}
use Rattle.accounts.specs.Shares.{account_at}
use Rattle.accounts.proofs.Passing.{arrived_length}
use Rattle.accounts.proofs.Accepting.{Means, accounts_length, account_at_lem}

-- ---- rows one after another: the first, and those behind it
module _ (numbers : ℕ) (row rest : List ℕ) (whole : length row ≡ numbers) where
  first_row : row_at numbers 0 (row ++ rest) ≡ row
  first_row = rw (mul-zero numbers) (take_at row rest numbers whole)

  next_row : (index : ℕ) → row_at numbers (suc index) (row ++ rest) ≡ row_at numbers index rest
  next_row index =
      let further : numbers * suc index ≡ length row + numbers * index = omega (arith, mul-suc numbers index, whole) in
      ap (take numbers) (ap (λ (n : ℕ). drop n (row ++ rest)) further ∙ drop-append-add row rest (numbers * index))

-- what stands behind a table does not touch its rows
pub row_front : (numbers index : ℕ) (table rest : List ℕ) → numbers * suc index ≤ length table → row_at numbers index (table ++ rest) ≡ row_at numbers index table
row_front numbers index table rest room =
    let further = mul-suc numbers index in
    ap (take numbers) (drop-append-le (numbers * index) table rest (omega arith))
    ∙ take-append-le numbers (drop (numbers * index) table) rest (omega (arith, length-drop (numbers * index) table))

-- ---- the plants' rows
plant_rows_lem :
    (lines : List Line) (accounts : List Account) (from : ℕ) (plants : List Plant) (standings : List Standing) → length standings ≡ length plants →
    (index number : ℕ) → from + index ≡ number → index < length plants →
    row_at plant_row_numbers index (plant_rows lines accounts from plants standings)
    ≡ plant_row (get_or plants index no_plant).exported (get_or plants index no_plant).fraction (get_or standings index nowhere).amount (associated lines accounts number)
unfolding plant_rows
plant_rows_lem lines accounts from [] standings long index number at below = absurd (omega (arith, below))
plant_rows_lem lines accounts from (plant ∷ plants) [] long index number at below = absurd (omega (arith, long))
plant_rows_lem lines accounts from (plant ∷ plants) (standing ∷ standings) long zero number at below =
    let here : from ≡ number = omega (arith, at) in
    first_row plant_row_numbers (plant_row plant.exported plant.fraction standing.amount (associated lines accounts from)) (plant_rows lines accounts (suc from) plants standings) refl
    ∙ ap (λ (n : ℕ). plant_row plant.exported plant.fraction standing.amount (associated lines accounts n)) here
plant_rows_lem lines accounts from (plant ∷ plants) (standing ∷ standings) long (suc index) number at below =
    next_row
    plant_row_numbers (plant_row plant.exported plant.fraction standing.amount (associated lines accounts from)) (plant_rows lines accounts (suc from) plants standings) refl index
    ∙ plant_rows_lem lines accounts (suc from) plants standings (omega (arith, long)) index number (omega (arith, at)) (omega (arith, below))

-- ---- the segments' rows
segment_rows_lem :
    (accounts : List Account) (index : ℕ) (none : Account) → index < length accounts →
    row_at segment_row_numbers index (segment_rows accounts)
    ≡ segment_row (get_or accounts index none).inflow (get_or accounts index none).outflow (get_or accounts index none).emission (get_or accounts index none).plants
unfolding segment_rows
segment_rows_lem [] index none below = absurd (omega (arith, below))
segment_rows_lem (a ∷ accounts) zero none below =
    first_row segment_row_numbers (segment_row a.inflow a.outflow a.emission a.plants) (segment_rows accounts) refl
segment_rows_lem (a ∷ accounts) (suc index) none below =
    next_row segment_row_numbers (segment_row a.inflow a.outflow a.emission a.plants) (segment_rows accounts) refl index
    ∙ segment_rows_lem accounts index none (omega (arith, below))

-- ---- how many numbers the tables have
-- every plant arrives somewhere
pub stores_length : (period : Period) → length (stores period) ≡ length period.plants
stores_length period = arrived_length 1 period.segments (started period) ∙ length-map period.plants at_first

-- the numbers of a row for each plant
pub plant_rows_long :
    (lines : List Line) (accounts : List Account) (index : ℕ) (plants : List Plant) (end : List Standing) → length end ≡ length plants →
    length (plant_rows lines accounts index plants end) ≡ plant_row_numbers * length plants
unfolding plant_rows
plant_rows_long lines accounts index [] end same = refl
plant_rows_long lines accounts index (plant ∷ plants) [] same = absurd (omega (arith, same))
plant_rows_long lines accounts index (plant ∷ plants) (standing ∷ end) same =
    let others = plant_rows_long lines accounts (suc index) plants end (omega (arith, same)) in omega (arith, others)

-- and for each segment
pub segment_rows_long : (accounts : List Account) → length (segment_rows accounts) ≡ segment_row_numbers * length accounts
unfolding segment_rows
segment_rows_long [] = refl
segment_rows_long (a ∷ accounts) = omega (arith, segment_rows_long accounts)

-- ---- of an accepted period
module _ {period : Period} {plants segments : List ℕ} (means : Means period plants segments) where
  -- a plant's row, by its index
  pub plant_row_at_lem :
      (index : ℕ) → index < length period.plants →
      row_at plant_row_numbers index plants
      ≡ plant_row (get_or period.plants index no_plant).exported (get_or period.plants index no_plant).fraction (get_or (stores period) index nowhere).amount (associated period.lines (accounts_of period) index)
  plant_row_at_lem index below =
      ap (row_at plant_row_numbers index) means.plants_are
      ∙ plant_rows_lem
      period.lines (accounts_of period) 0 period.plants (stores period)
      (stores_length period)
      index index (omega arith) below

  -- how many numbers the plants' rows have together
  pub plants_long : length plants ≡ plant_row_numbers * length period.plants
  plants_long =
      ap length means.plants_are ∙ plant_rows_long period.lines (accounts_of period) 0 period.plants (stores period) (stores_length period)

  -- how many numbers the segments' rows have together
  pub segments_long : length segments ≡ segment_row_numbers * length period.segments
  segments_long =
      ap length means.segments_are ∙ segment_rows_long (accounts_of period) ∙ ap (λ (n : ℕ). segment_row_numbers * n) (accounts_length period)

  -- a segment's row, by its index
  pub segment_row_at_lem :
      (index : ℕ) → index < length period.segments →
      let a = account_at period index in row_at segment_row_numbers index segments ≡ segment_row a.inflow a.outflow a.emission a.plants
  segment_row_at_lem index below =
      ap (row_at segment_row_numbers index) means.segments_are
      ∙ segment_rows_lem (accounts_of period) index (account_at period index) (rw (accounts_length period) below)
      ∙ ap
      (λ (a : Account). segment_row a.inflow a.outflow a.emission a.plants)
      (account_at_lem period index (account_at period index) below)

-- ---- columns added up
-- tables with the same rows have the same columns
pub column_same :
    (numbers column count : ℕ) (table table' : List ℕ) → ((index : ℕ) → index < count → row_at numbers index table' ≡ row_at numbers index table) →
    column_sum numbers column count table' ≡ column_sum numbers column count table
unfolding column_sum
column_same numbers column zero table table' same = refl
column_same numbers column (suc count) table table' same =
    ap₂ ◌+◌
    (column_same numbers column count table table' (λ index below. same index (omega (arith, below))))
    (ap (λ (row : List ℕ). get_or row column 0) (same count (omega arith)))

-- a column that holds a list's numbers adds up to their sum
pub column_is :
    (numbers column count : ℕ) (table values : List ℕ) → count ≤ length values →
    ((index : ℕ) → index < count → in_row numbers index column table ≡ get_or values index 0) →
    column_sum numbers column count table ≡ sum (take count values)
unfolding column_sum sum
column_is numbers column zero table values long same = refl
column_is numbers column (suc count) table values long same =
    let before = column_is numbers column count table values (omega (arith, long)) (λ index below. same index (omega (arith, below))) in
    ap₂ ◌+◌ before (same count (omega arith))
    ∙ sym (sum_snoc (take count values) (get_or values count 0))
    ∙ ap sum (sym (take-suc values count 0 long))
