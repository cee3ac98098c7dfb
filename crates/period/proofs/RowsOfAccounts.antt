-- The rows of the definitions are those of the settled accounts, which stand at the front of what the code has.
use Prim.Native.Nat.{ℕ, suc, ◌+◌, ◌-◌}
use mathlib.Core.Path.{◌≡◌, refl, sym, ap, ap₂, ◌∙◌}
use mathlib.Core.List.{List, [], ◌∷◌, ◌++◌, flat_map, map}
use native.Mathlib.Omega.{arith}
use lib.ListN.{length, take, get_or, replicate}
use lib.Seq.{take_at}
use Rattle.fields.specs.Lists.{filled}
use Rattle.fields.specs.Tests.{listed}
use Rattle.records.specs.declared.line.Line.{Line}
use Rattle.records.specs.declared.plant.Plant.{Plant}
use Rattle.records.specs.Plants.{no_plant}
use Rattle.records.specs.Periods.{Period}
use Rattle.accounts.specs.Flow.{Standing, nowhere}
use Rattle.accounts.specs.Accounts.{Account}
use Rattle.accounts.specs.Rows.{plant_row, associated, plant_rows, segment_rows}
use Rattle.accounts.specs.Quantified.{accounts_of, stores}
use Rattle.accounts.proofs.RowsAt.{stores_length}
use Rattle.settling.specs.declared.account.PlantAccount.{PlantAccount}
use Rattle.settling.specs.Settled.{segment_account, plant_account_at, plant_accounts}
use Rattle.period.specs.Written.{plant_row_of, segment_row_of}

-- ---- the rows of the definitions, by the accounts
module _ (lines : List Line) (accounts : List Account) where
  -- of the plants from an index on
  plant_rows_from :
      (plants : List Plant) (arrived : List Standing) (at : ℕ → PlantAccount) (from : ℕ) → length arrived ≡ length plants →
      ((i j : ℕ) → from + i ≡ j →
      plant_row_of (at j) ≡ plant_row (get_or plants i no_plant).exported (get_or plants i no_plant).fraction (get_or arrived i nowhere).amount (associated lines accounts j)) →
      plant_rows lines accounts from plants arrived ≡ flat_map plant_row_of (listed at from (length plants))
  unfolding plant_rows listed flat_map
  plant_rows_from [] arrived at from long same = refl
  plant_rows_from (plant ∷ plants) [] at from long same = absurd (omega (arith, long))
  plant_rows_from (plant ∷ plants) (standing ∷ arrived) at from long same =
      ap₂ ◌++◌ (sym (same 0 from (omega arith)))
      (plant_rows_from plants arrived at (suc from) (omega (arith, long)) (λ i j is. same (suc i) j (omega arith)))

-- of all plants
pub plant_rows_are : (period : Period) → plant_rows period.lines (accounts_of period) 0 period.plants (stores period) ≡ flat_map plant_row_of (plant_accounts period)
plant_rows_are period =
    plant_rows_from period.lines (accounts_of period) period.plants (stores period) (plant_account_at period) 0 (stores_length period)
    (λ i j is. let same : j ≡ i = omega arith in
    ap (λ (n : ℕ).
    plant_row (get_or period.plants n no_plant).exported (get_or period.plants n no_plant).fraction (get_or (stores period) n nowhere).amount
    (associated period.lines (accounts_of period) j)) same)

-- and of the segments
pub segment_rows_are : (accounts : List Account) → segment_rows accounts ≡ flat_map segment_row_of (map segment_account accounts)
unfolding segment_rows flat_map
segment_rows_are [] = refl
segment_rows_are (account ∷ accounts) = ap (λ (l : List ℕ). segment_row_of (segment_account account) ++ l) (segment_rows_are accounts)

-- ---- the accounts in an array: the first, as many as there are
pub filled_front :
    {A : Type 0} (none : A) (room count : ℕ) (held array : List A) → array ≡ filled none room held → count ≡ length held → take count array ≡ held
unfolding filled
filled_front none room count held array is long = ap (take count) is ∙ take_at held (replicate (room - length held) none) count (sym long)
