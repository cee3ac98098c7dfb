-- What a test says that passes at every row of a table: it passes at the row of each code.
use Prim.Native.Nat.{ℕ, zero, suc, ◌+◌, ◌<◌}
use mathlib.Core.Bool.{Bool, true, false, ◌&&◌}
use mathlib.Core.List.{List, [], ◌∷◌}
use native.Mathlib.Nat.{add-zero, add-suc, suc-add, le_of_suc-le-suc, not-suc-le-zero}
use lib.Dec.{T}
use lib.ListN.{length, get_or}

-- if two tests pass together, each does
pub both : (a b : Bool) → T (a && b) → T a × T b
both true b t = (tt, t)
both false b t = absurd t

module _ {A : Type 0} where
  -- the test passes at every row with its code: the first row has this code, and the codes go up by one
  abbrev pub throughout : (ℕ → A → Bool) → ℕ → List A → Bool
  throughout rule code [] = true
  throughout rule code (row ∷ rows) = rule code row && throughout rule (suc code) rows

  -- so it passes at the row of each code
  pub at_row :
      (rule : ℕ → A → Bool) (first : ℕ) (table : List A) (other : A) → T (throughout rule first table) → (k : ℕ) → k < length table →
      T (rule (first + k) (get_or table k other))
  at_row rule first [] other t k h = absurd (not-suc-le-zero h)
  at_row rule first (row ∷ rows) other t zero h = rw add-zero (both (rule first row) (throughout rule (suc first) rows) t).0
  at_row rule first (row ∷ rows) other t (suc k) h =
      rw (add-suc, ← suc-add) (at_row rule (suc first) rows other (both (rule first row) (throughout rule (suc first) rows) t).1 k (le_of_suc-le-suc h))
