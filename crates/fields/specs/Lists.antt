-- Lists of numbers and of records: a sum, a property of each, the numbers of all, and how an array holds them.
use Rattle.std.specs.Prelude.{ℕ, suc, ◌+◌, ◌-◌, List, [], ◌∷◌, ◌++◌, length, replicate}

-- The sum of a list.
unfoldable pub sum : List ℕ → ℕ
sum [] = 0
sum (n ∷ ns) = n + sum ns

-- Each record of a list has a property, which may depend on its own number; that of the first is `own`.
unfoldable pub Each : {A : Type 0} → (ℕ → A → Type 0) → ℕ → List A → Type 0
Each P own [] = Unit {0}
Each P own (one ∷ rest) = P own one × Each P (suc own) rest

-- The numbers of all records, one record after another.
unfoldable pub in_turn : {A : Type 0} → (A → List ℕ) → List A → List ℕ
in_turn numbers [] = []
in_turn numbers (one ∷ rest) = numbers one ++ in_turn numbers rest

-- Records in an array with a given room; the entries behind them are `none`.
unfoldable pub filled : {A : Type 0} → A → ℕ → List A → List A
filled none room held = held ++ replicate (room - length held) none
