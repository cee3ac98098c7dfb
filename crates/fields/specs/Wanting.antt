-- What is known of a reader, whatever the file: how many numbers it needs, each with which reason, and that some numbers are allowed by its fields.
use Rattle.std.specs.Prelude.{◌≡◌, ℕ, ◌≤◌, true, List, [], ◌∷◌}
use Rattle.number.specs.Groups.{largest}
use Rattle.fields.specs.declared.reason.Reason.{Reason}
use Rattle.fields.specs.Readers.{Reader, return, needs}

module _ {A : Type 0} where
  -- A record: a reader that needs a number for each of these reasons, and no more, whatever the numbers are.
  unfoldable pub Wants : List Reason → Reader A → Type 0
  Wants [] (return what) = Unit {0}
  Wants [] (needs reason allowed then) = ⊥
  Wants (reason ∷ reasons) (return what) = ⊥
  Wants (reason ∷ reasons) (needs its allowed then) = (its ≡ reason) × ((value : ℕ) → Wants reasons (then value))

  -- Some numbers that it took are within the limit, and were allowed, each by its field.
  unfoldable pub Allowed : Reader A → List ℕ → Type 0
  Allowed reader [] = Unit {0}
  Allowed (return what) (value ∷ values) = ⊥
  Allowed (needs reason allowed then) (value ∷ values) = (value ≤ largest) × (allowed value ≡ true) × Allowed (then value) values
