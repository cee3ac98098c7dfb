-- The tests of a segment, in their order: what they give, whatever tests follow.
use Prim.Native.Nat.{ℕ, ◌≤◌, ◌<◌}
use mathlib.Core.Path.{◌≡◌, refl}
use mathlib.Core.Bool.{false, ◌&&◌, and-false}
use mathlib.Core.List.{List, [], ◌∷◌}
use mathlib.Core.Logic.{◌⊎◌, ⊎_elim}
use native.Mathlib.Omega.{arith}
use lib.Dec.{ltb, eqb}
use borrow.Author.Tests.{lt-ltb, le-ltb, eq-eqb, ne_eqb}
use Rattle.number.specs.Groups.{largest}
use Rattle.fields.specs.declared.reason.Reason.TheVariants.{InflowTooLarge, OutflowOverInflow, EmissionWithoutInflow}
use Rattle.fields.specs.Reasons.{number_of}
use Rattle.fields.specs.Answers.{notice, Verdict, accepts, refuses}
use Rattle.fields.specs.Tests.{Test, tested_by}
use Rattle.accounts.specs.Accounts.{Account}
use Rattle.accounts.specs.Order.{segment_tests}
use Rattle.settling.specs.declared.flow.Due.{Due}
use Rattle.settling.specs.declared.flow.Books.{Books}
use Rattle.settling.specs.Books.{Passes, figures, account_by}

-- ---- the tests of one segment
module _ (bytes : ℕ) (a : Account) where
  abbrev tests : List Test
  tests = segment_tests bytes (a ∷ [])

  -- 11: the inflow is over the largest number
  pub inflow_refused : largest < a.inflow → Passes (refuses (notice (number_of InflowTooLarge) a.own bytes)) tests
  unfolding tested_by segment_tests
  inflow_refused over = λ rest settled. rw (lt-ltb largest a.inflow over) refl

  -- 12: the outflow is larger than the inflow
  pub outflow_refused : a.inflow ≤ largest → a.inflow < a.outflow → Passes (refuses (notice (number_of OutflowOverInflow) a.own bytes)) tests
  unfolding tested_by segment_tests
  outflow_refused fits over = λ rest settled. rw (le-ltb largest a.inflow fits, lt-ltb a.inflow a.outflow over) refl

  -- 13: there is an emission and no inflow
  pub emission_refused :
      a.inflow ≤ largest → a.outflow ≤ a.inflow → 0 < a.emission → a.inflow ≡ 0 → Passes (refuses (notice (number_of EmissionWithoutInflow) a.own bytes)) tests
  unfolding tested_by segment_tests
  emission_refused fits out some none =
      λ rest settled. rw (
        le-ltb largest a.inflow fits,
        le-ltb a.inflow a.outflow out,
        lt-ltb 0 a.emission some,
        eq-eqb a.inflow 0 none,
      ) refl

  -- an emission is 0, or there is inflow to charge it to
  charged : (a.emission ≤ 0) ⊎ (0 < a.inflow) → ltb 0 a.emission && eqb a.inflow 0 ≡ false
  charged =
      ⊎_elim
      (λ none. rw (le-ltb 0 a.emission none) refl)
      (λ some. rw (ne_eqb a.inflow 0 (λ e. omega arith)) (and-false (ltb 0 a.emission)))

  -- none of them
  pub segment_passes : a.inflow ≤ largest → a.outflow ≤ a.inflow → (a.emission ≤ 0) ⊎ (0 < a.inflow) → Passes accepts tests
  unfolding tested_by segment_tests
  segment_passes fits out or = λ rest settled. rw (le-ltb largest a.inflow fits, le-ltb a.inflow a.outflow out, charged or) refl

-- the tests of the segment whose turn it is, by its figures
module _ (due : Due) (books : Books) {inflow : ℕ} (inflow_is : inflow ≡ (account_by due books).inflow) where
  pub own_tests :
      (verdict : Verdict) → Passes verdict (segment_tests due.bytes (figures due inflow ∷ [])) → Passes verdict (segment_tests due.bytes (account_by due books ∷ []))
  unfolding segment_tests
  own_tests verdict told = rw inflow_is at told
