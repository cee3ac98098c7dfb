-- Tests in their order, over any form of answer: the first that fails refuses, and if none fails the answer is the given one.
use Rattle.std.proofs.Common.{◌≡◌, ℕ, zero, suc, ◌<◌, Bool, true, false, cond, List, [], ◌∷◌, ◌++◌, length, get_or, sym, refl, ap, ◌∙◌, append-nil}
use Rattle.fields.specs.Answers.{Notice}
use Rattle.fields.specs.Tests.{Test, refusal_by, tested_by, FirstFails, here, later, NoneFails, end, holds, listed}
use Rattle.fields.proofs.Outcome.{numbered_above}

module _ {A : Type 0} (refuse : Notice → A) where
  -- ---- the first test that fails gives the answer
  pub first_answers :
      {tests : List Test} {notice : Notice} (answer : A) → FirstFails tests notice → tested_by refuse tests answer ≡ refuse notice
  unfolding tested_by
  first_answers answer (here h) = rw h
  first_answers answer (later h more) = rw h (first_answers answer more)

  -- ---- if none fails, the answer is the given one
  pub none_answers : {tests : List Test} (answer : A) → NoneFails tests → tested_by refuse tests answer ≡ answer
  unfolding tested_by
  none_answers answer end = refl
  none_answers answer (holds h more) = rw h (none_answers answer more)

  -- and if the outcome is no refusal, none fails
  pub none_fails :
      (tests : List Test) (answer other : A) → ((notice : Notice) → refuse notice ≡ other → ⊥) → tested_by refuse tests answer ≡ other →
      NoneFails tests
  unfolding tested_by
  none_fails [] answer other no_refusal e = end
  none_fails (test ∷ tests) answer other no_refusal e = by_test test.fails refl e (none_fails tests answer other no_refusal)
    where
      by_test :
          (t : Bool) → test.fails ≡ t → cond t (refuse (refusal_by test)) (tested_by refuse tests answer) ≡ other →
          (tested_by refuse tests answer ≡ other → NoneFails tests) → NoneFails (test ∷ tests)
      by_test true h e again = absurd (no_refusal _ e)
      by_test false h e again = holds h (again e)

  -- ---- if the outcome is a refusal, and the given answer is not that one, a test fails that has its notice
  pub first_fails :
      ((one other : Notice) → refuse one ≡ refuse other → one ≡ other) → (tests : List Test) (notice : Notice) (answer : A) →
      (answer ≡ refuse notice → ⊥) → tested_by refuse tests answer ≡ refuse notice → FirstFails tests notice
  unfolding tested_by
  first_fails told [] notice answer no_refusal e = absurd (no_refusal e)
  first_fails told (test ∷ tests) notice answer no_refusal e =
      by_test test.fails refl e (first_fails told tests notice answer no_refusal)
    where
      by_test :
          (t : Bool) → test.fails ≡ t → cond t (refuse (refusal_by test)) (tested_by refuse tests answer) ≡ refuse notice →
          (tested_by refuse tests answer ≡ refuse notice → FirstFails tests notice) → FirstFails (test ∷ tests) notice
      by_test true h e again = let same = told (refusal_by test) notice e in rw (← same) (here h)
      by_test false h e again = later h (again e)

-- ---- tests in two forms of answer, where `turn` makes of the one what the other is
module _ {A B : Type 0} (refuse : Notice → A) (refuse' : Notice → B) (turn : A → B) (turned : (notice : Notice) → refuse' notice ≡ turn (refuse notice)) where
  -- with others behind them, which give what the answer turns to
  pub tests_turned :
      (tests rest : List Test) (answer : A) (answer' : B) → tested_by refuse' rest answer' ≡ turn answer →
      tested_by refuse' (tests ++ rest) answer' ≡ turn (tested_by refuse tests answer)
  unfolding tested_by
  tests_turned [] rest answer answer' e = e
  tests_turned (test ∷ tests) rest answer answer' e = by_test test.fails (tests_turned tests rest answer answer' e)
    where
      by_test :
          (t : Bool) → tested_by refuse' (tests ++ rest) answer' ≡ turn (tested_by refuse tests answer) →
          cond t (refuse' (refusal_by test)) (tested_by refuse' (tests ++ rest) answer') ≡ turn (cond t (refuse (refusal_by test)) (tested_by refuse tests answer))
      by_test true same = turned (refusal_by test)
      by_test false same = same

  -- and by themselves
  pub tests_as : (tests : List Test) (answer : A) → tested_by refuse' tests (turn answer) ≡ turn (tested_by refuse tests answer)
  unfolding tested_by
  tests_as tests answer =
      ap (λ (all : List Test). tested_by refuse' all (turn answer)) (sym (append-nil tests)) ∙ tests_turned tests [] answer (turn answer) refl

-- ---- what a test refuses with is never 0
pub first_numbered : {tests : List Test} {notice : Notice} → FirstFails tests notice → 0 < notice.number
first_numbered (here {test} h) = numbered_above test.reason
first_numbered (later h more) = first_numbered more

-- ---- if none of all tests fails, none of the first ones and none of those behind them does
pub none_of_both : (tests rest : List Test) → NoneFails (tests ++ rest) → NoneFails tests × NoneFails rest
none_of_both [] rest none = (end, none)
none_of_both (test ∷ tests) rest (holds h more) = let both = none_of_both tests rest more in (holds h both.0, both.1)

-- ---- a list of a count of records has that length
pub listed_length : {A : Type 0} (at : ℕ → A) (from count : ℕ) → length (listed at from count) ≡ count
unfolding listed
listed_length at from zero = refl
listed_length at from (suc count) = ap suc (listed_length at (suc from) count)

-- and what holds at each index, and of what is behind the last, holds of each of them
pub listed_each :
    {A : Type 0} (P : A → Type 0) (at : ℕ → A) (none : A) → P none → ((index : ℕ) → P (at index)) → (from count i : ℕ) → P (get_or (listed at from count) i none)
unfolding listed
listed_each P at none of_none of_each from zero i = of_none
listed_each P at none of_none of_each from (suc count) zero = of_each from
listed_each P at none of_none of_each from (suc count) (suc i) = listed_each P at none of_none of_each (suc from) count i
