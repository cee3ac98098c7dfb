-- Tests of a file, each at its place and offset, without a reader of fields: a test looks up in the file the numbers that it needs.
use Rattle.std.specs.Prelude.{◌≡◌, ℕ, zero, suc, Bool, true, false, cond, not, List, [], ◌∷◌, ◌++◌, length, ◌==◌, nat_lt}
use Rattle.number.specs.Reading.{Found}
use Rattle.number.specs.Reading.Found.{number as a_number_found, fault as one_fault}
use Rattle.number.specs.Counting.{start_of, number_at, value_at}
use Rattle.fields.specs.declared.reason.Reason.{Reason}
use Rattle.fields.specs.declared.reason.Reason.TheVariants.{Ends, NotShortest, TooLarge, BytesAfter}
use Rattle.fields.specs.Reasons.{number_of}
use Rattle.fields.specs.Answers.{Notice, notice}

-- A test: whether it fails, and for which reason, at which place and at which offset it then refuses the file (rules 8.1, 8.2 and 8.9).
pub record Test : Type 0 where
  pub fails : Bool
  pub reason : Reason
  pub place : ℕ
  pub offset : ℕ

-- The notice of its refusal.
abbrev pub refusal_by : Test → Notice
refusal_by test = notice (number_of test.reason) test.place test.offset

-- The first test that fails refuses; if none does, the answer is the given one (rule 8.8).
unfoldable pub tested_by : {A : Type 0} → (Notice → A) → List Test → A → A
tested_by refuse [] answer = answer
tested_by refuse (test ∷ tests) answer = cond test.fails (refuse (refusal_by test)) (tested_by refuse tests answer)

-- The notice of the first test that fails: none before it does.
pub data FirstFails : List Test → Notice → Type 0 where
  here : {test : Test} {tests : List Test} → test.fails ≡ true → FirstFails (test ∷ tests) (refusal_by test)
  later : {test : Test} {tests : List Test} {notice : Notice} → test.fails ≡ false → FirstFails tests notice → FirstFails (test ∷ tests) notice

-- None of them fails.
pub data NoneFails : List Test → Type 0 where
  end : NoneFails []
  holds : {test : Test} {tests : List Test} → test.fails ≡ false → NoneFails tests → NoneFails (test ∷ tests)

-- ---- the tests of a number
-- Whether number reading found this fault: 1, 2 or 3. A number has at most one (rule 1.5).
abbrev pub is_fault : Reason → Found → Bool
is_fault reason (a_number_found value next) = false
is_fault reason (one_fault found) = found == number_of reason

-- The test of number k for one of the faults; its offset is where the number starts (rule 8.9).
abbrev pub fault_test : Reason → List ℕ → ℕ → Test
fault_test reason file k = record { fails = is_fault reason (number_at file k); reason = reason; place = k; offset = start_of file k }

-- The tests of number k for all three faults (rule 1.5).
abbrev pub number_tests : List ℕ → ℕ → List Test
number_tests file k = fault_test Ends file k ∷ fault_test NotShortest file k ∷ fault_test TooLarge file k ∷ []

-- The tests of number k: for its faults, then for its own field (rules 8.3 and 8.9).
abbrev pub field_tests : Reason → (ℕ → Bool) → List ℕ → ℕ → List Test
field_tests reason allowed file k =
    number_tests file k ++ record { fails = not (allowed (value_at file k)); reason = reason; place = k; offset = start_of file k } ∷ []

-- 9: there are bytes behind a count of numbers; the place is that count, the offset the first of these bytes (rules 8.4 and 8.9).
abbrev pub end_test : List ℕ → (count : ℕ) → Test
end_test file count = record { fails = nat_lt (start_of file count) (length file); reason = BytesAfter; place = count; offset = start_of file count }

-- ---- a count of records, from an index on
-- The list of what is at each index.
unfoldable pub listed : {A : Type 0} → (ℕ → A) → (from count : ℕ) → List A
listed at from zero = []
listed at from (suc count) = at from ∷ listed at (suc from) count

-- The tests of each, one record after another.
unfoldable pub tests_of_each : (ℕ → List Test) → (from count : ℕ) → List Test
tests_of_each tests from zero = []
tests_of_each tests from (suc count) = tests from ++ tests_of_each tests (suc from) count
