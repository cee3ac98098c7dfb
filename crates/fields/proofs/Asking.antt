-- What a reader asks of a file, number by number: its tests at their places, and what is there if none of them fails; over any form of answer.
use Rattle.std.proofs.Common.{◌≡◌, ℕ, zero, suc, ◌+◌, ◌≤◌, Bool, true, false, cond, not, List, ◌∷◌, ◌++◌, length, refl, ap, ◌∙◌, subst, append_assoc, arith, le-ltb, lt-ltb}
use native.Mathlib.Decide.{dec_le}
use Rattle.number.specs.Reading.{Found as NumberAnswer}
use Rattle.number.specs.Reading.Found.{number as a_number_found, fault as one_fault}
use Rattle.number.specs.Counting.{start_of, number_at, value_at}
use Rattle.number.proofs.Laws.{faults}
use Rattle.number.proofs.Counting.{first_start, next_start, start_told, value_is}
use Rattle.fields.specs.declared.reason.Reason.{Reason}
use Rattle.fields.specs.Reasons.{number_of}
use Rattle.fields.specs.Ranges.{any_amount}
use Rattle.fields.specs.Answers.{Notice, notice}
use Rattle.fields.specs.Readers.{Reader, return, needs, ◌>>=◌, each, Read, read, refused, reads}
use Rattle.fields.specs.Files.{ended, file_read}
use Rattle.fields.specs.Tests.{Test, tested_by, number_tests, field_tests, end_test, listed, tests_of_each}
use Rattle.fields.proofs.FieldByField.{Comes, comes, done as all_read, goes, fails as not_allowed, stops}
use Rattle.fields.proofs.EndOfFile.{more_left, none_left}

module _ {Answer : Type 0} (refuse : Notice → Answer) (file : List ℕ) where
  -- ---- what a reader asks of the file from number k on: its tests one after another, before those that come behind it;
  -- what it gives if none of its own fails; and the number after its last
  pub data Asks {A : Type 0} : Reader A → (k : ℕ) → List Test → A → (end : ℕ) → List Test → Type 0 where
    -- it is done
    done : {what : A} {k : ℕ} {left : List Test} → Asks (return what) k left what k left
    -- it needs a number: after the tests for 1, 2 and 3, that of the field decides whether the others follow
    needed :
        {reason : Reason} {allowed : ℕ → Bool} {then : ℕ → Reader A} {k next end : ℕ} {own tests left : List Test} {what : A} → suc k ≡ next →
        ((answer : Answer) → tested_by refuse own answer ≡ cond (allowed (value_at file k)) (tested_by refuse tests answer) (refuse (notice (number_of reason) k (start_of file k)))) →
        Asks (then (value_at file k)) next tests what end left → Asks (needs reason allowed then) k (number_tests file k ++ own) what end left

  -- what it finds: its own tests pass, and it gives what is there; or one fails, and it refuses with that one's notice
  pub data Found {A : Type 0} (reader : Reader A) (k : ℕ) (tests : List Test) (what : A) (end : ℕ) (left : List Test) : Type 0 where
    passes :
        Comes file reader k (start_of file k) (read what end (start_of file end)) →
        ((answer : Answer) → tested_by refuse tests answer ≡ tested_by refuse left answer) → Found reader k tests what end left
    fails :
        {notice : Notice} → Comes file reader k (start_of file k) (refused notice) →
        ((answer : Answer) → tested_by refuse tests answer ≡ refuse notice) → Found reader k tests what end left

  -- ---- the whole file against its tests, of which the last is that nothing follows: all pass, and it has what is at its places; or
  -- one fails, and it is refused for that one
  pub data Tried {A : Type 0} (reader : Reader A) (tests : List Test) (what : A) (count : ℕ) (left : List Test) : Type 0 where
    all_pass :
        file_read reader file ≡ read what count (start_of file count) → ((answer : Answer) → tested_by refuse tests answer ≡ tested_by refuse left answer) →
        Tried reader tests what count left
    one_fails :
        {notice : Notice} → file_read reader file ≡ refused notice →
        ((answer : Answer) → tested_by refuse tests answer ≡ refuse notice) → Tried reader tests what count left

  -- ---- a fault is found by its own test
  fault_fails :
      (k found : ℕ) (rest : List Test) (answer : Answer) → number_at file k ≡ one_fault found →
      tested_by refuse (number_tests file k ++ rest) answer ≡ refuse (notice found k (start_of file k))
  unfolding tested_by
  fault_fails k zero rest answer e = absurd (omega (arith, (faults file (start_of file k) 0 e).0))
  fault_fails k (suc zero) rest answer e = rw e refl
  fault_fails k (suc (suc zero)) rest answer e = rw e refl
  fault_fails k (suc (suc (suc zero))) rest answer e = rw e refl
  fault_fails k (suc (suc (suc (suc more)))) rest answer e =
      absurd (omega (arith, (faults file (start_of file k) (suc (suc (suc (suc more)))) e).1))

module _ {Answer : Type 0} {refuse : Notice → Answer} {file : List ℕ} where
  -- ---- what a reader asks it finds, and that is one of the two
  pub found :
      {A : Type 0} {reader : Reader A} {k end : ℕ} {tests left : List Test} {what : A} → Asks refuse file reader k tests what end left →
      Found refuse file reader k tests what end left
  unfolding tested_by
  found done = passes all_read (λ answer. refl)
  found {A} (needed {reason} {allowed} {then} {k} {next} {end} {own} {tests} {left} {what} e own_says more) =
      by_number (number_at file k) refl (found more)
    where
      -- after a number that is there, the test of its field decides
      decides :
          (v n : ℕ) (t : Bool) → number_at file k ≡ a_number_found v n → allowed v ≡ t → (answer : Answer) →
          tested_by refuse (number_tests file k ++ own) answer ≡ cond t (tested_by refuse tests answer) (refuse (notice (number_of reason) k (start_of file k)))
      decides v n t q h answer = rw (q, ← h) (rw (value_is file k q) at (own_says answer))

      -- and the next number starts where it ends
      goes_on :
          {outcome : Read A} (v n : ℕ) → number_at file k ≡ a_number_found v n → allowed v ≡ true →
          Comes file (then (value_at file k)) next (start_of file next) outcome → Comes file (needs reason allowed then) k (start_of file k) outcome
      goes_on v n q h comes =
          let starts : start_of file next ≡ n = rw (← e) (next_start file k q) in
          goes q h (rw (value_is file k q, starts, ← e) at comes)

      by_test :
          (v n : ℕ) (t : Bool) → number_at file k ≡ a_number_found v n → allowed v ≡ t → Found refuse file (then (value_at file k)) next tests what end left →
          Found refuse file (needs reason allowed then) k (number_tests file k ++ own) what end left
      by_test v n false q h later =
          let way : Comes file (needs reason allowed then) k (start_of file k) (refused (notice (number_of reason) k (start_of file k))) =
          subst (λ (offset : ℕ). Comes file (needs reason allowed then) k (start_of file k) (refused (notice (number_of reason) k offset))) (start_told file k) (not_allowed q h) in
          fails way (decides v n false q h)
      by_test v n true q h (passes comes says) = passes (goes_on v n q h comes) (λ answer. decides v n true q h answer ∙ says answer)
      by_test v n true q h (fails comes says) = fails (goes_on v n q h comes) (λ answer. decides v n true q h answer ∙ says answer)

      by_number :
          (a : NumberAnswer) → number_at file k ≡ a → Found refuse file (then (value_at file k)) next tests what end left →
          Found refuse file (needs reason allowed then) k (number_tests file k ++ own) what end left
      by_number (one_fault fault) q later =
          let way : Comes file (needs reason allowed then) k (start_of file k) (refused (notice fault k (start_of file k))) =
          subst (λ (offset : ℕ). Comes file (needs reason allowed then) k (start_of file k) (refused (notice fault k offset))) (start_told file k) (stops q) in
          fails way (λ answer. fault_fails refuse file k fault own answer q)
      by_number (a_number_found v n) q later = by_test v n (allowed v) q refl later

  -- ---- a field with a test, and one that takes any amount
  module _ {A : Type 0} {reason : Reason} {then : ℕ → Reader A} {k next end : ℕ} {tests left : List Test} {what : A} where
    pub field :
        {allowed : ℕ → Bool} → suc k ≡ next → Asks refuse file (then (value_at file k)) next tests what end left →
        Asks refuse file (needs reason allowed then) k (field_tests reason allowed file k ++ tests) what end left
    unfolding tested_by
    field {allowed} e more = needed e (λ answer. by_test answer (allowed (value_at file k))) more
      where
        by_test :
            (answer : Answer) (t : Bool) →
            cond (not t) (refuse (notice (number_of reason) k (start_of file k))) (tested_by refuse tests answer) ≡ cond t (tested_by refuse tests answer) (refuse (notice (number_of reason) k (start_of file k)))
        by_test answer true = refl
        by_test answer false = refl

    pub amount :
        suc k ≡ next → Asks refuse file (then (value_at file k)) next tests what end left →
        Asks refuse file (needs reason any_amount then) k (number_tests file k ++ tests) what end left
    amount e more = needed e (λ answer. refl) more

  -- ---- one reader after another
  pub one_then :
      {A B : Type 0} {first : Reader A} {then : A → Reader B} {k middle end : ℕ} {tests between left : List Test} {what : A} {whole : B} →
      Asks refuse file first k tests what middle between → ((given : A) → given ≡ what → Asks refuse file (then given) middle between whole end left) →
      Asks refuse file (first >>= then) k tests whole end left
  one_then (done {what}) later = later what refl
  one_then (needed e own_says more) later = needed e own_says (one_then more later)

  -- ---- a count of records, of which each starts where the one before ends
  module _
      {A : Type 0} (one : ℕ → Reader A) (tests : ℕ → List Test) {place : ℕ → ℕ} {at : ℕ → A} {left : List Test}
      (asks : (index : ℕ) (left : List Test) → Asks refuse file (one (suc index)) (place index) (tests index ++ left) (at index) (place (suc index)) left)
    where
      -- from an index on
      each_from :
          (index count end : ℕ) → index + count ≡ end →
          Asks refuse file (each one (suc index) count) (place index) (tests_of_each tests index count ++ left) (listed at index count) (place end) left
      unfolding each tests_of_each listed
      each_from index zero end e = let is : index ≡ end = omega arith in rw is done
      each_from index (suc count) end e =
          rw (append_assoc (tests index) (tests_of_each tests (suc index) count) left)
          (one_then (asks index (tests_of_each tests (suc index) count ++ left)) (λ first f.
          one_then (each_from (suc index) count end (omega arith)) (λ others o.
          rw (f, o) done)))

      -- from the first on
      pub so_many :
          {from : ℕ} (count : ℕ) → place 0 ≡ from →
          Asks refuse file (each one 1 count) from (tests_of_each tests 0 count ++ left) (listed at 0 count) (place count) left
      so_many count e = rw (← e) (each_from 0 count count (omega arith))

  -- ---- and the whole file
  pub tried :
      {A : Type 0} {reader : Reader A} {tests left : List Test} {what : A} {count : ℕ} → Asks refuse file reader 0 tests what count (end_test file count ∷ left) →
      Tried refuse file reader tests what count left
  unfolding tested_by
  tried {A} {reader} {tests} {left} {what} {count} asks = by_found (found asks)
    where
      after : ℕ
      after = start_of file count

      -- what reading the file from its first number on gives
      from_first : {outcome : Read A} → Comes file reader 0 (start_of file 0) outcome → reads reader file 0 0 ≡ outcome
      from_first come = comes file (rw (first_start file) at come)

      by_found : Found refuse file reader 0 tests what count (end_test file count ∷ left) → Tried refuse file reader tests what count left
      by_found (fails come says) = one_fails (ap (ended file) (from_first come)) says
      by_found (passes come says) = by_end (dec_le (length file) after)
        where
          -- 9, if bytes are left behind the last number
          by_end : Dec (length file ≤ after) → Tried refuse file reader tests what count left
          by_end (yes h) =
              all_pass (ap (ended file) (from_first come) ∙ none_left what count file after h) (λ answer. says answer ∙ rw (le-ltb after (length file) h) refl)
          by_end (no h) =
              one_fails (ap (ended file) (from_first come) ∙ more_left what count file after (omega arith))
              (λ answer. says answer ∙ rw (lt-ltb after (length file) (omega arith)) refl)
