-- How a reader goes over a file, field by field.
use Rattle.std.proofs.Common.{◌≡◌, ℕ, suc, Bool, true, false, cond, List, refl, ap, ◌∙◌}
use Rattle.number.specs.Reading.{Found, read_at, offset_at}
use Rattle.number.specs.Reading.Found.{number as a_number_found, fault as one_fault}
use Rattle.fields.specs.declared.reason.Reason.{Reason}
use Rattle.fields.specs.Reasons.{number_of}
use Rattle.fields.specs.Answers.{notice}
use Rattle.fields.specs.Readers.{Reader, return, needs, Read, read, refused, on_found, reads}

-- What a reader gives that starts at a number's place and at its first byte.
pub data Comes {A : Type 0} (file : List ℕ) : Reader A → (place at : ℕ) → Read A → Type 0 where
  -- all is read
  done : {what : A} {place at : ℕ} → Comes file (return what) place at (read what place at)
  -- a number that is there and allowed: what follows decides
  goes :
      {reason : Reason} {allowed : ℕ → Bool} {then : ℕ → Reader A} {place at : ℕ} {outcome : Read A} {v n : ℕ} →
      read_at file at ≡ a_number_found v n → allowed v ≡ true → Comes file (then v) (suc place) n outcome →
      Comes file (needs reason allowed then) place at outcome
  -- a number that is there and not allowed
  fails :
      {reason : Reason} {allowed : ℕ → Bool} {then : ℕ → Reader A} {place at : ℕ} {v n : ℕ} →
      read_at file at ≡ a_number_found v n → allowed v ≡ false →
      Comes file (needs reason allowed then) place at (refused (notice (number_of reason) place (offset_at file at)))
  -- a fault in place of the number
  stops :
      {reason : Reason} {allowed : ℕ → Bool} {then : ℕ → Reader A} {place at : ℕ} {k : ℕ} →
      read_at file at ≡ one_fault k → Comes file (needs reason allowed then) place at (refused (notice k place (offset_at file at)))

-- ---- one field at a time: what a reader gives that needs a number at a byte
module _ {A : Type 0} (file : List ℕ) (reason : Reason) (allowed : ℕ → Bool) (then : ℕ → Reader A) (place at : ℕ) where
  -- what is found there decides
  by_found : Found → Read A
  by_found found =
      on_found place (offset_at file at) found (λ (value next : ℕ).
      cond (allowed value) (reads (then value) file (suc place) next) (refused (notice (number_of reason) place (offset_at file at))))

  tested :
      (v n : ℕ) (t : Bool) → read_at file at ≡ a_number_found v n → allowed v ≡ t →
      reads (needs reason allowed then) file place at
      ≡ cond t (reads (then v) file (suc place) n) (refused (notice (number_of reason) place (offset_at file at)))
  unfolding reads by_found
  tested v n t e h =
      ap by_found e
      ∙ ap (λ (x : Bool). cond x (reads (then v) file (suc place) n) (refused (notice (number_of reason) place (offset_at file at)))) h

  -- a number that is allowed: the rest decides
  pub field_passed :
      (v n : ℕ) → read_at file at ≡ a_number_found v n → allowed v ≡ true →
      reads (needs reason allowed then) file place at ≡ reads (then v) file (suc place) n
  field_passed v n e h = tested v n true e h

  -- a number that is not allowed
  pub field_wrong :
      (v n : ℕ) → read_at file at ≡ a_number_found v n → allowed v ≡ false →
      reads (needs reason allowed then) file place at ≡ refused (notice (number_of reason) place (offset_at file at))
  field_wrong v n e h = tested v n false e h

  -- a fault
  pub field_faulty :
      (k : ℕ) → read_at file at ≡ one_fault k → reads (needs reason allowed then) file place at ≡ refused (notice k place (offset_at file at))
  unfolding reads by_found
  field_faulty k e = ap by_found e

-- ---- and that is what reading gives there
pub comes :
    {A : Type 0} (file : List ℕ) {reader : Reader A} {place at : ℕ} {outcome : Read A} →
    Comes file reader place at outcome → reads reader file place at ≡ outcome
unfolding reads
comes file done = refl
comes file (goes {reason} {allowed} {then} {place} {at} {v = v} {n = n} e h later) = field_passed file reason allowed then place at v n e h ∙ comes file later
comes file (fails {reason} {allowed} {then} {place} {at} {v} {n} e h) = field_wrong file reason allowed then place at v n e h
comes file (stops {reason} {allowed} {then} {place} {at} {k} e) = field_faulty file reason allowed then place at k e

-- and every reading goes so: a number is there or a fault, and the test of its field allows the number or not
abbrev GoesOver : {A : Type 0} → List ℕ → Reader A → (place at : ℕ) → Type 0
GoesOver file reader place at = Comes file reader place at (reads reader file place at)

pub goes_over : {A : Type 0} (file : List ℕ) (reader : Reader A) (place at : ℕ) → GoesOver file reader place at
unfolding reads
goes_over file (return what) place at = done
goes_over {A} file (needs reason allowed then) place at = by_number (read_at file at) refl (λ v n. goes_over file (then v) (suc place) n)
  where
    so : {outcome : Read A} → Comes file (needs reason allowed then) place at outcome → GoesOver file (needs reason allowed then) place at
    so way = rw (comes file way) way

    by_test :
        (v n : ℕ) (t : Bool) → read_at file at ≡ a_number_found v n → allowed v ≡ t → GoesOver file (then v) (suc place) n →
        GoesOver file (needs reason allowed then) place at
    by_test v n true e h later = so (goes e h later)
    by_test v n false e h later = so (fails e h)

    by_number :
        (a : Found) → read_at file at ≡ a → ((v n : ℕ) → GoesOver file (then v) (suc place) n) →
        GoesOver file (needs reason allowed then) place at
    by_number (one_fault k) e later = so (stops e)
    by_number (a_number_found v n) e later = by_test v n (allowed v) e refl (later v n)
