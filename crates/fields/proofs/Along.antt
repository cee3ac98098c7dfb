-- What is carried along the reading of a file, from field to field: what each field is and where, what is known in the end, and the place and
-- the byte there. Not the numbers that were taken, nor the tests that are left: laws on a whole reader say these.
use Rattle.std.proofs.Common.{◌≡◌, ℕ, zero, suc, ◌+◌, ◌^◌, ◌<◌, ◌≤◌, Bool, true, false, cond, ltb, List, [], length, refl, ap, arith, ltb-false}
use Rattle.number.specs.Groups.{radix, largest}
use Rattle.number.specs.Reading.{read_at, too_large}
use Rattle.number.specs.Reading.Found.{number as a_number_found}
use Rattle.number.proofs.Laws.{bounds, faults}
use Rattle.number.proofs.Writing.{few_bytes}
use Rattle.fields.specs.declared.reason.Reason.{Reason}
use Rattle.fields.specs.declared.reason.Reason.TheVariants.{BytesAfter}
use Rattle.fields.specs.Reasons.{number_of}
use Rattle.fields.specs.Answers.{Notice, notice}
use Rattle.fields.specs.Readers.{Reader, return, needs, ◌>>=◌, each, Read, read, refused, reads}
use Rattle.fields.specs.Files.{ended}
use Rattle.fields.specs.Lists.{Each}
use Rattle.fields.proofs.FieldByField.{Comes, done as all_read, goes, fails, stops, goes_over}

module _ (file : List ℕ) (May : (place at : ℕ) → Reason → Type 0) {A : Type 0} (P : A → (place at : ℕ) → Type 0) where
  -- From a number's place and its first byte on, a reader may need each number that it takes, there and with its reason; and what it
  -- gives in the end has a property, with the place and the byte after it.
  pub data Along : Reader A → (place at : ℕ) → Type 0 where
    done : {what : A} {place at : ℕ} → P what place at → Along (return what) place at
    needed :
        {reason : Reason} {allowed : ℕ → Bool} {then : ℕ → Reader A} {place at : ℕ} → May place at reason →
        ((value next : ℕ) → read_at file at ≡ a_number_found value next → allowed value ≡ true → Along (then value) (suc place) next) →
        Along (needs reason allowed then) place at

  -- What reading then gives: that property; or a refusal at a field that it may need, or for a fault.
  pub data Came : Read A → Type 0 where
    came : {what : A} {place at : ℕ} → P what place at → Came (read what place at)
    not_allowed : {reason : Reason} {place at offset : ℕ} → May place at reason → Came (refused (notice (number_of reason) place offset))
    has_fault : {fault place offset : ℕ} → fault ≤ too_large → Came (refused (notice fault place offset))

  -- And what the whole file gives: all is read, and no bytes are left or some are; or that refusal.
  pub data Ended : Read A → Type 0 where
    none_left : {what : A} {place at : ℕ} → P what place at → length file ≤ at → Ended (read what place at)
    bytes_left : {what : A} {place at : ℕ} → P what place at → Ended (refused (notice (number_of BytesAfter) place at))
    not_read : {notice : Notice} → Came (refused notice) → Ended (refused notice)

module _ {file : List ℕ} {May : (place at : ℕ) → Reason → Type 0} where
  -- one field, whose values all take at most a given number of bytes
  pub one_field :
      {A : Type 0} {P : A → (place at : ℕ) → Type 0} {reason : Reason} {allowed : ℕ → Bool}
      {then : ℕ → Reader A} {place at : ℕ} (bytes : ℕ) →
      May place at reason → ((value : ℕ) → value ≤ largest → allowed value ≡ true → (0 < bytes) × (value < radix ^ bytes)) →
      ((value next : ℕ) → value ≤ largest → allowed value ≡ true → next ≤ at + bytes → Along file May P (then value) (suc place) next) →
      Along file May P (needs reason allowed then) place at
  one_field {at} bytes may below rest =
      needed may (λ value next is passed.
      let small = (bounds file at value next is).small in
      let (some, few) = below value small passed in
      rest value next small passed (few_bytes file at value next is bytes some few))

  -- one reader after another
  pub one_then :
      {A B : Type 0} {P : A → (place at : ℕ) → Type 0} {Q : B → (place at : ℕ) → Type 0} {first : Reader A} {then : A → Reader B} {place at : ℕ} →
      Along file May P first place at → ((what : A) (next to : ℕ) → P what next to → Along file May Q (then what) next to) →
      Along file May Q (first >>= then) place at
  one_then (done {what} {place} {at} p) rest = rest what place at p
  one_then (needed may more) rest = needed may (λ value next is passed. one_then (more value next is passed) rest)

  -- what follows from the condition of each field and from the property in the end
  pub along_on :
      {A : Type 0} {P Q : A → (place at : ℕ) → Type 0} {Also : (place at : ℕ) → Reason → Type 0} {reader : Reader A} {place at : ℕ} →
      ((place at : ℕ) (reason : Reason) → May place at reason → Also place at reason) → ((what : A) (place at : ℕ) → P what place at → Q what place at) →
      Along file May P reader place at → Along file Also Q reader place at
  along_on on then (done {what} {place} {at} p) = done (then what place at p)
  along_on on then (needed {reason} {place} {at} may more) =
      needed (on place at reason may) (λ value next is passed. along_on on then (more value next is passed))

  -- a count of records, each of which has its property, with what holds of the place and the byte between them
  module _
      {A : Type 0} (one : ℕ → Reader A) (P : ℕ → A → Type 0) (Between : (index place at : ℕ) → Type 0) (count : ℕ)
      (along :
      (index place at : ℕ) → index < count → Between index place at →
      Along file May (λ what next to. P (suc index) what × Between (suc index) next to) (one (suc index)) place at)
    where
      -- from an index on
      each_from :
          (index left place at : ℕ) → index + left ≡ count → Between index place at →
          Along file May (λ all next to. (length all ≡ left) × Each P (suc index) all × Between count next to) (each one (suc index) left) place at
      unfolding each Each
      each_from index zero place at e here = let is : index ≡ count = omega arith in done {what = []} (refl, tt, rw is at here)
      each_from index (suc left) place at e here =
          one_then (along index place at (omega arith) here) (λ what a b (p, there).
          one_then (each_from (suc index) left a b (omega arith) there) (λ rest c d (so_many, all, last).
          done (ap suc so_many, (p, all), last)))

      -- from the first on
      pub so_many :
          (place at : ℕ) → Between 0 place at →
          Along file May (λ all next to. (length all ≡ count) × Each P 1 all × Between count next to) (each one 1 count) place at
      so_many place at start = each_from 0 count place at (omega arith) start

  -- what reading gives
  pub comes_to :
      {A : Type 0} {P : A → (place at : ℕ) → Type 0} {reader : Reader A} {place at : ℕ} → Along file May P reader place at →
      Came file May P (reads reader file place at)
  comes_to {A} {P} {reader} {place} {at} along = by_way along (goes_over file reader place at)
    where
      by_way :
          {reader : Reader A} {place at : ℕ} {outcome : Read A} → Along file May P reader place at → Comes file reader place at outcome →
          Came file May P outcome
      by_way (done p) all_read = came p
      by_way (needed may more) (goes {v} {n} e h later) = by_way (more v n e h) later
      by_way (needed may more) (fails e h) = not_allowed may
      by_way (needed may more) (stops {at} {k} e) = has_fault (faults file at k e).1

  -- and what the whole file gives
  pub at_end : {A : Type 0} {P : A → (place at : ℕ) → Type 0} {outcome : Read A} → Came file May P outcome → Ended file May P (ended file outcome)
  at_end {P} (came {what} {place} {at} p) = by_end (ltb at (length file)) refl
    where
      by_end : (t : Bool) → ltb at (length file) ≡ t → Ended file May P (cond t (refused (notice (number_of BytesAfter) place at)) (read what place at))
      by_end true more = bytes_left p
      by_end false none = none_left p (ltb-false at (length file) none)
  at_end (not_allowed may) = not_read (not_allowed may)
  at_end (has_fault small) = not_read (has_fault small)
