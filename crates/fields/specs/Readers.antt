-- Readers of fields: they take a file's numbers in turn, and test each before they take the next (rules 2.1 and 8.3).
use Rattle.std.specs.Prelude.{ℕ, zero, suc, Bool, true, cond, List, [], ◌∷◌}
use Rattle.number.specs.Reading.{Found, read_at, offset_at}
use Rattle.number.specs.Reading.Found.{number as a_number_found, fault as one_fault}
use Rattle.fields.specs.declared.reason.Reason.{Reason}
use Rattle.fields.specs.declared.reason.Reason.TheVariants.{Ends}
use Rattle.fields.specs.Reasons.{number_of}
use Rattle.fields.specs.Answers.{Notice, notice}
use Rattle.fields.specs.Ranges.{any_amount}

-- A reader is done; or it needs a number, with the test of its field and the reason if that fails, and goes on by the value.
pub data Reader (A : Type 0) : Type 0 where
  return : A → Reader A
  needs : (reason : Reason) (allowed : ℕ → Bool) (then : ℕ → Reader A) → Reader A

-- One field, with its test.
abbrev pub field : Reason → (ℕ → Bool) → Reader ℕ
field reason allowed = needs reason allowed return

-- A number without a range of its own. Its test never fails, so the reason here is never given (rule 2.9).
abbrev pub any_number : Reader ℕ
any_number = field Ends any_amount

-- One reader, then another by what the first has read.
infixl 20 ◌>>=◌
abbrev pub ◌>>=◌ : {A B : Type 0} → Reader A → (A → Reader B) → Reader B
return what >>= then = then what
needs reason allowed more >>= then = needs reason allowed (λ value. more value >>= then)

-- A count of records, one after another; the first has the number `own`.
unfoldable pub each : {A : Type 0} → (ℕ → Reader A) → (own count : ℕ) → Reader (List A)
each one own zero = return []
each one own (suc count) = do
  what ← one own
  rest ← each one (suc own) count
  return (what ∷ rest)

-- What reading gives: what was read, with the place and the byte behind its last number; or a refusal, with its notice.
pub data Read (A : Type 0) : Type 0 where
  read : (what : A) (place at : ℕ) → Read A
  refused : Notice → Read A

-- What comes of a number with this place and offset: a fault is refused, and a value with the byte behind it is gone on from.
abbrev pub on_found : {A : Type 0} → (place offset : ℕ) → Found → ((value next : ℕ) → Read A) → Read A
on_found place offset (a_number_found value next) then = then value next
on_found place offset (one_fault k) then = refused (notice k place offset)

-- A reader put to a file from a byte on, where the number with this place starts: a number's fault, then its field, then the next (rules 2.1,
-- 8.2, 8.3 and 8.9).
unfoldable pub reads : {A : Type 0} → Reader A → List ℕ → (place at : ℕ) → Read A
reads (return what) file place at = read what place at
reads (needs reason allowed then) file place at =
    on_found place (offset_at file at) (read_at file at) (λ (value next : ℕ).
    cond (allowed value) (reads (then value) file (suc place) next) (refused (notice (number_of reason) place (offset_at file at))))

-- The values that follow what is found: none after a fault.
abbrev pub values_on : Found → ((value next : ℕ) → List ℕ) → List ℕ
values_on (a_number_found value next) then = value ∷ then value next
values_on (one_fault k) then = []

-- The numbers that a reader takes from a byte of a file on: up to its last field, or up to and with the number that it refuses.
unfoldable pub consumes : {A : Type 0} → Reader A → List ℕ → (at : ℕ) → List ℕ
consumes (return what) file at = []
consumes (needs reason allowed then) file at =
    values_on (read_at file at) (λ (value next : ℕ). cond (allowed value) (consumes (then value) file next) [])

-- ---- the fields of a record by their index, apart from any file
-- What a reader still needs behind some numbers, which are not tested.
unfoldable pub onward : {A : Type 0} → Reader A → List ℕ → Reader A
onward reader [] = reader
onward (return what) (value ∷ values) = return what
onward (needs reason allowed then) (value ∷ values) = onward (then value) values

-- Whether its next field allows a value; behind the last field nothing is tested.
abbrev pub allows_next : {A : Type 0} → Reader A → ℕ → Bool
allows_next (return what) value = true
allows_next (needs reason allowed then) value = allowed value
