-- How the reading of a file ends, after how many numbers; and what the number of a refusal tells of that.
use Prim.Native.Nat.{ℕ, suc, ◌≤◌, ◌<◌}
use mathlib.Core.Path.{◌≡◌, refl}
use mathlib.Core.List.{List}
use native.Mathlib.Omega.{arith}
use lib.ListN.{length}
use Rattle.number.specs.Reading.{fault as one_fault, too_large}
use Rattle.number.specs.Counting.{start_of, number_at}
use Rattle.number.proofs.Laws.{faults}
use Rattle.fields.specs.declared.reason.Reason.TheVariants.{WrongEdition, WrongLine, BytesAfter}
use Rattle.fields.specs.Answers.{Notice, notice}
use Rattle.fields.specs.Readers.{Read, read, refused}
use Rattle.fields.specs.Reasons.{number_of}

-- How the reading of a file ends, after a count of numbers.
pub data Ending {A : Type 0} (file : List ℕ) (count : ℕ) : Read A → Type 0 where
  -- all is read, and no bytes are left
  all_read : {what : A} → length file ≤ start_of file count → Ending file count (read what count (start_of file count))
  -- all is read, and bytes are left
  bytes_left : start_of file count < length file → Ending file count (refused (notice (number_of BytesAfter) count (start_of file count)))
  -- the next number has a fault
  has_fault : {refusal : ℕ} → number_at file count ≡ one_fault refusal → Ending file count (refused (notice refusal count (start_of file count)))
  -- the last number's value is refused
  not_allowed :
      {refusal place : ℕ} → (number_of WrongEdition ≤ refusal) × (refusal ≤ number_of WrongLine) → count ≡ suc place →
      Ending file count (refused (notice refusal place (start_of file place)))

-- ---- if reading gives a period
-- no bytes are left
pub read_ending :
    {A : Type 0} {file : List ℕ} {count place at : ℕ} {what : A} → Ending file count (read what place at) → length file ≤ start_of file count
read_ending (all_read h) = h

-- ---- if the file is refused
-- for 1, 2 or 3: there are as many numbers as its place says, and the next one has that fault
pub fault_ending :
    {A : Type 0} {file : List ℕ} {count : ℕ} {told : Notice} → told.number ≤ too_large → Ending {A = A} file count (refused told) →
    (count ≡ told.place) × (number_at file count ≡ one_fault told.number)
fault_ending most (bytes_left h) = absurd (omega (arith, most))
fault_ending most (has_fault h) = (refl, h)
fault_ending most (not_allowed its h) = absurd (omega (arith, most, its))

-- for 4 to 8: the number at its place is the last
pub field_ending :
    {A : Type 0} {file : List ℕ} {count : ℕ} {told : Notice} → number_of WrongEdition ≤ told.number → told.number ≤ number_of WrongLine →
    Ending {A = A} file count (refused told) → count ≡ suc told.place
field_ending least most (bytes_left h) = absurd (omega (arith, most))
field_ending {file} {count} {told} least most (has_fault h) = absurd (omega (arith, least, (faults file (start_of file count) told.number h).1))
field_ending least most (not_allowed its h) = h

-- for 9: there are as many numbers as its place says, and bytes after them
pub after_ending :
    {A : Type 0} {file : List ℕ} {count : ℕ} {told : Notice} → told.number ≡ number_of BytesAfter → Ending {A = A} file count (refused told) →
    (count ≡ told.place) × (start_of file count < length file)
after_ending nine (bytes_left h) = (refl, h)
after_ending {file} {count} {told} nine (has_fault h) = absurd (omega (arith, nine, (faults file (start_of file count) told.number h).1))
after_ending nine (not_allowed its h) = absurd (omega (arith, nine, its))

-- and there is no other
pub early_ending : {A : Type 0} {file : List ℕ} {count : ℕ} {told : Notice} → Ending {A = A} file count (refused told) → told.number ≤ number_of BytesAfter
early_ending (bytes_left h) = omega arith
early_ending {file} {count} {told} (has_fault h) = omega (arith, (faults file (start_of file count) told.number h).1)
early_ending (not_allowed its h) = omega (arith, its)

-- in each case there are at least as many numbers as its place says, and its offset is where the next one starts
pub offset_ending :
    {A : Type 0} {file : List ℕ} {count : ℕ} {told : Notice} → Ending {A = A} file count (refused told) →
    (told.place ≤ count) × (told.offset ≡ start_of file told.place)
offset_ending (bytes_left h) = (omega arith, refl)
offset_ending (has_fault h) = (omega arith, refl)
offset_ending (not_allowed its h) = (omega (arith, h), refl)
