-- What the private functions say to each other. No promise of a public function rests on it.
use Rattle.std.specs.Prelude.{ℕ, ◌≤◌, ◌≡◌, List, length, take, Result, Ok, Err}
use Rattle.fields.specs.declared.answer.Refusal.{Refusal}
use Rattle.fields.specs.declared.spot.Spot.{Spot}
use Rattle.fields.specs.Answers.{Verdict}
use Rattle.fields.specs.Readers.{Reader}
use Rattle.fields.specs.Spots.{Taken, taking_at, took}
use Rattle.fields.specs.Reaching.{Reach, whole, stopped_by}
use Rattle.fields.specs.Written.{file_of}
use Rattle.records.specs.declared.counts.Counts.{Counts}
use Rattle.records.specs.declared.record.Among.{Among}
use Rattle.writing.specs.Written.{Written, told}

-- A spot of a list's file: the number with that place is at that byte, or the file ends there.
pub record At (numbers : List ℕ) (at : Spot) : Type 0 where
  pub there : at.place ≤ length numbers
  pub starts : at.byte ≡ length (file_of (take at.place numbers))

-- The next spot is one, too.
abbrev pub NextAt : (numbers : List ℕ) → Taken → Type 0
NextAt numbers (Ok (v, next)) = At numbers next
NextAt numbers (Err refusal) = Unit {0}

-- What the code took from the list is what is taken from its file.
pub record TookListed (numbers : List ℕ) (at : Spot) (taken : Taken) : Type 0 where
  pub is : took taken ≡ taking_at (file_of numbers) at
  pub next_at : NextAt numbers taken

-- ---- what was tested
-- One record: it was read, and the next number is at a spot; or the list is refused.
abbrev pub TestedAs : {A : Type 0} → (numbers : List ℕ) → Result (A × Spot) Refusal → Reach A → Type 0
TestedAs numbers (Ok (what, next)) outcome = At numbers next × (outcome ≡ whole what next)
TestedAs numbers (Err refusal) outcome = outcome ≡ stopped_by refusal

-- Some records, of which the code keeps nothing: they were read, whatever they were.
abbrev pub PassedAs : {A : Type 0} → (numbers : List ℕ) → Result Spot Refusal → Reach A → Type 0
PassedAs {A} numbers (Ok next) outcome = At numbers next × ((what : A) × (outcome ≡ whole what next))
PassedAs numbers (Err refusal) outcome = outcome ≡ stopped_by refusal

-- The reader of a record behind the header, by its own number.
abbrev pub by_number : {A : Type 0} → (Among → Reader A) → Counts → (own : ℕ) → Reader A
by_number reader counts own = reader (record { own = own; counts = counts })

-- The bytes of a whole list's file were counted, or the list is refused.
abbrev pub Counted : (file : List ℕ) → Written → Type 0
Counted file (Ok bytes) = bytes ≡ length file
Counted file (Err refusal) = Unit {0}

-- Both, of a list with this verdict.
pub record TestedWhole (verdict : Verdict) (numbers : List ℕ) (tested : Written) : Type 0 where
  pub says : told tested ≡ verdict
  pub counted : Counted (file_of numbers) tested
