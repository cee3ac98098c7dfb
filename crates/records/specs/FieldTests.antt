-- The promises of the tests of single fields, each by its index in a record.
use Rattle.std.specs.Prelude.{ℕ, zero, suc, ◌≡◌, Bool, List, length, take}
use Rattle.fields.specs.declared.reason.Reason.{Reason}
use Rattle.fields.specs.declared.reason.Reason.TheVariants.{WrongEdition, WrongCount}
use Rattle.fields.specs.Readers.{Reader, onward, allows_next}
use Rattle.records.specs.declared.counts.Counts.{Counts}
use Rattle.records.specs.Headers.{header}
use Rattle.records.specs.Periods.{plant, segment, line}

-- ---- a field that does not depend on the numbers before it: the answer is right whatever they are
-- The answer is what the reader of the record allows there.
abbrev pub Allows : {A : Type 0} → Reader A → (field value : ℕ) → Bool → Type 0
Allows reader field value answer = (before : List ℕ) → length before ≡ field → answer ≡ allows_next (onward reader before) value

-- `Header::allows` (rule 2.3).
abbrev pub HeaderAllows : (field value : ℕ) → Bool → Type 0
HeaderAllows = Allows header

-- `Plant::allows` (rule 2.4).
abbrev pub PlantAllows : Counts → (field value : ℕ) → Bool → Type 0
PlantAllows counts = Allows (plant counts)

-- ---- a field that does: the answer for the numbers before it
-- `Segment::allows`: the same by the record's numbers so far (rules 2.5 to 2.7).
abbrev pub SegmentAllows : (counts : Counts) (own : ℕ) (earlier : List ℕ) (field value : ℕ) → Bool → Type 0
SegmentAllows counts own earlier field value answer = answer ≡ allows_next (onward (segment counts own) (take field earlier)) value

-- `Line::allows`: the same (rules 2.8 and 3.1 to 3.3).
abbrev pub LineAllows : (counts : Counts) (earlier : List ℕ) (field value : ℕ) → Bool → Type 0
LineAllows counts earlier field value answer = answer ≡ allows_next (onward (line counts) (take field earlier)) value

-- ---- the reason with which a field of the header refuses
-- 4 for the edition, 5 for a count (rule 8.1).
abbrev pub header_reason : ℕ → Reason
header_reason zero = WrongEdition
header_reason (suc field) = WrongCount

-- `Header::reason` (rule 8.1).
abbrev pub HeaderReason : (field : ℕ) → Reason → Type 0
HeaderReason field answer = answer ≡ header_reason field
