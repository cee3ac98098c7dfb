-- What a reader gives from a spot on, by what is taken at each spot: of a file, or of what stands for one.
use Rattle.std.specs.Prelude.{ℕ, cond, List}
use Rattle.fields.specs.declared.answer.Refusal.{Refusal}
use Rattle.fields.specs.declared.spot.Spot.{Spot}
use Rattle.fields.specs.Reasons.{number_of}
use Rattle.fields.specs.Answers.{Notice, notice, notice_of}
use Rattle.fields.specs.Readers.{Reader, return, needs, Read, read, refused}
use Rattle.fields.specs.Spots.{Take, taking_at}
use Rattle.fields.specs.Spots.Take.{value, refusal as no_value}

-- What was read, with the spot of the next number; or a refusal, with its notice.
pub data Reach (A : Type 0) : Type 0 where
  whole : (what : A) (next : Spot) → Reach A
  stopped : Notice → Reach A

-- What comes behind what was taken: with a value reading goes on, a fault stops it.
abbrev pub going_on : {A : Type 0} → Take → (ℕ → Spot → Reach A) → Reach A
going_on (value v next) then = then v next
going_on (no_value notice) then = stopped notice

-- A reader from a spot on: a number's fault, then its field, then the next (rules 8.2, 8.3 and 8.9).
unfoldable pub reads_by : {A : Type 0} → Reader A → (taken : Spot → Take) → Spot → Reach A
reads_by (return what) taken at = whole what at
reads_by (needs reason allowed then) taken at =
    going_on (taken at) (λ (v : ℕ) (next : Spot).
    cond (allowed v) (reads_by (then v) taken next) (stopped (notice (number_of reason) at.place at.byte)))

-- A reader put to a file from a spot on. Places wrap at 64 bits.
abbrev pub reads_from : {A : Type 0} → Reader A → List ℕ → Spot → Reach A
reads_from reader file = reads_by reader (taking_at file)

-- A refusal of the code, in these terms.
abbrev pub stopped_by : {A : Type 0} → Refusal → Reach A
stopped_by refusal = stopped (notice_of refusal)

-- ---- the same as a reading by place and byte
-- What was read up to a spot.
abbrev pub read_to : {A : Type 0} → A → Spot → Read A
read_to what next = read what next.place next.byte

-- A refusal.
abbrev pub refused_by : {A : Type 0} → Refusal → Read A
refused_by refusal = refused (notice_of refusal)

-- Either of them.
abbrev pub as_read : {A : Type 0} → Reach A → Read A
as_read (whole what next) = read_to what next
as_read (stopped notice) = refused notice
