-- Spots of a file: the byte where a number starts and its place, as one value; and what is taken at one.
use Rattle.std.specs.Prelude.{◌≡◌, ℕ, ◌+◌, ◌%◌, ◌^◌, cond, List, length, nat_lt, Result, Ok, Err}
use Rattle.number.specs.Reading.{Found, read_at, offset_at}
use Rattle.number.specs.Reading.Found.{number, fault}
use Rattle.fields.specs.declared.answer.Refusal.{Refusal}
use Rattle.fields.specs.declared.reason.Reason.{Reason}
use Rattle.fields.specs.declared.reason.Reason.TheVariants.{BytesAfter}
use Rattle.fields.specs.declared.spot.Spot.{Spot}
use Rattle.fields.specs.Reasons.{number_of}
use Rattle.fields.specs.Answers.{Answer, Notice, notice, notice_of, Verdict, accepts, refuses, said}

-- The spot of the first number (rule 2.1).
abbrev pub first_spot : Spot
first_spot = record { byte = 0; place = 0 }

-- The refusal of the number at a spot, with its place and its first byte (rules 8.2 and 8.9).
abbrev pub refusal_at : Spot → Reason → Refusal
refusal_at at reason = record { reason = reason; place = at.place; offset = at.byte }

-- The place after another, as a machine of 64 bits counts; no file reaches the last.
abbrev pub place_after : ℕ → ℕ
place_after place = (place + 1) % 2 ^ 64

-- What is taken at a spot: a value, with the spot of the next number; or a refusal, with its notice.
pub data Take : Type 0 where
  value : (value : ℕ) (next : Spot) → Take
  refusal : Notice → Take

-- It is what number reading finds there, with this offset; the next number starts behind this one, and has the next place.
abbrev pub taking : Spot → (offset : ℕ) → Found → Take
taking at offset (number v next) = value v (record { byte = next; place = place_after at.place })
taking at offset (fault k) = refusal (notice k at.place offset)

-- What is taken at a spot of a file (rules 2.1, 8.2, 8.3 and 8.9).
abbrev pub taking_at : List ℕ → Spot → Take
taking_at file at = taking at (offset_at file at.byte) (read_at file at.byte)

-- What the code takes: a value, with the spot of the next number; or a refusal.
abbrev pub Taken : Type 0
Taken = Result (ℕ × Spot) Refusal

-- What the code says that it took.
abbrev pub took : Taken → Take
took (Ok (v, next)) = value v next
took (Err r) = refusal (notice_of r)

-- Behind the last number: bytes that follow are refused, with the count of numbers as place and the first of them as offset (rules 8.4 and 8.9).
abbrev pub end_at : List ℕ → Spot → Verdict
end_at file at = cond (nat_lt at.byte (length file)) (refuses (notice (number_of BytesAfter) at.place at.byte)) accepts

-- ---- what the public functions promise
-- `Spot::first`: the spot of the first number (rule 2.1).
abbrev pub SpotFirstPromise : Spot → Type 0
SpotFirstPromise r = r ≡ first_spot

-- `Spot::refusal`: for that reason, at the spot's place and byte (rules 8.2 and 8.9).
abbrev pub SpotRefusalPromise : Spot → Reason → Refusal → Type 0
SpotRefusalPromise at reason r = r ≡ refusal_at at reason

-- `take`: what is taken at the spot (rules 2.1, 8.2, 8.3 and 8.9).
abbrev pub TakePromise : (file : List ℕ) → Spot → Taken → Type 0
TakePromise file at r = took r ≡ taking_at file at

-- `nothing_after`: accepted if the file ends there, else refusal 9 (rules 8.4 and 8.9).
abbrev pub NothingAfterPromise : (file : List ℕ) → Spot → Answer → Type 0
NothingAfterPromise file at r = said r ≡ end_at file at
