-- What an answer of the code says: accepted, or the number, place and offset of a refusal.
use Rattle.std.specs.Prelude.{◌≡◌, ℕ, Result, Ok, Err}
use Rattle.fields.specs.declared.answer.Refusal.{Refusal}
use Rattle.fields.specs.declared.reason.Reason.{Reason}
use Rattle.fields.specs.Reasons.{number_of}

-- What a refusal tells: the number of its reason, its place, and its offset, the byte of the file where to look (rules 8.1, 8.2 and 8.9).
pub record Notice : Type 0 where
  pub number : ℕ
  pub place : ℕ
  pub offset : ℕ

abbrev pub notice : (number place offset : ℕ) → Notice
notice number place offset = record { number = number; place = place; offset = offset }

-- Accepted; or refused, with a notice (rule 8.1).
pub data Verdict : Type 0 where
  accepts : Verdict
  refuses : Notice → Verdict

-- An answer of the code: accepted, or a refusal.
abbrev pub Answer : Type 0
Answer = Result Unit Refusal

abbrev pub accepted : Answer
accepted = Ok tt

-- Refused for a reason, at a place and an offset.
abbrev pub refused_for : Reason → (place offset : ℕ) → Answer
refused_for reason place offset = Err (record { reason = reason; place = place; offset = offset })

-- The notice of a refusal of the code.
abbrev pub notice_of : Refusal → Notice
notice_of refusal = notice (number_of refusal.reason) refusal.place refusal.offset

-- What a refusal says.
abbrev pub refusing : Refusal → Verdict
refusing refusal = refuses (notice_of refusal)

-- What an answer says.
abbrev pub said : Answer → Verdict
said (Ok done) = accepts
said (Err refusal) = refusing refusal

-- The number of refusal, and 0 for an accepted file (rule 8.1).
abbrev pub refusal_number : Verdict → ℕ
refusal_number accepts = 0
refusal_number (refuses notice) = notice.number

-- The place of the refusal, and 0 for an accepted file (rule 8.2).
abbrev pub refusal_place : Verdict → ℕ
refusal_place accepts = 0
refusal_place (refuses notice) = notice.place

-- The offset of the refusal, and 0 for an accepted file (rule 8.9).
abbrev pub refusal_offset : Verdict → ℕ
refusal_offset accepts = 0
refusal_offset (refuses notice) = notice.offset

-- ---- what the public functions promise
-- `refused`: refused for that reason, at that place and offset (rule 8.1).
abbrev pub RefusedPromise : Reason → (place offset : ℕ) → Answer → Type 0
RefusedPromise reason place offset r = r ≡ refused_for reason place offset

-- `refusal_number`: the number of refusal, or 0 (rule 8.1).
abbrev pub AnswerRefusalPromise : Answer → ℕ → Type 0
AnswerRefusalPromise answer r = r ≡ refusal_number (said answer)

-- `refusal_place`: the place, or 0 (rule 8.2).
abbrev pub AnswerPlacePromise : Answer → ℕ → Type 0
AnswerPlacePromise answer r = r ≡ refusal_place (said answer)

-- `refusal_offset`: the offset, or 0 (rule 8.9).
abbrev pub AnswerOffsetPromise : Answer → ℕ → Type 0
AnswerOffsetPromise answer r = r ≡ refusal_offset (said answer)
