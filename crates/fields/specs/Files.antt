-- A whole file: what a reader makes of it, with the test of its end.
use Rattle.std.specs.Prelude.{ℕ, cond, List, length, nat_lt}
use Rattle.fields.specs.declared.reason.Reason.TheVariants.{BytesAfter}
use Rattle.fields.specs.Reasons.{number_of}
use Rattle.fields.specs.Answers.{notice, Verdict, accepts, refuses}
use Rattle.fields.specs.Readers.{Reader, Read, read, refused, reads}

-- The end: bytes behind the last number are refusal 9, with the count of numbers as its place; its offset is the first of them (rules 8.4 and 8.9).
abbrev pub ended : {A : Type 0} → List ℕ → Read A → Read A
ended file (read what place at) = cond (nat_lt at (length file)) (refused (notice (number_of BytesAfter) place at)) (read what place at)
ended file (refused notice) = refused notice

-- The whole file, read from its first number to its end (rule 2.1).
abbrev pub file_read : {A : Type 0} → Reader A → List ℕ → Read A
file_read reader file = ended file (reads reader file 0 0)

-- Accepted if it is read to its end, else refused.
abbrev pub read_verdict : {A : Type 0} → Read A → Verdict
read_verdict (read what place at) = accepts
read_verdict (refused notice) = refuses notice
