-- The offset of a refusal, by its number and place alone (rule 8.9).
use Rattle.std.specs.Prelude.{ℕ, ◌-◌, cond, List, leb, eqb, length}
use Rattle.number.specs.Counting.{start_of}
use Rattle.fields.specs.declared.reason.Reason.TheVariants.{BytesAfter, TooManyGrams}
use Rattle.fields.specs.Reasons.{number_of}
use Rattle.records.specs.Places.{line_start}
use Rattle.records.specs.Within.{counts_of}
use Rattle.accounts.specs.Accepted.{held}

-- Up to 9 it is where the number with that place starts; of 10 the first byte of the line; of all others the length of the file (rule 8.9).
abbrev pub offset_due : List ℕ → (number place : ℕ) → ℕ
offset_due file number place =
    cond (leb number (number_of BytesAfter)) (start_of file place)
    (cond (eqb number (number_of TooManyGrams)) (line_start file (counts_of (held file)) (place - 1)) (length file))
