-- What is printed for a typed text, of which a period file is to be written (rule 16.5).
use Rattle.std.specs.Prelude.{ℕ, List}
use Rattle.records.specs.Periods.{period}
use Rattle.typing.specs.Printed.{printed_for}

-- The period file of the text's numbers, or the line that says why there is none (rule 16.5).
unfoldable pub printed_write : (text : List ℕ) → List ℕ
printed_write text = printed_for period text
