-- What is printed for a typed text, of which a meter's sheet is to be written (rule 16.5).
use Rattle.std.specs.Prelude.{ℕ, List}
use Rattle.meter.specs.Sheets.{sheet}
use Rattle.typing.specs.Printed.{printed_for}

-- The sheet of the text's numbers, or the line that says why there is none (rule 16.5).
unfoldable pub printed_write_days : (text : List ℕ) → List ℕ
printed_write_days text = printed_for sheet text
