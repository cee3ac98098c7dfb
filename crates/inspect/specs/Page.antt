-- The lines of the inspector's page (rules 11.6 and 11.7).
use Rattle.std.specs.Prelude.{ℕ, ◌+◌, ◌*◌, Bool, false, cond, List, [], ◌∷◌, ◌++◌, eqb, length}
use Rattle.number.specs.Groups.{most_groups}
use Rattle.number.specs.Reading.{Found, ends, read_at, bytes_at}
use Rattle.number.specs.Reading.Found.{number as value_found, fault as fault_found}
use Rattle.number.specs.Finding.{refusal_of}
use Rattle.fields.specs.Answers.{Verdict, accepts, refuses}
use Rattle.fields.specs.Files.{read_verdict}
use Rattle.records.specs.Periods.{period_file}
use Rattle.inspector.specs.declared.field.Field.{Field}
use Rattle.names.specs.FieldWords.{field_text, most_field_words}
use Rattle.output.specs.Words.{ascii}
use Rattle.output.specs.Decimal.{decimal}
use Rattle.output.specs.Hexadecimal.{bytes_text, most_byte_text}
use Rattle.output.specs.Lines.{most_spaced, spaced, text_line, refusal_text}
use Rattle.inspect.specs.declared.ending.Stop.{Stop}
use Rattle.inspect.specs.declared.ending.Stop.TheVariants.{Fault, End, Cut}

-- ---- the mark
-- Whether the number at a byte is the one at which a file is refused: the offset of the refusal is its byte (rule 11.7).
abbrev pub marked : Verdict → (byte : ℕ) → Bool
marked accepts byte = false
marked (refuses notice) byte = eqb notice.offset byte

-- The end of a number's line, with the mark if it is that one (rule 11.7).
abbrev pub line_close : Bool → List ℕ
line_close is_marked = cond is_marked (ascii " <--\n") (ascii "\n")

-- ---- lines
-- The line of a number: its place, its byte, its value and its field, and the mark if it has it (rules 11.6 and 11.7).
abbrev pub number_line : (place byte value : ℕ) → Field → (is_marked : Bool) → List ℕ
number_line place byte value field is_marked = decimal place ++ spaced byte ++ spaced value ++ field_text field ++ line_close is_marked

-- The line of a number that has a fault, and so no value, up to its end: its bytes that are there are shown instead (rules 11.6 and 11.7).
abbrev pub faulty_line : (file : List ℕ) (place byte : ℕ) → Field → List ℕ
faulty_line file place byte field =
    decimal place ++ spaced byte ++ ascii " -" ++ field_text field ++ ascii ":" ++ bytes_text (bytes_at file byte)

-- The line of a refused file (rule 11.2); nothing if it is accepted.
abbrev pub verdict_text : Verdict → List ℕ
verdict_text accepts = []
verdict_text (refuses notice) = refusal_text notice

-- ---- how a page ends
-- The stop by what is found there. If the bytes end, the file is cut there, or all of it is walked, or it ends inside a number.
abbrev pub stop_of : Found → (cut walked : Bool) → Stop
stop_of (value_found value next) cut walked = Fault
stop_of (fault_found refusal) cut walked = cond (eqb refusal ends) (cond cut Cut (cond walked End Fault)) Fault

-- The line of the number where the walk stopped, if it has a fault, up to its end, and below its end.
abbrev pub stopped_at : Stop → (file : List ℕ) (place byte : ℕ) → Field → List ℕ
stopped_at Fault file place byte field = faulty_line file place byte field
stopped_at End file place byte field = []
stopped_at Cut file place byte field = []

abbrev pub closed_at : Stop → (is_marked : Bool) → List ℕ
closed_at Fault is_marked = line_close is_marked
closed_at End is_marked = []
closed_at Cut is_marked = []

-- The last line: F with the fault and its place, or E or C with the counts of numbers and bytes before the stop (rule 11.6).
abbrev pub stop_line : Stop → (fault place byte : ℕ) → List ℕ
stop_line Fault fault place byte = text_line (ascii "F") (fault ∷ place ∷ [])
stop_line End fault place byte = text_line (ascii "E") (place ∷ byte ∷ [])
stop_line Cut fault place byte = text_line (ascii "C") (place ∷ byte ∷ [])

-- The end of a page whose walk stopped at a place, a byte and a field (rules 11.6 and 11.7). Refusals from 10 on are not looked for.
unfoldable pub page_end : (file : List ℕ) (cut : Bool) (place byte : ℕ) → Field → List ℕ
page_end file cut place byte field =
    let stop = stop_of (read_at file byte) cut (eqb byte (length file)) in
    let verdict = read_verdict (period_file file) in
    stopped_at stop file place byte field
    ++ closed_at stop (marked verdict byte)
    ++ verdict_text verdict
    ++ stop_line stop (refusal_of (read_at file byte)) place byte

-- ---- how long a page's text is at most
-- How many numbers the longest text has, that of a fault: record, place and byte in its line, three in the R line and two in the F line.
abbrev pub fault_numbers : ℕ
fault_numbers = 8

-- The bytes of the letters and ends of these two lines, of the sign for a value that is not there, and of the sign before its bytes.
abbrev pub fault_signs : ℕ
fault_signs = 7

-- The bytes of the mark and of the end of its line.
abbrev pub mark : ℕ
mark = 5

-- The most bytes of a line of the page, and of the lines at its end together.
abbrev pub most_page_text : ℕ
most_page_text = most_field_words + most_spaced * fault_numbers + fault_signs + most_byte_text * most_groups + mark
