-- What is printed at a time has room.
use Prim.Native.Nat.{ℕ, ◌+◌, ◌*◌, ◌≤◌}
use mathlib.Core.Bool.{Bool, true, false}
use mathlib.Core.List.{List, [], ◌∷◌}
use native.Mathlib.Omega.{arith}
use lib.Dec.{eqb}
use lib.ListN.{length, drop, length-append}
use Rattle.number.specs.Groups.{most_groups}
use Rattle.number.specs.Reading.{read_at, bytes_at}
use Rattle.number.proofs.OwnBytes.{own_most}
use Rattle.number.specs.Finding.{refusal_of}
use Rattle.fields.specs.Answers.{Verdict, accepts, refuses}
use Rattle.fields.specs.Files.{read_verdict}
use Rattle.records.specs.Periods.{period_file}
use Rattle.inspector.specs.declared.field.Field.{Field}
use Rattle.names.proofs.FieldNames.{most_field_text, field_long}
use Rattle.output.specs.Words.{ascii}
use Rattle.output.specs.Lines.{most_spaced}
use Rattle.output.specs.Hexadecimal.{bytes_text, most_byte_text}
use Rattle.output.proofs.Decimals.{decimal_long}
use Rattle.output.proofs.Room.{spaced_long, bytes_long, line_long}
use Rattle.inspect.specs.declared.ending.Stop.{Stop}
use Rattle.inspect.specs.declared.ending.Stop.TheVariants.{Fault, End, Cut}
use Rattle.inspect.specs.Page.{marked, line_close, number_line, verdict_text, stop_of, stopped_at, closed_at, stop_line, page_end, mark, most_page_text}

close_long : (is_marked : Bool) → length (line_close is_marked) ≤ mark
close_long true = omega arith
close_long false = omega arith

pub number_room : (place byte value : ℕ) (field : Field) (is_marked : Bool) → length (number_line place byte value field is_marked) ≤ most_page_text
number_room place byte value field is_marked =
    simp length-append (omega (arith, decimal_long place, spaced_long byte, spaced_long value, field_long field, close_long is_marked))

verdict_long : (verdict : Verdict) → length (verdict_text verdict) ≤ 2 + 3 * most_spaced
verdict_long accepts = omega arith
verdict_long (refuses notice) = omega (arith, line_long (ascii "R") (notice.number ∷ notice.place ∷ notice.offset ∷ []))

-- a faulty number has no more bytes than a number may have groups
own_long : (file : List ℕ) (byte : ℕ) → length (bytes_text (bytes_at file byte)) ≤ most_byte_text * most_groups
own_long file byte = omega (arith, bytes_long (bytes_at file byte), (own_most most_groups (drop byte file)).0)

stopped_long :
    (stop : Stop) (file : List ℕ) (place byte : ℕ) (field : Field) →
    length (stopped_at stop file place byte field) ≤ most_field_text + 2 * most_spaced + 3 + most_byte_text * most_groups
stopped_long Fault file place byte field =
    simp length-append (omega (arith, decimal_long place, spaced_long byte, field_long field, own_long file byte))
stopped_long End file place byte field = omega arith
stopped_long Cut file place byte field = omega arith

closed_long : (stop : Stop) (is_marked : Bool) → length (closed_at stop is_marked) ≤ mark
closed_long Fault is_marked = close_long is_marked
closed_long End is_marked = omega arith
closed_long Cut is_marked = omega arith

stop_long : (stop : Stop) (fault place byte : ℕ) → length (stop_line stop fault place byte) ≤ 2 + 2 * most_spaced
stop_long Fault fault place byte = omega (arith, line_long (ascii "F") (fault ∷ place ∷ []))
stop_long End fault place byte = omega (arith, line_long (ascii "E") (place ∷ byte ∷ []))
stop_long Cut fault place byte = omega (arith, line_long (ascii "C") (place ∷ byte ∷ []))

pub end_room : (file : List ℕ) (cut : Bool) (place byte : ℕ) (field : Field) → length (page_end file cut place byte field) ≤ most_page_text
unfolding page_end
end_room file cut place byte field =
    let stop = stop_of (read_at file byte) cut (eqb byte (length file)) in
    let verdict = read_verdict (period_file file) in
    simp
    length-append
    (omega (
      arith,
      stopped_long stop file place byte field,
      closed_long stop (marked verdict byte),
      verdict_long verdict,
      stop_long stop (refusal_of (read_at file byte)) place byte,
    ))
