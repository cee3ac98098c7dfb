-- The text of every answer has room.
use Prim.Native.Nat.{ℕ, ◌≤◌}
use mathlib.Core.List.{List, [], ◌∷◌}
use native.Mathlib.Nat.{le_trans}
use native.Mathlib.Omega.{arith}
use lib.ListN.{length, length-append}
use Rattle.meter.specs.Days.{SheetAnswer, figures, refusal, meter_days}
use Rattle.output.specs.Words.{ascii}
use Rattle.output.specs.Decimal.{decimal}
use Rattle.output.specs.Lines.{text_line}
use Rattle.output.specs.Put.{Put, Holds}
use Rattle.output.proofs.Putting.{put_within, put_whole}
use Rattle.output.proofs.Decimals.{decimal_long}
use Rattle.output.proofs.Room.{line_long}
use Rattle.days.specs.Printed.{answer_text, printed_days, most_days_text}

answer_room : (answer : SheetAnswer) → length (answer_text answer) ≤ most_days_text
answer_room (figures found) =
    let days = found.repeated ∷ found.repeated_zero ∷ found.longest ∷ found.first ∷ [] in
    rw (length-append (decimal found.sum) (text_line [] days)) (omega (arith, decimal_long found.sum, line_long [] days))
answer_room (refusal notice) = omega (arith, line_long (ascii "R") (notice.number ∷ notice.place ∷ notice.offset ∷ []))

text_room : (sheet : List ℕ) → length (printed_days sheet) ≤ most_days_text
unfolding printed_days
text_room sheet = answer_room (meter_days sheet)

-- so a room holds a sheet's text that is put at its start
pub held :
    (sheet : List ℕ) {room : List ℕ} {end : ℕ} {room' : List ℕ} → Put (printed_days sheet) 0 room end room' → most_days_text ≤ length room → Holds (printed_days sheet) end room'
held sheet put enough =
    let fits = le_trans (text_room sheet) enough in
    record { within = put_within put fits; stands = put_whole put fits }
