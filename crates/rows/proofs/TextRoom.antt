-- The text of every answer has room.
use Prim.Native.Nat.{ℕ, ◌*◌, ◌≤◌}
use Prim.Native.Char.{code}
use mathlib.Core.Path.{◌≡◌, refl}
use mathlib.Core.List.{List, [], ◌∷◌}
use native.Mathlib.Nat.{le_trans}
use native.Mathlib.Omega.{arith}
use lib.ListN.{length, length-append}
use Rattle.records.specs.Plants.{most_plants}
use Rattle.records.specs.Segments.{most_segments}
use Rattle.accounts.specs.Order.{Ruling, refusal, accepted, plant_row_numbers, segment_row_numbers}
use Rattle.accounts.specs.Accepted.{Accepted}
use Rattle.accounts.proofs.Room.{accepted_room}
use Rattle.output.specs.Words.{ascii}
use Rattle.output.specs.Lines.{table_text}
use Rattle.output.specs.Put.{Put, Holds}
use Rattle.output.proofs.Putting.{put_within, put_whole}
use Rattle.output.proofs.Room.{line_long, table_long}
use Rattle.rows.specs.Printed.{ruling_text, ruling_on_file, printed_rows, most_rows_text}

pub text_room : (file : List ℕ) → length (printed_rows file) ≤ most_rows_text
unfolding printed_rows
text_room file = by_ruling (ruling_on_file file) refl
  where
    by_ruling : (ruling : Ruling) → ruling_on_file file ≡ ruling → length (ruling_text ruling) ≤ most_rows_text
    by_ruling (refusal notice) e = omega (arith, line_long (ascii "R") (notice.number ∷ notice.place ∷ notice.offset ∷ []))
    by_ruling (accepted plants segments) e =
        let given : Accepted file plants segments = record { plant_table = plant_row_numbers * most_plants; segment_table = segment_row_numbers * most_segments; answer = e } in
        let room = accepted_room given in
        let plant_rows_lem = table_long (code "P") plant_row_numbers plants most_plants (omega arith) room.0 in
        let segment_rows_lem = table_long (code "S") segment_row_numbers segments most_segments (omega arith) room.1 in
        rw (length-append (table_text (ascii "P") plant_row_numbers plants) (table_text (ascii "S") segment_row_numbers segments)) (omega (arith, plant_rows_lem, segment_rows_lem))

-- so a room holds a file's text that is put at its start
pub held :
    (file : List ℕ) {room : List ℕ} {end : ℕ} {room' : List ℕ} → Put (printed_rows file) 0 room end room' → most_rows_text ≤ length room → Holds (printed_rows file) end room'
held file put enough =
    let fits = le_trans (text_room file) enough in
    record { within = put_within put fits; stands = put_whole put fits }
