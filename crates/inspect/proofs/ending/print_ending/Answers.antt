-- `inspect::ending::print_ending` is safe and ends: there is room for the text. Assumes nothing.
use Prim.Native.Nat.{ℕ, ◌+◌, ◌≤◌}
use mathlib.Core.Bool.{Bool}
use mathlib.Core.List.{List}
use native.Mathlib.Omega.{arith}
use lib.ListN.{length}
use Rattle.inspector.specs.declared.field.Field.{Field}
use Rattle.output.specs.Put.{Put}
use Rattle.output.proofs.Putting.{put_length, is_whole}
use Rattle.output.proofs.Room.{put_near}
use Rattle.inspect.specs.Page.{page_end, most_page_text}
use Rattle.inspect.proofs.TextRoom.{end_room}
use Rattle.inspect.proofs.ending.print_ending.Goals as goal

-- the text ends within the room
within :
    (file : List ℕ) (cut : Bool) (place byte : ℕ) (field : Field) {at : ℕ} {room : List ℕ} {end : ℕ} {room' : List ℕ} →
    Put (page_end file cut place byte field) at room end room' → at + most_page_text ≤ length room → end ≤ length room'
within file cut place byte field put fits =
    omega (arith, put_near {text = page_end file cut place byte field} most_page_text put (end_room file cut place byte field), put_length put, fits)

pub unwrap-requires : goal.unwrap-requires
unwrap-requires g c =
    let a = c.args in is_whole _ _ _ c.whole.ensures (within a.file.now a.cut a.spot.place a.spot.byte a.field c.put_ending.ensures c.requires)
