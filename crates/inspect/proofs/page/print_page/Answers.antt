-- `inspect::page::print_page` is safe and ends: each number that a step finds leaves fewer bytes, a place is never past its byte, and behind the
-- lines that wait there is room for the longest text. Assumes nothing.
use Prim.Native.Nat.{ℕ, ◌+◌, ◌≤◌}
use mathlib.Core.Bool.{Bool}
use mathlib.Core.List.{List}
use native.Mathlib.Omega.{arith}
use lib.ListN.{length}
use Rattle.inspector.specs.declared.field.Field.{Field}
use Rattle.inspector.proofs.Steps.{moves_on}
use Rattle.output.specs.Put.{Put}
use Rattle.output.proofs.Putting.{put_length, is_whole}
use Rattle.output.proofs.Room.{put_near}
use Rattle.inspect.specs.Page.{number_line, most_page_text}
use Rattle.inspect.proofs.TextRoom.{number_room}
use Rattle.inspect.proofs.page.print_page.Goals as goal
use Rattle.inspect.proofs.page.print_page.Goals.{then-left-lt-MOST_TEXT+else-is_none, else-left-lt-MOST_TEXT}

-- the line ends within the room
within :
    (place byte value : ℕ) (field : Field) (is_marked : Bool) {at : ℕ} {room : List ℕ} {end : ℕ} {room' : List ℕ} →
    Put (number_line place byte value field is_marked) at room end room' → at + most_page_text ≤ length room → end ≤ length room'
within place byte value field is_marked put fits =
    omega (arith, put_near most_page_text put (number_room place byte value field is_marked), put_length put, fits)

pub unwrap-requires : goal.unwrap-requires
unwrap-requires c =
    let l = c.loop-number in
    is_whole _ _ _ c.whole.ensures (within l.place l.byte c.in-Ok.number.value c.field_at-field.result c.is_marked-marked.result c.put_number_line.ensures l.invariant.2)

pub loop-number-smaller : goal.loop-number-smaller
loop-number-smaller c =
    let moved = moves_on c.args.file.now c.loop-number.byte c.in-Ok.number c.step_at-step.result c.step_at-step.ensures c.in-Ok.is in
    omega (arith, moved.later, moved.inside)

pub loop-number-preserved : goal.loop-number-preserved
loop-number-preserved c =
    let l = c.loop-number in
    let moved = moves_on c.args.file.now l.byte c.in-Ok.number c.step_at-step.result c.step_at-step.ensures c.in-Ok.is in
    let line = within l.place l.byte c.in-Ok.number.value c.field_at-field.result c.is_marked-marked.result c.put_number_line.ensures l.invariant.2 in
    let long = put_length c.put_number_line.ensures in (
      omega (arith, moved.later, moved.inside),
      omega (arith, moved.inside),
      elim c.if-left-lt-MOST_TEXT.branch [
        | then-left-lt-MOST_TEXT+else-is_none w ↦ rw w.text-is (omega (arith, long, l.invariant.2))
        | else-left-lt-MOST_TEXT w ↦ rw w.text-is (omega (arith, line, w.if-left-lt-MOST_TEXT.false, c.left.ensures))
      ],
    )
