-- `typing::answer::put_answer` meets its contract: the line of a fault, or what comes of the text's numbers. Assumes nothing.
use Rattle.std.proofs.Common.{◌*◌, take, arith, sym, length-take-le}
use Rattle.typing.proofs.Rooms.{list_room_long, counted_few, counted_within, counted_back}
use Rattle.typing.proofs.TextHeld.{as_listed}
use Rattle.typing.proofs.answer.put_answer.Goals as goal

pub overflow_mul-bytes : goal.overflow_mul-bytes
overflow_mul-bytes g c = omega (arith, counted_few (list_room_long c.list_room-list.ensures) c.in-Ok.ensures)

pub slice_bounds-list-end : goal.slice_bounds-list-end
slice_bounds-list-end g c = counted_within (list_room_long c.list_room-list.ensures) c.in-Ok.ensures

pub slice_bounds-write-end : goal.slice_bounds-write-end
slice_bounds-write-end g c = sym (length-take-le _ _ (counted_within (list_room_long c.list_room-list.ensures) c.in-Ok.ensures))

pub returns-in-Err : goal.returns-in-Err
returns-in-Err g c = as_listed _ _ _ _ _ _ c.in-Err.ensures.answer c.put_fault_at-answer.ensures

pub returns-in-Ok : goal.returns-in-Ok
returns-in-Ok g c =
    let back = counted_back (list_room_long c.list_room-list.ensures) c.in-Ok.ensures in
    as_listed _ _ _ _ _ _ c.in-Ok.ensures.answer
    (record { written = c.write-written.result; between = c.write-written.new.buffer; stands = rw back at c.write-written.ensures; put = c.put_written_at-answer.ensures })
