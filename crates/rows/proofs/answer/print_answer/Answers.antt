-- `rows::answer::print_answer` meets its contract: the room holds all of the text. Assumes nothing.
use Rattle.std.proofs.Common.{arith, sym}
use Rattle.std.proofs.lemmas.List.{length-take-le}
use Rattle.output.proofs.Putting.{held_handed}
use Rattle.rows.proofs.TextRoom.{held}
use Rattle.rows.proofs.answer.print_answer.Goals as goal

pub slice_bounds-print-end-2 : goal.slice_bounds-print-end-2
slice_bounds-print-end-2 g c =
    let text = held c.args.file.now (rw c.requires.empty at c.put_answer.ensures) c.requires.room in
    sym (length-take-le _ _ (omega (arith, text.within)))

pub returns : goal.returns
returns g c =
    let text = held c.args.file.now (rw c.requires.empty at c.put_answer.ensures) c.requires.room in
    held_handed text c.print.ensures (omega arith)
