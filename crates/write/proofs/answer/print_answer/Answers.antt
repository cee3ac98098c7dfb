-- `write::answer::print_answer` meets its contract: what it prints is what was put, and there is room for it. Assumes nothing.
use Rattle.std.proofs.Common.{arith, sym, length-take-le}
use Rattle.records.specs.Periods.{period}
use Rattle.output.proofs.Putting.{held_handed}
use Rattle.typing.proofs.TextHeld.{answer_held}
use Rattle.write.specs.Printed.{printed_write}
use Rattle.write.proofs.FileFits.{period_fits}
use Rattle.write.proofs.answer.print_answer.Goals as goal

pub slice_bounds-print-end : goal.slice_bounds-print-end
slice_bounds-print-end c =
    let text = c.args.text.now in
    let held = answer_held period text c.args.answer.now.room (period_fits text _ (omega arith)) (omega arith) _ _ (rw c.requires at c.put_answer.ensures) in
    omega (arith, held.within)

pub slice_bounds-print-end-2 : goal.slice_bounds-print-end-2
slice_bounds-print-end-2 c =
    let text = c.args.text.now in
    let held = answer_held period text c.args.answer.now.room (period_fits text _ (omega arith)) (omega arith) _ _ (rw c.requires at c.put_answer.ensures) in
    sym (length-take-le _ _ (omega (arith, held.within)))

pub returns : goal.returns
unfolding printed_write
returns c =
    let text = c.args.text.now in
    let held = answer_held period text c.args.answer.now.room (period_fits text _ (omega arith)) (omega arith) _ _ (rw c.requires at c.put_answer.ensures) in
    held_handed held c.print.ensures (omega arith)
