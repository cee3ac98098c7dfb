-- `write_days::answer::print_answer` meets its contract: what it prints is what was put, and there is room for it. Assumes nothing.
use Rattle.std.proofs.Common.{arith, sym, length-take-le}
use Rattle.meter.specs.Sheets.{sheet}
use Rattle.output.proofs.Putting.{held_handed}
use Rattle.typing.proofs.TextHeld.{answer_held}
use Rattle.write_days.specs.Printed.{printed_write_days}
use Rattle.write_days.proofs.FileFits.{sheet_fits}
use Rattle.write_days.proofs.answer.print_answer.Goals as goal

pub slice_bounds-print-end : goal.slice_bounds-print-end
slice_bounds-print-end c =
    let text = c.args.text.now in
    let held = answer_held sheet text c.args.answer.now.room (sheet_fits text _ (omega arith)) (omega arith) _ _ (rw c.requires at c.put_answer.ensures) in
    omega (arith, held.within)

pub slice_bounds-print-end-2 : goal.slice_bounds-print-end-2
slice_bounds-print-end-2 c =
    let text = c.args.text.now in
    let held = answer_held sheet text c.args.answer.now.room (sheet_fits text _ (omega arith)) (omega arith) _ _ (rw c.requires at c.put_answer.ensures) in
    sym (length-take-le _ _ (omega (arith, held.within)))

pub returns : goal.returns
unfolding printed_write_days
returns c =
    let text = c.args.text.now in
    let held = answer_held sheet text c.args.answer.now.room (sheet_fits text _ (omega arith)) (omega arith) _ _ (rw c.requires at c.put_answer.ensures) in
    held_handed held c.print.ensures (omega arith)
