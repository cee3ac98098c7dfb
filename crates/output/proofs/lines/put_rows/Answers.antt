-- `output::lines::put_rows` meets its contract: each turn puts one row more. Assumes nothing.
use Rattle.std.proofs.Common.{◌∙◌}
use Rattle.output.proofs.Putting.{put_nothing, put_then}
use Rattle.output.proofs.LineByLine.{rows_none, no_rows, row_more, rows_all}
use Rattle.output.proofs.lines.put_rows.Goals as goal

pub loop-index-init : goal.loop-index-init
loop-index-init c = ((cc), rows_none _ _ _ (cc) (cc) (put_nothing c.start-end.ensures))

pub loop-index-preserved : goal.loop-index-preserved
loop-index-preserved c =
    let left = c.loop-index in
    let step = c.in-Some.ensures.steps in
    let row = rw step.1 at c.put_row-end.ensures in
    (step.0.0 ∙ left.invariant.0, rw step.2 (row_more left.invariant.1 _ _ step.0.1.0 (step.0.1.1 ∙ left.invariant.0) row))

pub returns-in-None : goal.returns-in-None
returns-in-None c =
    let left = c.loop-index in
    put_then c.start-end.ensures (rows_all left.invariant.1 c.if-width-gt0.true (rw left.invariant.0 at c.in-None.ensures.steps.0.1.0))

pub returns-else-width-gt0 : goal.returns-else-width-gt0
returns-else-width-gt0 c = put_then c.start-end.ensures (no_rows _ _ _ c.if-width-gt0.false (put_nothing c.start-end.ensures))
