-- `plain::fill_row` meets its contract: so far n numbers of the row are written. Assumes nothing.
use Rattle.plain.proofs.NumbersInBytes.{row_start, row_on}
use Rattle.plain.proofs.fill_row.Goals as goal

pub loop-n-init : goal.loop-n-init
loop-n-init c = row_start _ _ _

pub loop-n-preserved : goal.loop-n-preserved
loop-n-preserved c = row_on c.loop-n.invariant c.requires c.loop-n-test.true _ c.set_number.auto.table c.set_number.ensures
