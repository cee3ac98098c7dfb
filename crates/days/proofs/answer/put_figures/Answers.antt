-- `days::answer::put_figures` meets its contract: the sum, and then the line of the others. Assumes nothing.
use Rattle.output.proofs.Putting.{put_then}
use Rattle.days.proofs.answer.put_figures.Goals as goal

pub returns : goal.returns
returns g c = put_then c.put_number.ensures c.put_line.ensures
