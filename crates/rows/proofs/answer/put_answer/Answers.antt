-- `rows::answer::put_answer` meets its contract: the refusal's line, or the rows that the call left in its tables. Assumes nothing.
use Rattle.output.proofs.Putting.{put_then}
use Rattle.rows.specs.Printed.{printed_rows}
use Rattle.rows.proofs.AnswerText.{told_refused, told_accepted}
use Rattle.rows.proofs.answer.put_answer.Goals as goal

pub returns-in-Ok : goal.returns-in-Ok
unfolding printed_rows
returns-in-Ok g c = rw (told_accepted c.in-Ok.ensures) (put_then c.put_rows.ensures c.put_rows-in-Ok.ensures)

pub returns-in-Err : goal.returns-in-Err
unfolding printed_rows
returns-in-Err g c = rw (told_refused c.in-Err.refusal c.in-Err.ensures) c.put_refusal.ensures
