-- `days::answer::put_answer` meets its contract: the figures that the call counted, or the line of its refusal. Assumes nothing.
use Rattle.days.specs.Printed.{printed_days}
use Rattle.days.proofs.answer.put_answer.Goals as goal

pub returns-in-Ok : goal.returns-in-Ok
unfolding printed_days
returns-in-Ok g c = rw (← c.in-Ok.ensures) c.put_figures.ensures

pub returns-in-Err : goal.returns-in-Err
unfolding printed_days
returns-in-Err g c = rw (← c.in-Err.ensures) c.put_refusal.ensures
