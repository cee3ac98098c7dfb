-- `inspect::ending::put_ending` meets its contract: where the walk stopped, what reading refuses, and the stop. Assumes nothing.
use mathlib.Core.Path.{ap}
use Rattle.inspector.specs.Reader.{Stepped}
use Rattle.output.proofs.Putting.{put_then}
use Rattle.inspect.proofs.PageEnd.{page_end_lem}
use Rattle.inspect.proofs.ending.put_ending.Goals as goal

pub returns : goal.returns
returns g c =
    let a = c.args in
    let step = c.step_at in
    let answer = c.verdict-answer in
    let text =
    page_end_lem
    a.file.now
    a.cut
    a.spot.place
    a.spot.byte
    a.field
    step.result.report.number
    answer.result
    (ap (λ (s : Stepped). s.found) step.ensures)
    answer.ensures
    c.stop_of-stop.ensures
    c.refusal.ensures in
    let closed = rw c.is_marked.ensures at c.put_close_at.ensures in
    let line = put_then c.put_stopped_at.ensures closed in
    rw text (put_then (put_then line c.put_verdict.ensures) c.put_stop.ensures)
