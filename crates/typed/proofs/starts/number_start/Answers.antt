-- `typed::starts::number_start` meets its contract: its loop goes byte by byte, and counts the numbers that start before. Assumes nothing.
use Rattle.std.proofs.Common.{sym, ◌∙◌, arith}
use Rattle.typed.proofs.UpToStart.{starts_here, starts_later, starts_none, starts_nowhere}
use Rattle.typed.proofs.starts.number_start.Goals as goal
use Rattle.typed.proofs.starts.number_start.Goals.{then-starts+else-before-eq0, else-starts}

pub returns-then-before-eq0 : goal.returns-then-before-eq0
returns-then-before-eq0 c =
    sym (starts_here c.loop-offset.invariant c.loop-offset-test.true (sym c.starts.ensures ∙ c.if-starts.true) c.if-before-eq0.true)

pub loop-offset-preserved : goal.loop-offset-preserved
loop-offset-preserved c =
    let starts = sym c.starts.ensures in
    rw c.behind-scan.ensures
    (elim c.if-starts.branch [
      | then-starts+else-before-eq0 w ↦ rw w.before-is (starts_later c.loop-offset.invariant c.loop-offset-test.true (starts ∙ w.if-starts.true) _ (omega (arith, w.if-before-eq0.false)))
      | else-starts w ↦ rw w.before-is (starts_none c.loop-offset.invariant c.loop-offset-test.true (starts ∙ w.if-starts.false))
    ])

pub returns : goal.returns
returns c = sym (starts_nowhere c.loop-offset.invariant c.loop-offset-test.false)
