-- `typed::reading::no_stray` meets its contract: its loop goes byte by byte, up to the first stray one. Assumes nothing.
use Rattle.std.proofs.Common.{refl, sym, ◌∙◌}
use Rattle.typed.proofs.UpToStray.{stray_here, stray_later}
use Rattle.typed.proofs.reading.no_stray.Goals as goal

pub returns-then-is_stray : goal.returns-then-is_stray
returns-then-is_stray c =
    rw (stray_here c.loop-offset.invariant c.loop-offset-test.true (sym c.is_stray.ensures ∙ c.if-is_stray.true)) (c.loop-offset-test.true, refl)

pub loop-offset-preserved : goal.loop-offset-preserved
loop-offset-preserved c =
    rw c.behind-scan.ensures
    (stray_later c.loop-offset.invariant c.loop-offset-test.true (sym c.is_stray.ensures ∙ c.if-is_stray.false))
