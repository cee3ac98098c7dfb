-- `typed::reading::no_stray` meets its contract: its loop goes byte by byte, up to the first stray one. Assumes nothing.
use Rattle.typed.specs.Inside.{state_of}
use Rattle.typed.proofs.UpToStray.{NoneStray}
use Rattle.typed.proofs.reading.no_stray.Given as goal

abbrev pub invariant-loop-offset : goal.invariant-loop-offset
invariant-loop-offset l = NoneStray l.text (state_of l.scan) l.offset
