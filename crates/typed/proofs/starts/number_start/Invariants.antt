-- `typed::starts::number_start` meets its contract: its loop goes byte by byte, and counts the numbers that start before. Assumes nothing.
use Rattle.typed.specs.Inside.{state_of}
use Rattle.typed.proofs.UpToStart.{StartAhead}
use Rattle.typed.proofs.starts.number_start.Given as goal

abbrev pub invariant-loop-offset : goal.invariant-loop-offset
invariant-loop-offset l = StartAhead l.text l.place (state_of l.scan) l.before l.offset
