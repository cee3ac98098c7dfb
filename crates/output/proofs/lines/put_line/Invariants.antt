-- `output::lines::put_line` meets its contract: each turn puts one number more. Assumes nothing.
use Rattle.std.proofs.Common.{take}
use Rattle.output.specs.Lines.{all_spaced}
use Rattle.output.specs.Put.{Put}
use Rattle.output.proofs.lines.put_line.Given as goal

abbrev pub invariant-loop-number : goal.invariant-loop-number
invariant-loop-number l = Put (all_spaced (take l.number-index l.numbers)) l.initial.end l.initial.buffer l.end l.buffer
