-- `output::text::put_words` meets its contract: each turn puts one byte more. Assumes nothing.
use Rattle.std.proofs.Common.{take}
use Rattle.output.specs.Put.{Put}
use Rattle.output.proofs.text.put_words.Given as goal

abbrev pub invariant-loop-byte : goal.invariant-loop-byte
invariant-loop-byte l = Put (take l.byte-index l.words) l.initial.end l.initial.buffer l.end l.buffer
