-- `output::bytes::put_bytes` meets its contract: each turn puts one byte more. Assumes nothing.
use Rattle.std.proofs.Common.{take}
use Rattle.output.specs.Hexadecimal.{bytes_text}
use Rattle.output.specs.Put.{Put}
use Rattle.output.proofs.bytes.put_bytes.Given as goal

abbrev pub invariant-loop-byte : goal.invariant-loop-byte
invariant-loop-byte l = Put (bytes_text (take l.byte-index l.bytes)) l.initial.end l.initial.buffer l.end l.buffer
