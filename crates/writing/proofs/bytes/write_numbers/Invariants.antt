-- `writing::bytes::write_numbers` meets its contract: a number is written a turn, behind those before it. Assumes nothing.
use Rattle.plain.specs.Bytes.{table_numbers}
use Rattle.writing.proofs.FileWritten.{Filled}
use Rattle.writing.proofs.bytes.write_numbers.Given as goal

abbrev pub invariant-loop-n : goal.invariant-loop-n
invariant-loop-n l = Filled (table_numbers l.numbers) l.initial.buffer l.buffer l.at l.n
