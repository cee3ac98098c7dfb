-- `typed::reading::list_numbers` meets its contract: its loop lists the number that each byte ends, and the text's end may end one. Assumes nothing.
use Rattle.typed.specs.Inside.{state_of}
use Rattle.typed.proofs.NumberByNumber.{SoFarListed}
use Rattle.typed.proofs.reading.list_numbers.Given as goal

abbrev pub invariant-loop-byte : goal.invariant-loop-byte
invariant-loop-byte l = SoFarListed l.text l.initial.list l.list (state_of l.scan) l.count l.byte-index
