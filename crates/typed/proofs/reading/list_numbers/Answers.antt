-- `typed::reading::list_numbers` meets its contract: its loop lists the number that each byte ends, and the text's end may end one. Assumes nothing.
use Rattle.std.proofs.Common.{arith}
use Rattle.typed.proofs.NumberByNumber.{ended_within, ending_within, none_listed, byte_listed, end_listed}
use Rattle.typed.proofs.reading.list_numbers.Goals as goal

pub loop-byte-init : goal.loop-byte-init
loop-byte-init c = none_listed _ _

pub list_number-count-requires : goal.list_number-count-requires
list_number-count-requires c = omega (arith, ended_within c.loop-byte.invariant _ c.ended_by.ensures)

pub loop-byte-preserved : goal.loop-byte-preserved
loop-byte-preserved c =
    let listed = c.list_number-count.ensures in
    rw c.behind-scan.ensures (byte_listed c.loop-byte.invariant c.loop-byte-test.true _ _ _ c.ended_by.ensures listed.value listed.list_after)

pub list_number-requires : goal.list_number-requires
list_number-requires c = omega (arith, ending_within c.loop-byte.invariant _ c.ending.ensures)

pub returns : goal.returns
returns c =
    let listed = c.list_number.ensures in
    end_listed c.loop-byte.invariant c.loop-byte-test.false _ _ _ c.ending.ensures listed.value listed.list_after
