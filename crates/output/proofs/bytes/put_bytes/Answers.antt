-- `output::bytes::put_bytes` meets its contract: each turn puts one byte more. Assumes nothing.
use mathlib.Core.List.{flat_map}
use Rattle.output.specs.Hexadecimal.{byte_text}
use Rattle.output.proofs.Putting.{put_nothing, put_then}
use Rattle.output.proofs.LineByLine.{one_more, all_put}
use Rattle.output.proofs.bytes.put_bytes.Goals as goal

pub loop-byte-init : goal.loop-byte-init
unfolding flat_map
loop-byte-init c = put_nothing c.start-end.ensures

pub loop-byte-preserved : goal.loop-byte-preserved
loop-byte-preserved c =
    let l = c.loop-byte in
    one_more byte_text c.args.bytes.now l.byte-index c.loop-byte-test.true l.invariant c.put_two_digits-end.ensures

pub returns : goal.returns
returns c =
    let l = c.loop-byte in
    put_then c.start-end.ensures (all_put byte_text c.args.bytes.now l.byte-index c.loop-byte-test.false l.invariant)
