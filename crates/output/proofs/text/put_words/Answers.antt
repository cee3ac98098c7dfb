-- `output::text::put_words` meets its contract: each turn puts one byte more. Assumes nothing.
use Rattle.output.proofs.Putting.{byte_more, bytes_all, put_then}
use Rattle.output.proofs.text.put_words.Goals as goal

pub loop-byte-preserved : goal.loop-byte-preserved
loop-byte-preserved c =
    let l = c.loop-byte in
    byte_more c.args.words.now l.byte-index c.loop-byte-test.true l.invariant c.put_byte-end.ensures

pub returns : goal.returns
returns c =
    let l = c.loop-byte in
    put_then c.start-end.ensures (bytes_all c.args.words.now l.byte-index c.loop-byte-test.false l.invariant)
