-- `output::text::put_spaced` meets its contract: a space, and the number behind it. Assumes nothing.
use Rattle.output.proofs.Putting.{put_then}
use Rattle.output.proofs.text.put_spaced.Goals as goal

pub returns : goal.returns
returns c = put_then c.put_byte-at.ensures c.put_number.ensures
