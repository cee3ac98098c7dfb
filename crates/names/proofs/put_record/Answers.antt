-- `names::put_record` meets its contract: the name, the number and the words, one behind another. Assumes nothing.
use Rattle.output.proofs.Putting.{put_then}
use Rattle.names.proofs.put_record.Goals as goal

pub returns : goal.returns
returns c = put_then (put_then c.put_words-at.ensures c.put_spaced-at.ensures) c.put_words.ensures
