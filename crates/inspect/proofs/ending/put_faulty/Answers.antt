-- `inspect::ending::put_faulty` meets its contract, piece by piece. Assumes nothing.
use Rattle.output.proofs.Putting.{put_then}
use Rattle.inspect.proofs.ending.put_faulty.Goals as goal

pub returns : goal.returns
returns g c =
    let numbers = put_then (put_then c.put_number.ensures c.put_spaced.ensures) c.put_words.ensures in
    put_then (put_then (put_then numbers c.put_field.ensures) c.put_words-2.ensures) c.put_bytes_at.ensures
