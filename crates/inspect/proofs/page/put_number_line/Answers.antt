-- `inspect::page::put_number_line` meets its contract, piece by piece. Assumes nothing.
use Rattle.output.proofs.Putting.{put_then}
use Rattle.inspect.proofs.page.put_number_line.Goals as goal

pub returns : goal.returns
returns g c =
    let numbers = put_then (put_then c.put_number.ensures c.put_spaced.ensures) c.put_spaced-2.ensures in
    put_then (put_then numbers c.put_field.ensures) c.put_close.ensures
