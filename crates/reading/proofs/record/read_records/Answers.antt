-- `reading::record::read_records` meets its contract: what is kept stands in front of the given value. Assumes nothing.
use Rattle.std.proofs.Common.{◌≡◌, ℕ, ◌-◌, List, ◌++◌, length, take, drop, replicate, arith, sym, ap, ◌∙◌}
use Rattle.std.proofs.lemmas.List.{drop-replicate, length-replicate, length-take}
use Rattle.fields.specs.Lists.{filled}
use Rattle.fields.specs.Reaching.{whole}
use Rattle.reading.specs.Found.{in_array}
use Rattle.reading.proofs.record.read_records.Goals as goal

-- what is written to the front of an array that holds one value
in_front : {A : Type 0} (none : A) (room at : ℕ) (kept : List A) → length kept ≡ at → kept ++ drop at (replicate room none) ≡ filled none room kept
unfolding filled
in_front none room at kept sized = ap (λ behind. kept ++ behind) (drop-replicate at room none ∙ ap (λ n. replicate (room - n) none) (sym sized))

pub returns : goal.returns
returns g c =
    let a = c.args in
    let kept = c.fill_records.new.records in
    let room : length (take c.min-room.result (replicate g.row.N a.none)) ≡ c.min-room.result =
    length-take c.min-room.result (replicate g.row.N a.none) ∙ omega (arith, length-replicate g.row.N a.none, c.min-room.ensures) in
    ap (λ records. whole records c.in_ok-next.next) (in_front a.none g.row.N c.min-room.result kept (c.fill_records.auto.records ∙ room))
    ∙ sym (ap (in_array a.none g.row.N) (rw (room, c.min-room.ensures) at c.in_ok-next.ensures))
