-- `settling::flow::Books::new` meets its contract: no entry has an amount or a plant. Assumes nothing.
use Rattle.std.proofs.Common.{refl}
use Rattle.records.specs.Segments.{most_segments}
use Rattle.settling.proofs.Starting.{no_amount, none_brought}
use Rattle.settling.proofs.flow.Books.new.Goals as goal

pub returns : goal.returns
returns c = record { plants_are = refl; amounts = none_brought; members = no_amount most_segments }
