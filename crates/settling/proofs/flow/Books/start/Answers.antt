-- `settling::flow::Books::start` meets its contract: its loop puts one plant after another to its start. Assumes nothing.
use Rattle.std.proofs.Common.{◌∙◌, arith}
use Rattle.settling.proofs.Starting.{within, none_started, one_placed, one_joined, all_started}
use Rattle.settling.proofs.flow.Books.start.Goals as goal

pub loop-p-init : goal.loop-p-init
loop-p-init c = none_started c.requires.blank

pub loop-p-preserved : goal.loop-p-preserved
loop-p-preserved c =
    let l = c.loop-p in
    let put = c.bring.ensures in record {
      plants_are = put.besides.plants ∙ l.invariant.plants_are;
      amounts = one_placed l.invariant put;
      members = one_joined l.invariant (omega arith) (within c.args.plants.now l.p (omega arith) c.requires.each) _ put.besides.sets;
    }

pub returns : goal.returns
returns c = all_started c.loop-p.invariant (omega arith)
