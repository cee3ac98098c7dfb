-- `settling::flow::Books::charges` meets its contract: after each turn they are the charges of the segments passed, each at most the segment's emission. Assumes nothing.
use Rattle.std.proofs.Common.{get_or, refl, add-one, arith}
use Rattle.accounts.proofs.Credits.{up_part}
use Rattle.settling.specs.Books.{cell}
use Rattle.settling.specs.Inside.{charges_by}
use Rattle.settling.proofs.flow.Books.charges.Goals as goal

pub loop-s-init : goal.loop-s-init
unfolding charges_by
loop-s-init c = (refl, omega arith)

pub loop-s-preserved : goal.loop-s-preserved
unfolding charges_by
loop-s-preserved c =
    let a = c.args in
    let s = c.loop-s.s in
    let part = up_part (get_or a.self.now.inflows s 0) (cell a.self.now.amounts a.p s) (get_or a.emissions.now s 0) (c.requires.chargeable s (omega arith)) in
    (rw (add-one, c.rounded_up-charges.ensures) (omega arith), omega (arith, c.rounded_up-charges.ensures, part, c.requires.small s))
