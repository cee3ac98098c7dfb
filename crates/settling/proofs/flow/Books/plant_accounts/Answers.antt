-- `settling::flow::Books::plant_accounts` meets its contract: its loop fills the accounts, plant by plant. Assumes nothing.
use Rattle.std.proofs.Common.{refl, arith}
use lib.Seq.{get_or-take}
use Rattle.records.specs.Plants.{most_plants, no_plant}
use Rattle.gathering.proofs.Listing.{filling_start, filling_on}
use Rattle.settling.specs.Settled.{no_plant_account}
use Rattle.settling.specs.Inside.{plant_account_by}
use Rattle.settling.proofs.flow.Books.plant_accounts.Goals as goal

pub loop-p-init : goal.loop-p-init
loop-p-init c = filling_start no_plant_account most_plants (plant_account_by c.args.gathered.now c.args.self.now)

pub loop-p-preserved : goal.loop-p-preserved
loop-p-preserved c =
    let l = c.loop-p in
    let books = c.args.self.now in
    let gathered = c.args.gathered.now in
    let plant = get_or-take books.plants gathered.plants l.p no_plant (omega arith) in
    filling_on no_plant_account most_plants (plant_account_by gathered books) l.accounts l.p _ l.invariant (omega arith)
    (rw (plant, c.charges-charges.ensures.value) refl)
