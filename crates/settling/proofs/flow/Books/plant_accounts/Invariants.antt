-- `settling::flow::Books::plant_accounts` meets its contract: its loop fills the accounts, plant by plant. Assumes nothing.
use Rattle.records.specs.Plants.{most_plants}
use Rattle.gathering.proofs.Listing.{Filling}
use Rattle.settling.specs.Settled.{no_plant_account}
use Rattle.settling.specs.Inside.{plant_account_by}
use Rattle.settling.proofs.flow.Books.plant_accounts.Given as goal

abbrev pub invariant-loop-p : goal.invariant-loop-p
invariant-loop-p l = Filling no_plant_account most_plants (plant_account_by l.gathered l.self) l.accounts l.p
