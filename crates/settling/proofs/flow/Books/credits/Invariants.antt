-- `settling::flow::Books::credits` meets its contract. The invariant, `Crediting`: the credits of the plants before p are written. Inflow and
-- outflow are at most the largest number, so no product passes 64 bits. Assumes nothing.
use Rattle.settling.specs.Books.{column}
use Rattle.settling.proofs.Crediting.{Crediting}
use Rattle.settling.proofs.flow.Books.credits.Given as goal

abbrev pub invariant-loop-p : goal.invariant-loop-p
invariant-loop-p l = Crediting l.inflow l.outflow (column l.self l.s) l.credits l.so_far l.shared l.p
