-- `settling::flow::Books::send` meets its contract: its loop fills what the plants bring, one after another. Assumes nothing.
use Rattle.std.proofs.Common.{◌&&◌, ℕ, cond, eqb, get_or}
use Rattle.accounts.specs.Accounts.{has_bit}
use Rattle.settling.specs.Books.{brought, Besides}
use Rattle.settling.proofs.Cells.{UpTo}
use Rattle.settling.proofs.flow.Books.send.Given as goal

abbrev pub invariant-loop-p : goal.invariant-loop-p
invariant-loop-p l = record {
  besides : Besides l.initial.self l.self;
  filled :
      (n : ℕ) →
      UpTo l.p (λ q. cond (has_bit l.set q && eqb n l.next) (get_or l.credits q 0) (brought l.initial.self q n)) (λ q. brought l.initial.self q n)
      (λ q. brought l.self q n);
}
