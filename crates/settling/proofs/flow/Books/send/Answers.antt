-- `settling::flow::Books::send` meets its contract: its loop fills what the plants bring, one after another. Assumes nothing.
use Rattle.std.proofs.Common.{◌≡◌, true, false, sym, ◌∙◌, arith}
use Rattle.accounts.specs.Accounts.{has_bit}
use Rattle.settling.proofs.Cells.{one_kept, brought_on, besides_on}
use Rattle.settling.proofs.flow.Books.send.Goals as goal
use Rattle.settling.proofs.flow.Books.send.Goals.{then-has, else-has}

pub loop-p-preserved : goal.loop-p-preserved
loop-p-preserved c =
    let a = c.args in
    let l = c.loop-p in
    elim c.if-has.branch [
      | then-has w ↦
          let member : has_bit a.set l.p ≡ true = sym c.has.ensures ∙ w.if-has.true in
          rw w.self-is (record { besides = besides_on l.invariant.besides w.bring.ensures.besides; filled = λ n. brought_on w.bring.ensures n (l.invariant.filled n) (rw member) })
      | else-has w ↦
          let member : has_bit a.set l.p ≡ false = sym c.has.ensures ∙ w.if-has.false in
          rw w.self-is (record { besides = l.invariant.besides; filled = λ n. one_kept (l.invariant.filled n) (rw member) })
    ]

pub returns : goal.returns
returns c =
    let l = c.loop-p in
    record { besides = l.invariant.besides; amounts = λ p n here. (l.invariant.filled n).done p (omega arith) }
