-- `settling::flow::Books::work` meets its contract: the segment's tests, and then the plants go on. Assumes nothing.
use Rattle.std.proofs.Common.{◌≡◌, ℕ, List, Err, get_or, set, ap, ◌∙◌, arith, rules}
use Rattle.fields.specs.Answers.{accepts, refusing}
use Rattle.settling.proofs.Tests.{own_tests}
use Rattle.settling.proofs.SendingOn.{credit_same, members_stay, members_go}
use Rattle.settling.proofs.flow.Books.work.Goals as goal

pub returns-in_err-test : goal.returns-in_err-test
returns-in_err-test c =
    let refusal = c.in_err-test.field-0.0 in
    let is : c.from_residual.result ≡ Err refusal = search rules in
    rw is (own_tests c.args.due c.args.self.now c.inflow-inflow.ensures (refusing refusal) c.in_err-test.ensures)

pub returns-then-next-ne0 : goal.returns-then-next-ne0
returns-then-next-ne0 c =
    let due = c.args.due in
    let books = c.args.self.now in
    let sent = c.send.ensures in (
      own_tests due books c.inflow-inflow.ensures accepts c.in_ok-test.ensures.0,
      record {
        plants = sent.besides.plants;
        amounts = λ p n here. sent.amounts p n here ∙ credit_same due books _ c.credits-credits.ensures p n here;
        members = λ s here. members_go due books (omega arith) (omega arith) _ sent.besides.sets s;
        inflows = sent.besides.inflows ∙ ap (set books.inflows due.index) c.inflow-inflow.ensures;
      },
    )

pub returns-else-next-ne0 : goal.returns-else-next-ne0
returns-else-next-ne0 c =
    let due = c.args.due in
    let books = c.args.self.now in
    let sent = c.send.ensures in (
      own_tests due books c.inflow-inflow.ensures accepts c.in_ok-test.ensures.0,
      record {
        plants = sent.besides.plants;
        amounts = λ p n here. sent.amounts p n here ∙ credit_same due books _ c.credits-credits.ensures p n here;
        members = λ s here. ap (λ (sets : List ℕ). get_or sets s 0) sent.besides.sets ∙ members_stay due books (omega arith) s;
        inflows = sent.besides.inflows ∙ ap (set books.inflows due.index) c.inflow-inflow.ensures;
      },
    )
