-- `gathering::totals::Totals::test_captured` meets its contract: before each turn the plants so far passed, and the tests of the others are left. Assumes nothing.
use Rattle.std.proofs.Common.{ℕ, ◌≡◌, ◌+◌, sym, ap, ◌∙◌, add-one, arith}
use borrow.Author.Tests.{lt-ltb, le-ltb}
use Rattle.fields.specs.declared.reason.Reason.TheVariants.{CapturedOverFuel}
use Rattle.fields.specs.Reasons.{number_of}
use Rattle.fields.specs.Answers.{refused_for, notice, refuses, said}
use Rattle.gathering.proofs.TestsByIndex.{one_passed, one_fails, all_passed}
use Rattle.gathering.proofs.totals.Totals.test_captured.Goals as goal

pub returns-then-self-p : goal.returns-then-self-p
returns-then-self-p c =
    let l = c.loop-p in
    let told : c.refused.result ≡ refused_for CapturedOverFuel (l.p + 1) c.args.bytes = c.refused.ensures in
    ap said told
    ∙ ap (λ (place : ℕ). refuses (notice (number_of CapturedOverFuel) place c.args.bytes)) (add-one l.p)
    ∙ sym (one_fails l.invariant (omega arith) (lt-ltb _ _ c.if-self-p.true))

pub loop-p-preserved : goal.loop-p-preserved
loop-p-preserved c = one_passed c.loop-p.invariant (omega arith) (le-ltb _ _ c.if-self-p.false)

pub returns : goal.returns
returns c = sym (all_passed c.loop-p.invariant (omega arith))
