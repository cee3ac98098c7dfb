-- `settling::flow::Due::test` meets its contract: the three tests in their order. Assumes nothing.
use Rattle.std.proofs.Common.{inl, inr, add-one, arith}
use mathlib.Core.Logic.{⊎_elim}
use Rattle.settling.specs.Books.{figures}
use Rattle.settling.proofs.Tests.{inflow_refused, outflow_refused, emission_refused, segment_passes}
use Rattle.settling.proofs.flow.Due.test.Goals as goal

pub returns-then-inflow-gt-LARGEST : goal.returns-then-inflow-gt-LARGEST
returns-then-inflow-gt-LARGEST c =
    let a = c.args in
    rw (c.refused.ensures, add-one) (inflow_refused a.self.bytes (figures a.self a.inflow) c.if-inflow-gt-LARGEST.true)

pub returns-then-inflow-self : goal.returns-then-inflow-self
returns-then-inflow-self c =
    let a = c.args in
    rw (c.refused-then-inflow-self.ensures, add-one)
    (outflow_refused a.self.bytes (figures a.self a.inflow) c.if-inflow-gt-LARGEST.false c.if-inflow-self.true)

-- by `omega`, so that an edit of what is tested falls only where it lets something pass
pub returns-then-inflow-eq0 : goal.returns-then-inflow-eq0
returns-then-inflow-eq0 c =
    let a = c.args in
    rw (c.refused-then-inflow-eq0.ensures, add-one)
    (emission_refused a.self.bytes (figures a.self a.inflow) c.if-inflow-gt-LARGEST.false c.if-inflow-self.false (omega (arith, c.if-self-gt0.true)) c.if-inflow-eq0.true)

pub returns : goal.returns
returns c =
    let a = c.args in (
      segment_passes a.self.bytes (figures a.self a.inflow) c.if-inflow-gt-LARGEST.false c.if-inflow-self.false
          (⊎_elim (λ some. inr (omega (arith, some.1))) (λ none. inl none) c.else-self-gt0.either),
      c.if-inflow-gt-LARGEST.false,
      c.if-inflow-self.false,
    )
