-- `settling::flow::Books::credits` meets its contract. The invariant, `Crediting`: the credits of the plants before p are written. Inflow and
-- outflow are at most the largest number, so no product passes 64 bits. Assumes nothing.
use Rattle.std.proofs.Common.{◌≡◌, add-one, arith}
use native.Mathlib.Nat.{mul-le-mul}
use Rattle.settling.proofs.Crediting.{so_far_most, part_most, crediting_on, crediting_end}
use Rattle.settling.proofs.Columns.{column_length, column_next}
use Rattle.settling.proofs.flow.Books.credits.Goals as goal

pub overflow_mul-so_far : goal.overflow_mul-so_far
overflow_mul-so_far c =
    let most = so_far_most c.loop-p.invariant _ (column_next c.args.self.now c.args.s c.loop-p.p (omega arith)) in
    omega (arith, c.requires, mul-le-mul most c.requires.outflow_le_inflow, mul-le-mul c.requires.inflow_le_largest c.requires.inflow_le_largest)

pub overflow_cast-credits : goal.overflow_cast-credits
overflow_cast-credits c =
    omega (arith, c.requires, part_most c.loop-p.invariant _ c.rounded_down-part.result (column_next c.args.self.now c.args.s c.loop-p.p (omega arith)) c.rounded_down-part.ensures)

pub loop-p-preserved : goal.loop-p-preserved
loop-p-preserved c =
    rw (add-one c.loop-p.p)
    (crediting_on c.loop-p.invariant _ c.rounded_down-part.result (column_next c.args.self.now c.args.s c.loop-p.p (omega arith)) c.rounded_down-part.ensures)

pub returns : goal.returns
returns c =
    let counted = column_length c.args.self.now c.args.s in
    let all : c.loop-p.p ≡ c.args.self.now.plants = omega (arith, counted, c.loop-p.invariant.within) in
    rw all at (crediting_end c.loop-p.invariant (omega (arith, counted)))
