-- `number::groups::Groups::value` meets its contract: no turn forms more than the value of the whole, and the last forms all. What a turn forms is
-- compared by its value, so that another sum is refused for what it comes to. Assumes nothing.
use native.Mathlib.Omega.{arith}
use Rattle.number.proofs.Values.{formed_small, one_formed, last_formed}
use Rattle.number.proofs.groups.Groups.value.Goals as goal

pub overflow_mul-value : goal.overflow_mul-value
overflow_mul-value c = omega (arith, formed_small c.self.invariant c.self.view_is c.loop-i.invariant.0 c.loop-i.invariant.1)

pub overflow_add-value : goal.overflow_add-value
overflow_add-value c = omega (arith, formed_small c.self.invariant c.self.view_is c.loop-i.invariant.0 c.loop-i.invariant.1)

pub loop-i-preserved : goal.loop-i-preserved
loop-i-preserved c =
    let small = formed_small c.self.invariant c.self.view_is c.loop-i.invariant.0 c.loop-i.invariant.1 in
    let formed = one_formed c.self.invariant c.self.view_is c.loop-i.invariant.0 c.loop-i.invariant.1 in
    (record { value_is = omega (arith, small, formed.value_is); weight_is = formed.weight_is }, c.if-self-i.false)

pub returns-then-self-i : goal.returns-then-self-i
returns-then-self-i c =
    let small = formed_small c.self.invariant c.self.view_is c.loop-i.invariant.0 c.loop-i.invariant.1 in
    omega (arith, small, last_formed c.self.invariant c.self.view_is c.loop-i.invariant.0 c.loop-i.invariant.1 c.if-self-i.true)
