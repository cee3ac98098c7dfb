-- `number::shortest::size_of` meets its contract: a group is counted a turn. Assumes nothing.
use Prim.Native.Nat.{◌+◌, ◌-◌, ◌/◌}
use mathlib.Core.Path.{◌≡◌}
use native.Mathlib.Omega.{arith}
use Rattle.number.specs.Groups.{radix}
use Rattle.number.proofs.WrittenOut.{Counted, none_counted, last_counted, another_counted, all_but_one}
use Rattle.number.proofs.shortest.size_of.Goals as goal

pub loop-n-init : goal.loop-n-init
loop-n-init c = none_counted _

pub returns-then-rest-lt-RADIX : goal.returns-then-rest-lt-RADIX
returns-then-rest-lt-RADIX c = omega (arith, last_counted c.loop-n.invariant (omega arith) (omega arith))

pub loop-n-preserved : goal.loop-n-preserved
loop-n-preserved c =
    let counted : Counted c.args.value (c.loop-n.rest / radix) (c.loop-n.n - 1 + 1) = another_counted c.loop-n.invariant (omega arith) (omega arith) in
    let one_on : c.loop-n.n - 1 + 1 ≡ c.loop-n.n + 1 - 1 = omega arith in
    rw one_on at counted

pub returns : goal.returns
returns c = omega (arith, all_but_one c.loop-n.invariant (omega arith) (omega arith))
