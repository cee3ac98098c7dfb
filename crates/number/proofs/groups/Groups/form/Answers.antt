-- `number::groups::Groups::form` meets its contract: each way out cites the law of its case, and past the test of the shortest form the groups
-- have it. Assumes nothing.
use mathlib.Core.Path.{sym, ap}
use native.Mathlib.Omega.{arith}
use Rattle.number.specs.Reading.{from}
use Rattle.number.proofs.Forming.{kept_length, zero_last, shortest, formed_large, formed_number}
use Rattle.number.proofs.groups.Groups.form.Goals as goal

pub returns-then-self-eq0 : goal.returns-then-self-eq0
returns-then-self-eq0 c =
    let p = c.self in
    sym (ap (from c.args.at) (zero_last p.invariant p.view_is (omega arith) (omega arith)))

pub returns-then-value-gt-LARGEST : goal.returns-then-value-gt-LARGEST
returns-then-value-gt-LARGEST c =
    let p = c.self in
    sym (ap (from c.args.at) (formed_large c.args.self (shortest p.invariant p.view_is c.else-self-gt1.either) (omega (arith, c.value-value.ensures))))

pub returns : goal.returns
returns c =
    let p = c.self in
    let formed_is = formed_number c.args.self (shortest p.invariant p.view_is c.else-self-gt1.either) (omega (arith, c.value-value.ensures)) in
    rw (c.value-value.ensures, sym (kept_length p.invariant p.view_is)) (sym (ap (from c.args.at) formed_is))
