-- `number::groups::Groups::gather` meets its contract: each way out cites the law of its case. Assumes nothing.
use mathlib.Core.Path.{refl, ◌∙◌}
use native.Mathlib.Numerals.{add-one, sub-one}
use native.Mathlib.Omega.{arith}
use lib.ListN.{length-set}
use lib.Seq.{get_or-set_same}
use Rattle.number.specs.Groups.{most_groups}
use Rattle.number.proofs.FrontGroups.{fronts, are_groups}
use Rattle.number.proofs.Gathering.{start, turn, cut_is, last_is, more_is}
use Rattle.number.proofs.groups.Groups.gather.Goals as goal

pub loop-n-init : goal.loop-n-init
loop-n-init c = start _ _ refl

pub returns-in_default : goal.returns-in_default
returns-in_default c =
    let p = c.loop-n in
    cut_is _ p.group-items p.n p.invariant (omega arith) c.in_default.ensures.lookup.3

pub invariant_of-result : goal.invariant_of-result
invariant_of-result c =
    let p = c.loop-n in
    let (inside, byte_is) = c.in-Some.ensures.lookup.3 in
    let is = byte_is 0 in
    rw add-one record {
      room = length-set p.group-items p.n c.from-byte.result ∙ p.invariant.room;
      some = omega arith;
      within = omega arith;
      are_groups = are_groups (fronts most_groups _ _ (last_is _ p.group-items p.n p.invariant (omega arith) inside c.from-byte.result (omega arith) (omega arith)));
      at_last = rw (sub-one) (omega (arith, get_or-set_same p.group-items p.n c.from-byte.result 0 (omega arith)));
    }

pub returns-then-byte-lt-RADIX : goal.returns-then-byte-lt-RADIX
returns-then-byte-lt-RADIX c =
    let p = c.loop-n in
    let (inside, byte_is) = c.in-Some.ensures.lookup.3 in
    let is = byte_is 0 in
    rw add-one (last_is _ p.group-items p.n p.invariant (omega arith) inside c.from-byte.result (omega arith) (omega arith))

pub loop-n-preserved : goal.loop-n-preserved
loop-n-preserved c =
    let p = c.loop-n in
    let (inside, byte_is) = c.in-Some.ensures.lookup.3 in
    let is = byte_is 0 in
    rw add-one (turn _ p.group-items p.n p.invariant (omega arith) inside _ (omega (arith, c.type_inv.bytes p.n)) (omega arith))

pub returns : goal.returns
returns c =
    let p = c.loop-n in
    more_is _ p.group-items p.n p.invariant (omega arith)
