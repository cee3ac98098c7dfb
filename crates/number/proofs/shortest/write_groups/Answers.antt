-- `number::shortest::write_groups` meets its contract: a group is written a turn. Assumes nothing.
use Prim.Native.Nat.{◌+◌}
use mathlib.Core.Path.{◌∙◌}
use native.Mathlib.Omega.{arith}
use lib.ListN.{length-set}
use Rattle.number.proofs.WrittenOut.{none_out, next_room, last_counted, last_out, another_out, all_counted, all_out}
use Rattle.number.proofs.shortest.write_groups.Goals as goal

pub loop-n-init : goal.loop-n-init
loop-n-init c = none_out _ _ _

pub overflow_add-buffer : goal.overflow_add-buffer
overflow_add-buffer c = omega (arith, next_room c.loop-n.invariant (omega arith) c.requires)

pub bounds-buffer-at : goal.bounds-buffer-at
bounds-buffer-at c = next_room c.loop-n.invariant (omega arith) c.requires

pub shape_of-buffer-then-left-lt-RADIX : goal.shape_of-buffer-then-left-lt-RADIX
shape_of-buffer-then-left-lt-RADIX c =
    let l = c.loop-n in
    length-set l.buffer (c.args.at + l.n) l.left ∙ l.invariant.sized

pub returns-then-left-lt-RADIX : goal.returns-then-left-lt-RADIX
returns-then-left-lt-RADIX c =
    let so_far = c.loop-n.invariant in record {
      value = last_counted so_far.counted (omega arith) (omega arith);
      buffer_after = last_out so_far (omega arith) (omega arith);
    }

pub overflow_add-buffer-in-loop-n-2 : goal.overflow_add-buffer-in-loop-n-2
overflow_add-buffer-in-loop-n-2 c = omega (arith, next_room c.loop-n.invariant (omega arith) c.requires)

pub bounds-buffer-at-in-loop-n : goal.bounds-buffer-at-in-loop-n
bounds-buffer-at-in-loop-n c = next_room c.loop-n.invariant (omega arith) c.requires

pub loop-n-preserved : goal.loop-n-preserved
loop-n-preserved c = another_out c.loop-n.invariant (omega arith) (omega arith)

pub shape_of-buffer : goal.shape_of-buffer
shape_of-buffer c = c.loop-n.invariant.sized

pub returns : goal.returns
returns c =
    let so_far = c.loop-n.invariant in record {
      value = omega (arith, all_counted so_far.counted (omega arith));
      buffer_after = all_out so_far (omega arith);
    }
