-- `inspect::ending::put_bytes_at` meets its contract: the bytes are those of the number, from its first on. Assumes nothing.
use Prim.Native.Nat.{◌+◌, ◌-◌}
use mathlib.Core.Path.{◌≡◌}
use native.Mathlib.Omega.{arith}
use lib.ListN.{length}
use Rattle.number.specs.Reading.{bytes_at}
use Rattle.number.proofs.OwnBytes.{own_inside, own_part, no_own}
use Rattle.inspect.proofs.ending.put_bytes_at.Goals as goal

pub returns-then-count-eq0 : goal.returns-then-count-eq0
returns-then-count-eq0 g c =
    let a = c.args in
    let count = c.bytes_at-count in
    rw (no_own a.file.now a.byte (omega (arith, count.ensures))) c.put_bytes.ensures

pub overflow_add-byte : goal.overflow_add-byte
overflow_add-byte g c =
    let a = c.args in
    omega (arith, own_inside a.file.now a.byte c.bytes_at-count.result c.bytes_at-count.ensures (omega arith))

pub returns-else-count-eq0 : goal.returns-else-count-eq0
returns-else-count-eq0 g c =
    let a = c.args in
    let count = c.bytes_at-count in
    let long : a.byte + count.result - a.byte ≡ length (bytes_at a.file.now a.byte) = omega (arith, count.ensures) in
    rw (own_part a.file.now a.byte (a.byte + count.result - a.byte) long) at c.put_bytes-else-count-eq0.ensures

pub slice_bounds-put_bytes-end-else-count-eq0 : goal.slice_bounds-put_bytes-end-else-count-eq0
slice_bounds-put_bytes-end-else-count-eq0 g c = own_inside c.args.file.now c.args.byte c.bytes_at-count.result c.bytes_at-count.ensures (omega arith)
