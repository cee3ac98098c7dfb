-- No two outcomes meet a promise of this crate.
use Prim.Native.Nat.{ℕ}
use mathlib.Core.Path.{◌≡◌, sym, ◌∙◌}
use mathlib.Core.List.{List}
use Rattle.plain.specs.Bytes.{RoomPromise, PlainAtPromise, WritePlainPromise, WriteRowPromise}

-- `room`
pub one_room : (bytes r s : ℕ) → RoomPromise bytes r → RoomPromise bytes s → r ≡ s
one_room bytes r s p q = p ∙ sym q

-- `plain_at`: the number, of one table at one index
pub one_plain : (table : List ℕ) (index r s : ℕ) → PlainAtPromise table index r → PlainAtPromise table index s → r ≡ s
one_plain table index r s p q = p ∙ sym q

-- `write_plain`: the table afterwards, of one number at one byte of one table
pub one_written :
    (table : List ℕ) (at number : ℕ) (after after' : List ℕ) →
    WritePlainPromise table at number after → WritePlainPromise table at number after' → after ≡ after'
one_written table at number after after' p q = p ∙ sym q

-- `write_row`: so is that of one row
pub one_row : (row : List ℕ) (at : ℕ) (table after after' : List ℕ) → WriteRowPromise row at table after → WriteRowPromise row at table after' → after ≡ after'
one_row row at table after after' p q = p ∙ sym q
