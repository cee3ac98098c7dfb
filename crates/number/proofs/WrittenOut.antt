-- The shortest form, written group by group: one law for each way through a turn of the loop, over any count of groups.
use Prim.Native.Nat.{ℕ, suc, ◌+◌, ◌-◌, ◌/◌, ◌≤◌, ◌<◌}
use mathlib.Core.Path.{◌≡◌, refl, sym, ap, ◌∙◌}
use mathlib.Core.Bool.{Bool, true, false, cond}
use mathlib.Core.List.{List, []}
use native.Mathlib.Nat.{zero-add, add-zero}
use native.Mathlib.Decide.{dec_le, dec_lt}
use native.Mathlib.Omega.{arith}
use lib.ListN.{length, set, length-set}
use lib.Seq.{sets}
use lib.Dec.{leb}
use borrow.Author.Tests.{le-leb, lt-leb}
use Rattle.number.specs.Groups.{most_groups, radix, group}
use Rattle.number.specs.Writing.{writing, written, fitted, WriteAtPromise}
use Rattle.number.proofs.Writing.{writing_last, writing_more}
use Rattle.number.proofs.WrittenSizes.{some_byte_of, five_bytes}

-- ---- how many bytes: n groups are counted, and the rest is still to be
pub record Counted (value rest n : ℕ) : Type 0 where
  pub within : n ≤ most_groups
  pub comes_to : n + length (writing (most_groups - n) rest) ≡ length (written value)

-- none is
pub none_counted : (value : ℕ) → Counted value value 0
unfolding written
none_counted value = record { within = omega arith; comes_to = zero-add _ }

-- as many groups as are left, behind n: at least one
left_behind : (n : ℕ) → n < most_groups → most_groups - n ≡ suc (most_groups - (n + 1))
left_behind n more = omega (arith, more)

module _ {value rest n : ℕ} (so_far : Counted value rest n) (more : n < most_groups) where
  -- what is left begins with one group more
  some_left : most_groups - n ≡ suc (most_groups - (n + 1))
  some_left = left_behind n more

  -- the last is
  pub last_counted : rest < radix → n + 1 ≡ length (written value)
  last_counted small =
      let one : length (writing (most_groups - n) rest) ≡ 1 = rw some_left (ap length (writing_last (most_groups - (n + 1)) rest small)) in
      omega (arith, one, so_far.comes_to)

  -- another is
  pub another_counted : radix ≤ rest → Counted value (rest / radix) (n + 1)
  another_counted large =
      let one : length (writing (most_groups - n) rest) ≡ suc (length (writing (most_groups - (n + 1)) (rest / radix))) =
      rw some_left (ap length (writing_more (most_groups - (n + 1)) rest large)) in
      record { within = omega (arith, more); comes_to = omega (arith, one, so_far.comes_to) }

-- all that are allowed are
pub all_counted : {value rest n : ℕ} → Counted value rest n → most_groups ≤ n → n ≡ length (written value)
unfolding writing
all_counted {value} {rest} {n} so_far all =
    let none : most_groups - n ≡ 0 = omega (arith, all) in
    let empty : length (writing (most_groups - n) rest) ≡ 0 = rw none refl in
    omega (arith, empty, so_far.comes_to)

-- only one more is allowed, so it is the last
pub all_but_one : {value rest n : ℕ} → Counted value rest n → n < most_groups → most_groups ≤ n + 1 → n + 1 ≡ length (written value)
all_but_one {value} {rest} {n} so_far more all = by_size (dec_lt rest radix)
  where
    by_size : Dec (rest < radix) → n + 1 ≡ length (written value)
    by_size (yes small) = last_counted so_far more small
    by_size (no large) = all_counted (another_counted so_far more (omega arith)) all

-- ---- the bytes themselves: n groups stand in the buffer, and the rest is still to be written
pub record WrittenOut (before : List ℕ) (at value : ℕ) (buffer : List ℕ) (rest n : ℕ) : Type 0 where
  pub sized : length buffer ≡ length before
  pub counted : Counted value rest n
  pub stands : sets buffer (at + n) (writing (most_groups - n) rest) ≡ sets before at (written value)

-- none does
pub none_out : (before : List ℕ) (at value : ℕ) → WrittenOut before at value before value 0
unfolding written
none_out before at value = record { sized = refl; counted = none_counted value; stands = rw add-zero refl }

module _ {before : List ℕ} {at value : ℕ} {buffer : List ℕ} {rest n : ℕ} (so_far : WrittenOut before at value buffer rest n) (more : n < most_groups) where
  some_to_write : most_groups - n ≡ suc (most_groups - (n + 1))
  some_to_write = left_behind n more

  -- there is room for the next, if there is for all
  pub next_room : at + length (written value) ≤ length before → at + n < length buffer
  next_room room =
      let some : 0 < length (writing (most_groups - n) rest) = rw some_to_write (some_byte_of (most_groups - (n + 1)) rest) in
      omega (arith, some, so_far.counted.comes_to, so_far.sized, room)

  -- the last is written
  pub last_out : rest < radix → set buffer (at + n) rest ≡ sets before at (written value)
  last_out small = sym (rw (some_to_write, writing_last (most_groups - (n + 1)) rest small) refl) ∙ so_far.stands

  -- another is
  pub another_out : radix ≤ rest → WrittenOut before at value (set buffer (at + n) (radix + group rest)) (rest / radix) (n + 1)
  another_out large = record {
    sized = length-set buffer (at + n) (radix + group rest) ∙ so_far.sized;
    counted = another_counted so_far.counted more large;
    stands =
        let one_on : at + (n + 1) ≡ suc (at + n) = omega arith in
        rw one_on (sym (rw (some_to_write, writing_more (most_groups - (n + 1)) rest large) refl) ∙ so_far.stands);
  }

-- all that are allowed are
pub all_out : {before : List ℕ} {at value : ℕ} {buffer : List ℕ} {rest n : ℕ} → WrittenOut before at value buffer rest n → most_groups ≤ n → buffer ≡ sets before at (written value)
unfolding writing
all_out {n = n} so_far all = let none : most_groups - n ≡ 0 = omega (arith, all) in sym (rw none refl) ∙ so_far.stands

-- ---- the whole form, or nothing
module _ (value at : ℕ) (buffer : List ℕ) where
  -- there is no room for it
  pub no_room : length buffer < at + length (written value) → WriteAtPromise value at buffer 0 buffer
  no_room short =
      let none : fitted value at buffer ≡ [] = rw (lt-leb (at + length (written value)) (length buffer) short) refl in
      record { counted = sym (ap length none); stands = sym (ap (sets buffer at) none) }

  -- there is
  pub fits : at + length (written value) ≤ length buffer → fitted value at buffer ≡ written value
  fits room = rw (le-leb (at + length (written value)) (length buffer) room) refl

  pub whole_out :
      at + length (written value) ≤ length buffer → (r : ℕ) (buffer' : List ℕ) → r ≡ length (written value) → buffer' ≡ sets buffer at (written value) →
      WriteAtPromise value at buffer r buffer'
  whole_out room r buffer' counted stands =
      record { counted = counted ∙ sym (ap length (fits room)); stands = stands ∙ sym (ap (sets buffer at) (fits room)) }

  -- five bytes at most, however much room there is
  pub fitted_most : length (fitted value at buffer) ≤ most_groups
  fitted_most = by_room (leb (at + length (written value)) (length buffer))
    where
      by_room : (room : Bool) → length (cond room (written value) []) ≤ most_groups
      by_room true = five_bytes value
      by_room false = omega arith

-- what fits into the bytes behind another fits behind it
pub fits_behind : (at size bytes : ℕ) → at ≤ bytes → leb size (bytes - at) ≡ leb (at + size) bytes
fits_behind at size bytes inside = by_size (dec_le (at + size) bytes)
  where
    by_size : Dec (at + size ≤ bytes) → leb size (bytes - at) ≡ leb (at + size) bytes
    by_size (yes h) = le-leb size (bytes - at) (omega (arith, h)) ∙ sym (le-leb (at + size) bytes h)
    by_size (no h) = lt-leb size (bytes - at) (omega (arith, h, inside)) ∙ sym (lt-leb (at + size) bytes (omega (arith, h)))
