-- The eight bytes of a number: how many, one by one, and read back; and the number at an index of a table.
use Prim.Native.Nat.{ℕ, zero, suc, ◌+◌, ◌*◌, ◌/◌, ◌%◌, ◌^◌, ◌≤◌, ◌<◌}
use mathlib.Core.Path.{◌≡◌, refl, sym, ap, ap₂, ◌∙◌}
use mathlib.Core.List.{List, [], ◌∷◌, ◌++◌, map}
use native.Mathlib.Nat.{pow-suc, div-lt_iff_lt-mul, mod-add-div, mul_assoc, div-one, div-div-eq-div-mul}
use native.Mathlib.Omega.{arith}
use lib.ListN.{length, take, drop, get_or, get_or-map}
use lib.Seq.{sets, sets-eq, drop-drop, take-suc, take_all, length-take-le}
use Rattle.std.specs.Int.{w64, byte_at, byte_worth, bytes_low_first, sum_through, to_le_bytes, from_le_bytes}
use Rattle.std.specs.Simd.{first_chunks}
use Rattle.std.proofs.lemmas.List.{get_or_past}
use borrow.Author.Tests.{le-leb}
use Rattle.plain.specs.Bytes.{number_bytes, byte_values, whole_numbers, bytes_of, eight_bytes, value_of, first_numbers, table_numbers, plain_written}

-- there are as many bytes as are asked for
pub length_bytes : (count number : ℕ) → length (bytes_of count number) ≡ count
unfolding bytes_of
length_bytes zero number = refl
length_bytes (suc count) number = ap suc (length_bytes count (number / byte_values))

-- they are those that the library gives of a number, from its lowest on
bytes_from : (count index number : ℕ) → bytes_low_first index count number ≡ bytes_of count (number / byte_values ^ index)
unfolding bytes_of
bytes_from zero index number = refl
bytes_from (suc count) index number = ap₂ (λ (byte : ℕ) (bytes : List ℕ). byte ∷ bytes) (low index) (bytes_from count (suc index) number ∙ ap (bytes_of count) (further index))
  where
    low : (index : ℕ) → byte_at index number ≡ number / byte_values ^ index % byte_values
    low zero = rw div-one refl
    low (suc index) = refl

    further : (index : ℕ) → number / byte_values ^ suc index ≡ number / byte_values ^ index / byte_values
    further index = rw (pow-suc byte_values index) (sym (div-div-eq-div-mul number (byte_values ^ index) byte_values))

pub library_bytes : (number : ℕ) → to_le_bytes w64 number ≡ eight_bytes number
library_bytes number = bytes_from number_bytes 0 number ∙ rw div-one refl

-- where there is room, they stand between what was before and behind them
pub set_between :
    (table : List ℕ) (at number : ℕ) → at + number_bytes ≤ length table →
    sets table at (eight_bytes number) ≡ take at table ++ eight_bytes number ++ drop (at + number_bytes) table
set_between table at number room =
    let eight : length (eight_bytes number) ≡ number_bytes = length_bytes number_bytes number in
    sets-eq (eight_bytes number) table at (omega (arith, room, eight)) ∙ ap (λ (n : ℕ). take at table ++ eight_bytes number ++ drop (at + n) table) eight

pub written_between :
    (table : List ℕ) (at number : ℕ) → at + number_bytes ≤ length table →
    plain_written table at number ≡ take at table ++ eight_bytes number ++ drop (at + number_bytes) table
written_between table at number room = rw (le-leb (at + number_bytes) (length table) room) (set_between table at number room)

-- ---- one number: what is written is read back
value_of_bytes : (count number : ℕ) → number < byte_values ^ count → value_of (bytes_of count number) ≡ number
unfolding value_of bytes_of
value_of_bytes zero number small = omega (arith, small)
value_of_bytes (suc count) number small =
    let higher : number / byte_values < byte_values ^ count =
    (div-lt_iff_lt-mul {k = byte_values} (omega arith)).1 (rw (pow-suc byte_values count) at small) in
    rw (value_of_bytes count (number / byte_values) higher) (mod-add-div number byte_values)

-- eight bytes are enough for a 64-bit number
pub value_of_eight : (number : ℕ) → number < 2 ^ 64 → value_of (eight_bytes number) ≡ number
value_of_eight number small = value_of_bytes number_bytes number small

-- ---- the number at an index of a table
-- there are as many numbers as are asked for
pub first_length : (count : ℕ) (table : List ℕ) → length (first_numbers count table) ≡ count
unfolding first_numbers
first_length zero table = refl
first_length (suc count) table = ap suc (first_length count (drop number_bytes table))

-- the eight bytes at an index, as the library divides a table
pub chunk_at :
    (count index : ℕ) (table d : List ℕ) → index < count → get_or (first_chunks number_bytes count table) index d ≡ take number_bytes (drop (number_bytes * index) table)
chunk_at zero index table d inside = absurd (omega (arith, inside))
chunk_at (suc count) zero table d inside = refl
chunk_at (suc count) (suc index) table d inside =
    let further : number_bytes * suc index ≡ number_bytes + number_bytes * index = omega arith in
    chunk_at count index (drop number_bytes table) d (omega (arith, inside))
    ∙ ap (take number_bytes) (drop-drop (number_bytes * index) number_bytes table ∙ ap (λ (n : ℕ). drop n table) (sym further))

-- each number is that of its own eight bytes
numbers_are : (count : ℕ) (table : List ℕ) → first_numbers count table ≡ map value_of (first_chunks number_bytes count table)
unfolding first_numbers
numbers_are zero table = refl
numbers_are (suc count) table = ap (λ (l : List ℕ). value_of (take number_bytes table) ∷ l) (numbers_are count (drop number_bytes table))

first_at : (count index : ℕ) (table : List ℕ) → index < count → get_or (first_numbers count table) index 0 ≡ value_of (take number_bytes (drop (number_bytes * index) table))
unfolding value_of
first_at count index table inside =
    ap (λ (l : List ℕ). get_or l index 0) (numbers_are count table)
    ∙ get_or-map value_of (first_chunks number_bytes count table) index []
    ∙ ap value_of (chunk_at count index table [] inside)

pub table_at : (table : List ℕ) (index : ℕ) → index < whole_numbers table → get_or (table_numbers table) index 0 ≡ value_of (take number_bytes (drop (number_bytes * index) table))
table_at table index inside = first_at (whole_numbers table) index table inside

-- and behind the last there is none
get_or_behind : (l : List ℕ) (index : ℕ) → length l ≤ index → get_or l index 0 ≡ 0
get_or_behind l index behind = get_or_past l index 0 behind

pub table_behind : (table : List ℕ) (index : ℕ) → whole_numbers table ≤ index → get_or (table_numbers table) index 0 ≡ 0
table_behind table index behind = get_or_behind (table_numbers table) index (omega (arith, behind, first_length (whole_numbers table) table))

-- ---- the number of eight bytes, as the library reads it
-- one byte more counts for the power of its index
value_last : (bytes : List ℕ) (byte : ℕ) → value_of (bytes ++ byte ∷ []) ≡ value_of bytes + byte * byte_values ^ length bytes
unfolding value_of
value_last [] byte = omega arith
value_last (b ∷ bytes) byte =
    rw (value_last bytes byte, pow-suc byte_values (length bytes))
    (omega (arith, sym (mul_assoc byte (byte_values ^ length bytes) byte_values)))

-- so the first bytes come to the sum over their indices
value_through : (bytes : List ℕ) (last : ℕ) → last < length bytes → value_of (take (suc last) bytes) ≡ sum_through (λ i. byte_worth i (get_or bytes i 0)) last
unfolding value_of
value_through [] zero inside = absurd (omega arith)
value_through (b ∷ bytes) zero inside = omega arith
value_through bytes (suc last) inside =
    rw (take-suc bytes (suc last) 0 inside, value_last (take (suc last) bytes) (get_or bytes (suc last) 0), value_through bytes last (omega arith), length-take-le (suc last) bytes (omega arith)) refl

pub library_value : (bytes : List ℕ) → length bytes ≡ number_bytes → from_le_bytes w64 bytes ≡ value_of bytes
library_value bytes eight = sym (ap value_of (sym (take_all number_bytes bytes (omega arith))) ∙ value_through bytes 7 (omega arith))
