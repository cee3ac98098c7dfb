-- How much room text takes: no line is longer than its words and the most that its numbers can take.
use Prim.Native.Nat.{ℕ, zero, suc, ◌+◌, ◌*◌, ◌/◌, ◌≤◌, ◌<◌}
use mathlib.Core.List.{List, [], ◌∷◌, flat_map}
use native.Mathlib.Nat.{le_trans, mul_comm, suc-mul, mul-le-mul_right, div-lt_iff_lt-mul}
use native.Mathlib.Omega.{arith}
use lib.ListN.{length, take, drop, length-append, length-take}
use Rattle.output.specs.Lines.{spaced, most_spaced, all_spaced, text_line, row_text, rows_text, table_text, row_signs, most_in_rows}
use Rattle.output.specs.Hexadecimal.{byte_text, bytes_text, most_byte_text}
use Rattle.output.specs.Put.{Put}
use Rattle.output.proofs.Decimals.{decimal_long}

-- ---- a number, and several
pub spaced_long : (number : ℕ) → length (spaced number) ≤ most_spaced
spaced_long number = omega (arith, decimal_long number)

all_spaced_long : (numbers : List ℕ) → length (all_spaced numbers) ≤ most_spaced * length numbers
unfolding flat_map
all_spaced_long [] = omega arith
all_spaced_long (number ∷ numbers) =
    rw (length-append (spaced number) (all_spaced numbers)) (omega (arith, spaced_long number, all_spaced_long numbers))

-- ---- bytes in hexadecimal
pub bytes_long : (bytes : List ℕ) → length (bytes_text bytes) ≤ most_byte_text * length bytes
unfolding flat_map
bytes_long [] = omega arith
bytes_long (byte ∷ bytes) = rw (length-append (byte_text byte) (bytes_text bytes)) (omega (arith, bytes_long bytes))

-- ---- a line
pub line_long : (words numbers : List ℕ) → length (text_line words numbers) ≤ length words + most_spaced * length numbers + 1
unfolding text_line
line_long words numbers = simp length-append (omega (arith, all_spaced_long numbers))

-- ---- the rows of a table, behind a letter
row_long : (letter : ℕ) (width : ℕ) (table : List ℕ) (index : ℕ) → length (row_text (letter ∷ []) width table index) ≤ row_signs + most_spaced * suc width
row_long letter width table index =
    let row = take width (drop (width * index) table) in
    omega (arith, line_long (letter ∷ []) (suc index ∷ row), length-take width (drop (width * index) table))

rows_long : (letter width : ℕ) (table : List ℕ) (count : ℕ) → length (rows_text (letter ∷ []) width table count) ≤ most_in_rows count width
unfolding rows_text
rows_long letter width table zero = omega arith
rows_long letter width table (suc count) =
    rw (length-append (rows_text (letter ∷ []) width table count) (row_text (letter ∷ []) width table count))
    (omega (arith, rows_long letter width table count, row_long letter width table count))

-- The text of a table of at most `most` records is no longer than the rows of that many records can be.
pub table_long :
    (letter width : ℕ) (table : List ℕ) (most : ℕ) → 0 < width → length table ≤ width * most →
    length (table_text (letter ∷ []) width table) ≤ most_in_rows most width
table_long letter width table most some few =
    let rows : length table / width < suc most = (div-lt_iff_lt-mul some).1 (omega (arith, suc-mul most width, mul_comm most width)) in
    le_trans (rows_long letter width table (length table / width)) (mul-le-mul_right (row_signs + most_spaced * suc width) (omega (arith, rows)))

-- ---- where text ends
-- text of at most `most` bytes ends no further than that from its start
pub put_near :
    {text : List ℕ} {at : ℕ} {buffer : List ℕ} {end : ℕ} {buffer' : List ℕ} (most : ℕ) →
    Put text at buffer end buffer' → length text ≤ most → end ≤ at + most
put_near most put short = omega (arith, put.ends)
