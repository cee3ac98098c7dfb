-- Lines, number by number; bytes, one by one; and the rows of a table, row by row.
use Prim.Native.Nat.{ℕ, ◌+◌, ◌*◌, ◌/◌, ◌≤◌, ◌<◌}
use mathlib.Core.Path.{◌≡◌, refl, sym, ap, ◌∙◌}
use mathlib.Core.List.{List, [], ◌∷◌, ◌++◌, append-nil, append_assoc, flat_map}
use native.Mathlib.Numerals.{add-one}
use native.Mathlib.Nat.{mul_comm, mul-zero, div-zero, div-eq_of_lt-le, div-mul-le_self, mul-le-mul_left}
use native.Mathlib.Omega.{arith}
use lib.ListN.{length, take, drop, get_or, length-append, length-drop}
use lib.Seq.{take-suc, take_all, take_at, drop_at, drop-drop}
use Rattle.output.specs.Lines.{spaced, text_line, rows_text, table_text}
use Rattle.output.specs.Put.{Put}
use Rattle.output.proofs.Putting.{put_then}

-- ---- numbers or bytes, each put as a text of its own
module _ (text : ℕ → List ℕ) where
  -- one list of them after another
  text_append : (front back : List ℕ) → flat_map text (front ++ back) ≡ flat_map text front ++ flat_map text back
  unfolding flat_map
  text_append [] back = refl
  text_append (one ∷ front) back =
      ap (λ (rest : List ℕ). text one ++ rest) (text_append front back) ∙ sym (append_assoc (text one) (flat_map text front) (flat_map text back))

  -- one more
  text_more : (all : List ℕ) (n : ℕ) → n < length all → flat_map text (take (n + 1) all) ≡ flat_map text (take n all) ++ text (get_or all n 0)
  unfolding flat_map
  text_more all n inside =
      rw (add-one, take-suc all n 0 inside)
      (text_append (take n all) (get_or all n 0 ∷ [])
      ∙ ap (λ (last : List ℕ). flat_map text (take n all) ++ last) (append-nil (text (get_or all n 0))))

  module _ {at : ℕ} {buffer : List ℕ} {end : ℕ} {buffer' : List ℕ} where
    -- one more is put
    pub one_more :
        (all : List ℕ) (n : ℕ) {end' : ℕ} {buffer'' : List ℕ} → n < length all → Put (flat_map text (take n all)) at buffer end buffer' →
        Put (text (get_or all n 0)) end buffer' end' buffer'' → Put (flat_map text (take (n + 1) all)) at buffer end' buffer''
    one_more all n inside past next = rw (text_more all n inside) (put_then past next)

    -- all are put
    pub all_put : (all : List ℕ) (n : ℕ) → length all ≤ n → Put (flat_map text (take n all)) at buffer end buffer' → Put (flat_map text all) at buffer end buffer'
    all_put all n done past = rw (take_all n all done) at past

-- ---- a row
-- Its letter, its record's own number and a line of its numbers are one line.
pub row_line : (letter : List ℕ) (own : ℕ) (numbers : List ℕ) → letter ++ spaced own ++ text_line [] numbers ≡ text_line letter (own ∷ numbers)
unfolding flat_map text_line
row_line letter own numbers = simp append_assoc

-- a row that is there lies within the table
pub row_within : (table width row : ℕ) → row < table / width → width * row + width ≤ table
row_within table width row there = omega (arith, mul-le-mul_left width there, div-mul-le_self table width)

-- ---- rows, from the front of the numbers that are left
-- So many rows are put, and these numbers are left.
pub record RowsPut (letter : List ℕ) (width : ℕ) (table : List ℕ) (at : ℕ) (buffer : List ℕ) (left : List ℕ) (count end : ℕ) (buffer' : List ℕ) : Type 0 where
  pub left_is : left ≡ drop (width * count) table
  pub within : width * count ≤ length table
  pub stands : Put (rows_text letter width table count) at buffer end buffer'

-- before the first row
pub rows_none :
    (letter : List ℕ) (width : ℕ) (table : List ℕ) {at : ℕ} {buffer left : List ℕ} {count end : ℕ} →
    left ≡ table → count ≡ 0 → Put [] at buffer end buffer → RowsPut letter width table at buffer left count end buffer
unfolding rows_text
rows_none letter width table all none nothing =
    rw none (record { left_is = rw (mul-zero width) all; within = omega arith; stands = nothing })

-- a table whose rows have no numbers has none
pub no_rows :
    (letter : List ℕ) (width : ℕ) (table : List ℕ) {at : ℕ} {buffer : List ℕ} {end : ℕ} →
    width ≤ 0 → Put [] at buffer end buffer → Put (table_text letter width table) at buffer end buffer
unfolding rows_text
no_rows letter width table none nothing =
    let zero_wide : width ≡ 0 = omega arith in
    rw (zero_wide, div-zero (length table)) nothing

module _ {letter : List ℕ} {width : ℕ} {table : List ℕ} {at : ℕ} {buffer : List ℕ} {left : List ℕ} {count end : ℕ} {buffer' : List ℕ}
    (so_far : RowsPut letter width table at buffer left count end buffer')
  where
    -- how many numbers are left
    left_long : width * count + length left ≡ length table
    left_long = rw so_far.left_is (omega (arith, length-drop (width * count) table, so_far.within))

    -- one row more
    pub row_more :
        (row left' : List ℕ) {end' : ℕ} {buffer'' : List ℕ} → left ≡ row ++ left' → length row ≡ width →
        Put (text_line letter ((count + 1) ∷ row)) end buffer' end' buffer'' → RowsPut letter width table at buffer left' (count + 1) end' buffer''
    unfolding rows_text
    row_more row left' parts long next =
        let front : take width (drop (width * count) table) ≡ row = rw (← so_far.left_is, parts) (take_at row left' width long) in
        record {
          left_is =
              sym (drop_at row left' width long)
              ∙ ap (drop width) (sym parts ∙ so_far.left_is)
              ∙ drop-drop width (width * count) table
              ∙ ap (λ (n : ℕ). drop n table) (omega arith);
          within = omega (arith, left_long, ap length parts, length-append row left', long);
          stands = rw (add-one count, front) (put_then so_far.stands (rw (add-one count) at next));
        }

    -- no row is left
    pub rows_all : 0 < width → length left < width → Put (table_text letter width table) at buffer end buffer'
    rows_all some few =
        let all : length table / width ≡ count = div-eq_of_lt-le width (omega (arith, so_far.within, mul_comm width count)) (omega (arith, left_long, few, mul_comm width count)) in
        rw all so_far.stands
