-- Numbers as bytes in a table: how many there are, and one number more behind others.
use Prim.Native.Nat.{ℕ, ◌+◌, ◌*◌, ◌≤◌, ◌<◌}
use mathlib.Core.Path.{◌≡◌, refl, sym, ap, ◌∙◌}
use mathlib.Core.List.{List, [], ◌∷◌, ◌++◌, append_assoc, append-nil, flat_map}
use native.Mathlib.Numerals.{add-one}
use native.Mathlib.Omega.{arith}
use lib.ListN.{length, take, drop, get_or, length-append, take-append-drop}
use lib.Seq.{sets, take-suc, take-length, take_at, drop_at, drop-drop, length-take-le}
use borrow.Author.Tests.{le-leb, lt-leb}
use Rattle.std.proofs.lemmas.Grind.{flat_map-append}
use Rattle.plain.specs.Bytes.{number_bytes, eight_bytes, row_between, WriteRowPromise}
use Rattle.plain.proofs.EightBytes.{length_bytes, set_between}

-- ---- numbers, one behind another
-- eight times as many bytes as numbers
pub length_all : (numbers : List ℕ) → length (flat_map eight_bytes numbers) ≡ number_bytes * length numbers
unfolding flat_map
length_all [] = refl
length_all (number ∷ numbers) = length-append (eight_bytes number) (flat_map eight_bytes numbers) ∙ omega (arith, length_bytes number_bytes number, length_all numbers)

-- the bytes of some numbers and of others behind them
pub bytes_of_both : (numbers others : List ℕ) → flat_map eight_bytes (numbers ++ others) ≡ flat_map eight_bytes numbers ++ flat_map eight_bytes others
unfolding flat_map
bytes_of_both = flat_map-append eight_bytes

-- those of one more come last
pub bytes_last : (numbers : List ℕ) (number : ℕ) → flat_map eight_bytes (numbers ++ (number ∷ [])) ≡ flat_map eight_bytes numbers ++ eight_bytes number
unfolding flat_map
bytes_last numbers number = bytes_of_both numbers (number ∷ []) ∙ ap (λ (l : List ℕ). flat_map eight_bytes numbers ++ l) (append-nil (eight_bytes number))

-- ---- the loop that writes a row: so far n of its numbers are written, from a byte of the table on
pub record RowWritten (table : List ℕ) (at : ℕ) (row : List ℕ) (written : List ℕ) (n : ℕ) : Type 0 where
  pub within : n ≤ length row
  pub kept : length written ≡ length table
  pub so_far : written ≡ take at table ++ flat_map eight_bytes (take n row) ++ drop (at + number_bytes * n) table

-- none is written
pub row_start : (table : List ℕ) (at : ℕ) (row : List ℕ) → RowWritten table at row table 0
unfolding flat_map
row_start table at row =
    let same : at + number_bytes * 0 ≡ at = omega arith in
    record {
      within = omega arith;
      kept = refl;
      so_far = sym (rw (same, append-nil) (take-append-drop at table));
    }

module _ {table : List ℕ} {at : ℕ} {row written : List ℕ} {n : ℕ} (w : RowWritten table at row written n) (room : at + number_bytes * length row ≤ length table) where
  -- the bytes before the next number
  abbrev before : List ℕ
  before = take at table ++ flat_map eight_bytes (take n row)

  before_length : length before ≡ at + number_bytes * n
  before_length =
      length-append (take at table) (flat_map eight_bytes (take n row))
      ∙ omega (arith, length-take-le at table (omega (arith, room)), length_all (take n row), length-take-le n row w.within)

  -- there is room for it
  pub row_room : n < length row → at + number_bytes * n + number_bytes ≤ length written
  row_room more = omega (arith, room, w.kept, more)

  -- it is written
  pub row_on :
      n < length row → (written' : List ℕ) → length written' ≡ length written →
      written' ≡ sets written (at + number_bytes * n) (eight_bytes (get_or row n 0)) →
      RowWritten table at row written' (n + 1)
  row_on more written' sized is =
      let there : ℕ = at + number_bytes * n in
      let one_on : there + number_bytes ≡ at + number_bytes * (n + 1) = omega arith in
      let left : take there written ≡ before = ap (take there) w.so_far ∙ take_at before (drop there table) there before_length in
      let right : drop (there + number_bytes) written ≡ drop (at + number_bytes * (n + 1)) table =
      sym (drop-drop number_bytes there written)
      ∙ ap (λ (l : List ℕ). drop number_bytes (drop there l)) w.so_far
      ∙ ap (drop number_bytes) (drop_at before (drop there table) there before_length)
      ∙ drop-drop number_bytes there table
      ∙ ap (λ (k : ℕ). drop k table) one_on in
      let bytes : flat_map eight_bytes (take n row) ++ eight_bytes (get_or row n 0) ≡ flat_map eight_bytes (take (n + 1) row) =
      sym (ap (λ (k : ℕ). flat_map eight_bytes (take k row)) (add-one n) ∙ ap (flat_map eight_bytes) (take-suc row n 0 more) ∙ bytes_last (take n row) (get_or row n 0)) in
      record {
        within = omega arith;
        kept = sized ∙ w.kept;
        so_far =
            is
            ∙ set_between written there (get_or row n 0) (row_room more)
            ∙ ap (λ (l : List ℕ). l ++ eight_bytes (get_or row n 0) ++ drop (there + number_bytes) written) left
            ∙ ap (λ (l : List ℕ). before ++ eight_bytes (get_or row n 0) ++ l) right
            ∙ ap (λ (l : List ℕ). l ++ drop (at + number_bytes * (n + 1)) table) (append_assoc (take at table) (flat_map eight_bytes (take n row)) (eight_bytes (get_or row n 0)))
            ∙ ap (λ (l : List ℕ). take at table ++ l ++ drop (at + number_bytes * (n + 1)) table) bytes;
      }

  -- all are
  pub row_end : length row ≤ n → written ≡ take at table ++ flat_map eight_bytes row ++ drop (at + number_bytes * length row) table
  row_end all =
      let here : n ≡ length row = omega (arith, w.within) in
      w.so_far
      ∙ ap (λ (k : ℕ). take at table ++ flat_map eight_bytes (take k row) ++ drop (at + number_bytes * k) table) here
      ∙ ap (λ (l : List ℕ). take at table ++ flat_map eight_bytes l ++ drop (at + number_bytes * length row) table) (take-length row)

-- ---- the row whole, or nothing
pub row_fits : (table : List ℕ) (at : ℕ) (row table' : List ℕ) → at + number_bytes * length row ≤ length table → table' ≡ row_between table at row → WriteRowPromise row at table table'
row_fits table at row table' room is = is ∙ sym (rw (le-leb (at + number_bytes * length row) (length table) room) refl)

pub row_short : (table : List ℕ) (at : ℕ) (row : List ℕ) → length table < at + number_bytes * length row → WriteRowPromise row at table table
row_short table at row short = sym (rw (lt-leb (at + number_bytes * length row) (length table) short) refl)

-- where there is room, the row stands between what was before and behind it
pub row_there :
    (table : List ℕ) (at : ℕ) (row table' : List ℕ) → at + number_bytes * length row ≤ length table → WriteRowPromise row at table table' → table' ≡ row_between table at row
row_there table at row table' room is = is ∙ rw (le-leb (at + number_bytes * length row) (length table) room) refl
