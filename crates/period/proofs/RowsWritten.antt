-- Writing rows of one length into a table, one after another: the loop that does, with one law for its start, a turn, and its end.
use Prim.Native.Nat.{ℕ, suc, ◌+◌, ◌-◌, ◌*◌, ◌≤◌, ◌<◌}
use mathlib.Core.Path.{◌≡◌, refl, sym, ap, ◌∙◌}
use mathlib.Core.List.{List, [], ◌∷◌, ◌++◌, append_assoc, append-nil, flat_map}
use native.Mathlib.Nat.{mul-le-mul_left, mul-zero}
use native.Mathlib.Numerals.{add-one}
use native.Mathlib.Omega.{arith}
use lib.ListN.{length, take, drop, get_or, length-append}
use borrow.Rule.Slice.PartMut.{put_mid}
use lib.Seq.{take-length, take-suc, take_at, drop_at, drop-drop, length_front, length-take-le}
use Rattle.std.proofs.lemmas.Slice.{put_mid-paste}

-- ---- rows of n numbers, one behind another
module _ (n : ℕ) (rows : ℕ → List ℕ) (count : ℕ) (entry : List ℕ) where
  -- k of all rows are written, and behind them the table is as it was
  pub record Writing (table : List ℕ) (k : ℕ) : Type 0 where
    pub enough : n * count ≤ length entry
    pub within : k ≤ count
    pub sized : length (rows k) ≡ n * k
    pub so_far : table ≡ rows k ++ drop (n * k) entry

  -- none is written
  pub writing_start : n * count ≤ length entry → rows 0 ≡ [] → Writing entry 0
  writing_start enough none =
      record { enough = enough; within = omega arith; sized = rw (none, mul-zero); so_far = rw (none, mul-zero) }

module _ {n : ℕ} {rows : ℕ → List ℕ} {count : ℕ} {entry table : List ℕ} {k : ℕ} (w : Writing n rows count entry table k) where
  -- the table stays as long as it was
  pub writing_length : length table ≡ length entry
  writing_length =
      let done : n * k ≤ length entry = omega (arith, mul-le-mul_left n w.within) in
      ap length w.so_far ∙ length_front entry (rows k) (n * k) (w.sized ∙ sym (length-take-le (n * k) entry done))

  -- there is room for one more row
  pub writing_room : k < count → n * k + n ≤ length table
  writing_room more = omega (arith, mul-le-mul_left n more, writing_length)

  -- one more row is written
  pub writing_on :
      k < count → (row table' : List ℕ) → length row ≡ n → rows (suc k) ≡ rows k ++ row →
      table' ≡ take (n * k) table ++ row ++ drop (n * k + n) table → Writing n rows count entry table' (k + 1)
  writing_on more row table' long next written =
      let one_more : n * suc k ≡ n * k + n = omega arith in
      let before : take (n * k) table ≡ rows k = rw w.so_far (take_at (rows k) (drop (n * k) entry) (n * k) w.sized) in
      let behind : drop (n * k) table ≡ drop (n * k) entry = rw w.so_far (drop_at (rows k) (drop (n * k) entry) (n * k) w.sized) in
      rw add-one (record {
        enough = w.enough;
        within = more;
        sized = rw (next, length-append, long, w.sized, one_more);
        so_far = rw (next, one_more, ← drop-drop n (n * k) entry, ← behind, ← before, drop-drop) written;
      })

  -- the same by what a write to its part of the table leaves
  pub writing_part :
      k < count → (row : List ℕ) → length row ≡ n → rows (suc k) ≡ rows k ++ row → Writing n rows count entry (put_mid (n * k) (n * k + n - n * k) table row) (k + 1)
  writing_part more row long next =
      writing_on more row _ long next
      (put_mid-paste (n * k) (n * k + n - n * k) table row row n refl (omega arith) (sym long)
      ∙ ap (λ (l : List ℕ). take (n * k) table ++ l ++ drop (n * k + n) table) (rw (← long) (take-length row)))

  -- all are written
  pub writing_end : count ≤ k → table ≡ rows count ++ drop (n * count) entry
  writing_end all = let here : k ≡ count = omega arith in rw here at w.so_far

-- ---- rows as long as each other, by what they are made of
pub flat_length : {A : Type 0} (row : A → List ℕ) (n : ℕ) → ((x : A) → length (row x) ≡ n) → (all : List A) → length (flat_map row all) ≡ n * length all
unfolding flat_map
flat_length row n long [] = rw mul-zero
flat_length row n long (x ∷ all) = length-append (row x) (flat_map row all) ∙ omega (arith, long x, flat_length row n long all)

-- those of one more come last
flat_last : {A : Type 0} (row : A → List ℕ) (all : List A) (x : A) → flat_map row (all ++ (x ∷ [])) ≡ flat_map row all ++ row x
unfolding flat_map
flat_last row [] x = append-nil (row x)
flat_last row (y ∷ all) x = ap (λ (l : List ℕ). row y ++ l) (flat_last row all x) ∙ sym (append_assoc (row y) (flat_map row all) (row x))

pub rows_on :
    {A : Type 0} (row : A → List ℕ) (all : List A) (none : A) (k : ℕ) → k < length all →
    flat_map row (take (suc k) all) ≡ flat_map row (take k all) ++ row (get_or all k none)
rows_on row all none k below = ap (flat_map row) (take-suc all k none below) ∙ flat_last row (take k all) (get_or all k none)

-- ---- the rows of a list
module _ {A : Type 0} (row : A → List ℕ) (all : List A) where
  -- those of its first
  abbrev pub first_rows : ℕ → List ℕ
  first_rows count = flat_map row (take count all)

  module _ {n : ℕ} {entry table : List ℕ} {k : ℕ} (w : Writing n first_rows (length all) entry table k) where
    -- one more is written
    pub row_written :
        k < length all → (one : A) {numbers : List ℕ} → one ≡ get_or all k one → numbers ≡ row one → length numbers ≡ n →
        Writing n first_rows (length all) entry (put_mid (n * k) (n * k + n - n * k) table numbers) (k + 1)
    row_written more one there is long =
        writing_part w more _ long (rows_on row all one k more ∙ ap (λ (l : List ℕ). first_rows k ++ l) (ap row (sym there) ∙ sym is))

    -- all are
    pub rows_end : length all ≤ k → table ≡ flat_map row all ++ drop (n * length all) entry
    rows_end done = writing_end w done ∙ ap (λ (l : List _). flat_map row l ++ drop (n * length all) entry) (take-length all)
