-- Rows of one length in a table of bytes: the loop that writes them one after another.
use Prim.Native.Nat.{ℕ, ◌+◌, ◌*◌, ◌≤◌, ◌<◌}
use mathlib.Core.Path.{◌≡◌, refl, sym, ap, ◌∙◌}
use mathlib.Core.List.{List, ◌++◌, flat_map}
use native.Mathlib.Nat.{mul-le-mul_left, div-mul-le_self}
use native.Mathlib.Omega.{arith}
use lib.ListN.{length, take, drop, get_or}
use lib.Seq.{take-length}
use Rattle.period.proofs.RowsWritten.{Writing, writing_start, writing_room, writing_on, writing_end, rows_on, first_rows}
use Rattle.plain.specs.Bytes.{number_bytes, eight_bytes, bytes_overwritten, WriteRowPromise}
use Rattle.plain.proofs.NumbersInBytes.{length_all, bytes_of_both, row_there}
use Rattle.tables.specs.Rows.{rows_there}

module _ {A : Type 0} (row : A → List ℕ) (all : List A) where
  -- the bytes of the rows of its first
  abbrev pub first_bytes : ℕ → List ℕ
  first_bytes count = flat_map eight_bytes (first_rows row all count)

  module _ (numbers : ℕ) {entry : List ℕ} where
    -- none are written, and there is room for all
    pub bytes_start : length all ≤ rows_there numbers entry → Writing (number_bytes * numbers) first_bytes (length all) entry entry 0
    unfolding flat_map
    bytes_start few =
        let bytes : ℕ = number_bytes * numbers in
        writing_start bytes first_bytes (length all) entry (omega (arith, mul-le-mul_left bytes few, div-mul-le_self (length entry) bytes)) refl

  module _ (numbers : ℕ) {entry table : List ℕ} {k : ℕ} (w : Writing (number_bytes * numbers) first_bytes (length all) entry table k) where
    -- those of one more row are
    pub bytes_on :
        k < length all → (one : A) {written : List ℕ} → one ≡ get_or all k one → written ≡ row one → length written ≡ numbers →
        (at : ℕ) → at ≡ number_bytes * numbers * k → (table' : List ℕ) → WriteRowPromise written at table table' →
        Writing (number_bytes * numbers) first_bytes (length all) entry table' (k + 1)
    bytes_on more one {written} there is long at here table' promised =
        let sized : length (flat_map eight_bytes written) ≡ number_bytes * numbers = length_all written ∙ ap (λ (n : ℕ). number_bytes * n) long in
        let next = rows_on row all one k more ∙ ap (λ (l : List ℕ). first_rows row all k ++ l) (ap row (sym there) ∙ sym is) in
        writing_on w more (flat_map eight_bytes written) table' sized
        (ap (flat_map eight_bytes) next ∙ bytes_of_both (first_rows row all k) written)
        (row_there table (number_bytes * numbers * k) written table' (omega (arith, long, writing_room w more)) (rw here at promised)
        ∙ ap (λ (n : ℕ). take (number_bytes * numbers * k) table ++ flat_map eight_bytes written ++ drop (number_bytes * numbers * k + number_bytes * n) table) long)

    -- all are
    pub bytes_end : length all ≤ k → table ≡ bytes_overwritten (flat_map row all) entry
    bytes_end done =
        let here : k ≡ length all = omega (arith, w.within) in
        writing_end w done
        ∙ ap (λ (n : ℕ). first_bytes (length all) ++ drop n entry) (sym (rw here at w.sized) ∙ length_all (first_rows row all (length all)))
        ∙ ap (λ (l : List A). bytes_overwritten (flat_map row l) entry) (take-length all)
