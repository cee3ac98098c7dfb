-- A table of bytes, read as numbers: what is written is read back, and numbers that are written over its bytes are written over its numbers.
use Prim.Native.Nat.{ℕ, zero, suc, ◌+◌, ◌-◌, ◌*◌, ◌/◌, ◌≤◌}
use mathlib.Core.Path.{◌≡◌, ap, ◌∙◌}
use mathlib.Core.List.{List, [], ◌∷◌, ◌++◌, append_assoc, flat_map}
use native.Mathlib.Nat.{div-mul-le_self}
use native.Mathlib.Omega.{arith}
use lib.ListN.{length, drop, length-append, length-drop}
use lib.Seq.{take_at, drop_at, drop-drop}
use Rattle.accounts.specs.RowsAndColumns.{Entries}
use Rattle.period.specs.Written.{overwritten}
use Rattle.plain.specs.Bytes.{number_bytes, whole_numbers, eight_bytes, first_numbers, table_numbers, bytes_overwritten}
use Rattle.plain.proofs.EightBytes.{length_bytes, value_of_eight}
use Rattle.plain.proofs.NumbersInBytes.{length_all}

-- ---- a table
-- those that are written at its start come first, and then the numbers of what stands behind them
numbers_in_front :
    (numbers behind : List ℕ) (left count : ℕ) → Entries numbers → length numbers + left ≡ count →
    first_numbers count (flat_map eight_bytes numbers ++ behind) ≡ numbers ++ first_numbers left behind
unfolding first_numbers flat_map
numbers_in_front [] behind left count fit is = let all : count ≡ left = omega (arith, is) in rw all
numbers_in_front (number ∷ numbers) behind left zero fit is = absurd (omega (arith, is))
numbers_in_front (number ∷ numbers) behind left (suc count) fit is =
    let rest : List ℕ = flat_map eight_bytes numbers ++ behind in
    let eight = length_bytes number_bytes number in
    rw (
      append_assoc (eight_bytes number) (flat_map eight_bytes numbers) behind,
      take_at (eight_bytes number) rest number_bytes eight,
      drop_at (eight_bytes number) rest number_bytes eight,
      value_of_eight number (fit 0),
    )
    (ap (λ (l : List ℕ). number ∷ l) (numbers_in_front numbers behind left count (λ i. fit (suc i)) (omega (arith, is))))

-- the numbers behind the first n
numbers_behind :
    (n left count : ℕ) (table : List ℕ) → n + left ≡ count →
    first_numbers left (drop (number_bytes * n) table) ≡ drop n (first_numbers count table)
unfolding first_numbers
numbers_behind zero left count table is = let all : count ≡ left = omega (arith, is) in rw all
numbers_behind (suc n) left zero table is = absurd (omega (arith, is))
numbers_behind (suc n) left (suc count) table is =
    let further : number_bytes * suc n ≡ number_bytes + number_bytes * n = omega arith in
    rw (further, ← drop-drop (number_bytes * n) number_bytes table) (numbers_behind n left count (drop number_bytes table) (omega (arith, is)))

-- so numbers that are written over a table that has room for them are written over its numbers
pub numbers_overwritten :
    (numbers table : List ℕ) → Entries numbers → length numbers ≤ whole_numbers table →
    table_numbers (bytes_overwritten numbers table) ≡ overwritten numbers (table_numbers table)
numbers_overwritten numbers table fit room =
    let n : ℕ = length numbers in
    let count : ℕ = whole_numbers table in
    let left : ℕ = count - n in
    let behind : List ℕ = drop (number_bytes * n) table in
    let same_length : length (bytes_overwritten numbers table) ≡ length table =
    length-append (flat_map eight_bytes numbers) behind
    ∙ omega (arith, room, length_all numbers, length-drop (number_bytes * n) table, div-mul-le_self (length table) number_bytes) in
    ap (λ (bytes : ℕ). first_numbers (bytes / number_bytes) (bytes_overwritten numbers table)) same_length
    ∙ numbers_in_front numbers behind left count fit (omega (arith, room))
    ∙ ap (λ (rest : List ℕ). numbers ++ rest) (numbers_behind n left count table (omega (arith, room)))
