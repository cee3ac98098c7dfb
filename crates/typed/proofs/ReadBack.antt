-- The numbers of a text are read back from the list that they were written into.
use Prim.Native.Nat.{ℕ, zero, suc, ◌+◌, ◌*◌, ◌/◌, ◌^◌, ◌≤◌, ◌<◌}
use mathlib.Core.Path.{◌≡◌, refl, sym, ap, ◌∙◌}
use mathlib.Core.List.{List, [], ◌∷◌, ◌++◌, append_assoc, flat_map}
use native.Mathlib.Omega.{arith}
use lib.ListN.{length, get_or, take, drop, length-take}
use lib.Seq.{take_all, take_at, drop_at, drop-drop, get_or-take}
use Rattle.plain.specs.Bytes.{number_bytes, whole_numbers, eight_bytes, value_of, first_numbers, table_numbers}
use Rattle.plain.proofs.EightBytes.{length_bytes, value_of_eight, table_at}
use Rattle.typed.specs.Text.{numbers_in}
use Rattle.typed.specs.Promises.{list_with}
use Rattle.plain.proofs.NumbersInBytes.{length_all}
use Rattle.typed.proofs.Listing.{listed_length}
use Rattle.typed.proofs.WithinLimit.{numbers_fit}

-- the eight bytes of the number at an index
eight_at :
    (numbers rest : List ℕ) (index : ℕ) → index < length numbers →
    take number_bytes (drop (number_bytes * index) (flat_map eight_bytes numbers ++ rest)) ≡ eight_bytes (get_or numbers index 0)
unfolding flat_map
eight_at [] rest index below = absurd (omega (arith, below))
eight_at (number ∷ numbers) rest zero below =
    rw (append_assoc (eight_bytes number) (flat_map eight_bytes numbers) rest)
    (take_at (eight_bytes number) (flat_map eight_bytes numbers ++ rest) number_bytes (length_bytes number_bytes number))
eight_at (number ∷ numbers) rest (suc index) below =
    let further : number_bytes * suc index ≡ number_bytes + number_bytes * index = omega arith in
    let behind : drop (number_bytes * suc index) (eight_bytes number ++ (flat_map eight_bytes numbers ++ rest)) ≡ drop (number_bytes * index) (flat_map eight_bytes numbers ++ rest) =
    ap (λ (n : ℕ). drop n (eight_bytes number ++ (flat_map eight_bytes numbers ++ rest))) further
    ∙ sym (drop-drop (number_bytes * index) number_bytes (eight_bytes number ++ (flat_map eight_bytes numbers ++ rest)))
    ∙ ap (drop (number_bytes * index)) (drop_at (eight_bytes number) (flat_map eight_bytes numbers ++ rest) number_bytes (length_bytes number_bytes number)) in
    rw (append_assoc (eight_bytes number) (flat_map eight_bytes numbers) rest, behind) (eight_at numbers rest index (omega (arith, below)))

-- each that has room in the list, and fits 64 bits, is the one at its index
listed_at :
    (numbers list : List ℕ) (index : ℕ) → index < whole_numbers list → index < length numbers → get_or numbers index 0 < 2 ^ 64 →
    get_or (table_numbers (list_with numbers list)) index 0 ≡ get_or numbers index 0
listed_at numbers list index room below small =
    let first : List ℕ = take (whole_numbers list) numbers in
    table_at (list_with numbers list) index (omega (arith, room, listed_length numbers list))
    ∙ ap value_of
    (eight_at first (drop (number_bytes * length first) list) index (omega (arith, room, below, length-take (whole_numbers list) numbers))
    ∙ ap eight_bytes (get_or-take (whole_numbers list) numbers index 0 room))
    ∙ value_of_eight (get_or numbers index 0) small

-- Each number of a text that has room in the list is the one that the list has at its index (rules 10.5 and 16.2).
pub text_read_back :
    (text list : List ℕ) (index : ℕ) → index < whole_numbers list → index < length (numbers_in text) →
    get_or (table_numbers (list_with (numbers_in text) list)) index 0 ≡ get_or (numbers_in text) index 0
text_read_back text list index room below = listed_at (numbers_in text) list index room below (numbers_fit text index)

-- ---- all of them
-- numbers that fit 64 bits are those of their own bytes
all_back : (numbers : List ℕ) → ((index : ℕ) → get_or numbers index 0 < 2 ^ 64) → first_numbers (length numbers) (flat_map eight_bytes numbers) ≡ numbers
unfolding first_numbers flat_map
all_back [] fit = refl
all_back (number ∷ numbers) fit =
    let rest : List ℕ = flat_map eight_bytes numbers in
    rw (
      take_at (eight_bytes number) rest number_bytes (length_bytes number_bytes number),
      drop_at (eight_bytes number) rest number_bytes (length_bytes number_bytes number),
      value_of_eight number (fit 0),
      all_back numbers (λ index. fit (suc index)),
    )
    refl

-- A list that has room for all numbers of a text has them at its start (rules 10.5 and 16.2).
pub all_read_back :
    (text list : List ℕ) → length (numbers_in text) ≤ whole_numbers list →
    table_numbers (take (number_bytes * length (numbers_in text)) (list_with (numbers_in text) list)) ≡ numbers_in text
all_read_back text list room =
    let numbers : List ℕ = numbers_in text in
    let bytes : List ℕ = flat_map eight_bytes numbers in
    let front : take (number_bytes * length numbers) (list_with numbers list) ≡ bytes =
    rw (take_all (whole_numbers list) numbers room) (take_at bytes (drop (number_bytes * length numbers) list) (number_bytes * length numbers) (length_all numbers)) in
    let as_many : length bytes / number_bytes ≡ length numbers = omega (arith, length_all numbers) in
    ap table_numbers front ∙ ap (λ (n : ℕ). first_numbers n bytes) as_many ∙ all_back numbers (numbers_fit text)
