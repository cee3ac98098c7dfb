-- Numbers in a list of plain ones: one more behind others, as far as there is room.
use Prim.Native.Nat.{ℕ, ◌+◌, ◌*◌, ◌≤◌, ◌<◌}
use mathlib.Core.Path.{◌≡◌, refl, sym, ap, ◌∙◌}
use mathlib.Core.List.{List, [], ◌∷◌, ◌++◌, append-nil, flat_map}
use native.Mathlib.Decide.{dec_lt}
use native.Mathlib.Omega.{arith}
use Rattle.std.specs.Prelude.{Option, Some, None}
use Rattle.std.specs.Option.{option_to_list}
use lib.ListN.{length, take, drop, length-append, length-take, length-drop}
use lib.Seq.{take-nil, take_all, take-append-le, take_at, drop_at, drop-drop}
use borrow.Author.Tests.{lt-leb}
use Rattle.plain.specs.Bytes.{number_bytes, whole_numbers, eight_bytes, bytes_overwritten, plain_written}
use Rattle.plain.proofs.EightBytes.{written_between}
use Rattle.plain.proofs.NumbersInBytes.{length_all, bytes_last}
use Rattle.typed.specs.Text.{State, between, within, remark, ending}
use Rattle.typed.specs.Promises.{list_with}
use Rattle.typed.specs.Inside.{one_listed, ending_listed}

-- ---- numbers written over a list that has room for them
overwritten_length : (numbers list : List ℕ) → length numbers ≤ whole_numbers list → length (bytes_overwritten numbers list) ≡ length list
overwritten_length numbers list fits =
    length-append (flat_map eight_bytes numbers) (drop (number_bytes * length numbers) list)
    ∙ omega (arith, length_all numbers, length-drop (number_bytes * length numbers) list)

-- one more is written behind them
overwritten_on :
    (numbers list : List ℕ) (number : ℕ) → length numbers < whole_numbers list →
    plain_written (bytes_overwritten numbers list) (number_bytes * length numbers) number ≡ bytes_overwritten (numbers ++ (number ∷ [])) list
overwritten_on numbers list number fits =
    let front : List ℕ = flat_map eight_bytes numbers in
    let at : ℕ = number_bytes * length numbers in
    let back : List ℕ = drop at list in
    let one_on : at + number_bytes ≡ number_bytes * length (numbers ++ (number ∷ [])) = omega (arith, length-append numbers (number ∷ [])) in
    let behind : drop (at + number_bytes) (front ++ back) ≡ drop (number_bytes * length (numbers ++ (number ∷ []))) list =
    sym (drop-drop number_bytes at (front ++ back))
    ∙ ap (drop number_bytes) (drop_at front back at (length_all numbers))
    ∙ drop-drop number_bytes at list
    ∙ ap (λ (n : ℕ). drop n list) one_on in
    written_between (front ++ back) at number (omega (arith, overwritten_length numbers list (omega (arith, fits))))
    ∙ rw (take_at front back at (length_all numbers), behind, bytes_last numbers number) refl

-- ---- as many as there is room for
pub listed_length : (numbers list : List ℕ) → length (list_with numbers list) ≡ length list
listed_length numbers list =
    overwritten_length (take (whole_numbers list) numbers) list (omega (arith, length-take (whole_numbers list) numbers))

-- none leaves the list as it is
pub listed_none : (list : List ℕ) → list_with [] list ≡ list
unfolding flat_map
listed_none list = rw (take-nil (whole_numbers list)) refl

-- one more
listed_on :
    (numbers list : List ℕ) (number : ℕ) → plain_written (list_with numbers list) (number_bytes * length numbers) number ≡ list_with (numbers ++ (number ∷ [])) list
listed_on numbers list number = by_room (dec_lt (length numbers) (whole_numbers list))
  where
    by_room : Dec (length numbers < whole_numbers list) → plain_written (list_with numbers list) (number_bytes * length numbers) number ≡ list_with (numbers ++ (number ∷ [])) list
    by_room (yes room) =
        rw (
          take_all (whole_numbers list) numbers (omega arith),
          take_all (whole_numbers list) (numbers ++ (number ∷ [])) (omega (arith, length-append numbers (number ∷ []))),
        )
        (overwritten_on numbers list number room)
    by_room (no none) =
        rw (
          take-append-le (whole_numbers list) numbers (number ∷ []) (omega (arith, none)),
          lt-leb (number_bytes * length numbers + number_bytes) (length (list_with numbers list)) (omega (arith, none, listed_length numbers list)),
        )
        refl

-- a number, if there is one
pub one_listed_lem : (number : Option ℕ) (numbers list : List ℕ) → one_listed number (list_with numbers list) (length numbers) ≡ list_with (numbers ++ option_to_list number) list
one_listed_lem None numbers list = rw (append-nil numbers) refl
one_listed_lem (Some number) numbers list = listed_on numbers list number

-- the number that a state is within, if there is one
pub ending_listed_lem : (state : State) (numbers list : List ℕ) → ending_listed state (list_with numbers list) (length numbers) ≡ list_with (numbers ++ ending state) list
ending_listed_lem between = one_listed_lem None
ending_listed_lem (within value) = one_listed_lem (Some value)
ending_listed_lem remark = one_listed_lem None
