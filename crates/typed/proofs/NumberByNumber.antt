-- The loop that lists the numbers of a text: laws of its turn and of its end.
use Prim.Native.Nat.{ℕ, ◌+◌, ◌≤◌, ◌<◌}
use mathlib.Core.Path.{◌≡◌, refl, sym, ◌∙◌}
use mathlib.Core.Bool.{Bool, true, false, cond}
use mathlib.Core.List.{List, [], ◌++◌, append_assoc, append-nil}
use native.Mathlib.Omega.{arith}
use Rattle.std.specs.Prelude.{Option}
use Rattle.std.specs.Option.{option_to_list}
use lib.ListN.{length, get_or, drop, length-append, drop_of_length-le}
use Rattle.typed.specs.Text.{State, between, is_digit, after, ending, ended_by, numbers_from, numbers_in}
use Rattle.typed.specs.Promises.{list_with}
use Rattle.typed.specs.Inside.{AllListed, one_listed, ending_listed, ended_listed}
use Rattle.typed.proofs.AsManyStarts.{byte_turn, starts_or_ends}
use Rattle.typed.proofs.NextByte.{next_byte}
use Rattle.typed.proofs.Listing.{listed_none, one_listed_lem, ending_listed_lem}

-- ---- no more numbers than bytes
-- a byte ends a number, or one may go on behind it
pub ended_room : (state : State) (byte : ℕ) → length (ended_by state byte) + length (ending (after state byte)) ≤ length (ending state) + 1
ended_room state byte = omega (arith, byte_turn state byte 0, starts_or_ends state byte 0)

-- a byte ends no more numbers than the text's end would
ended_few : (state : State) (byte : ℕ) → length (ended_by state byte) ≤ length (ending state)
ended_few state byte = by_kind (is_digit byte)
  where
    by_kind : (d : Bool) → length (cond d [] (ending state)) ≤ length (ending state)
    by_kind true = omega arith
    by_kind false = omega arith

-- ---- the number that a byte ends
pub ended_listed_lem :
    (state : State) (byte : ℕ) (numbers list : List ℕ) →
    ended_listed state byte (list_with numbers list) (length numbers) ≡ list_with (numbers ++ ended_by state byte) list
ended_listed_lem state byte numbers list = by_kind (is_digit byte)
  where
    by_kind : (d : Bool) → cond d (list_with numbers list) (ending_listed state (list_with numbers list) (length numbers)) ≡ list_with (numbers ++ cond d [] (ending state)) list
    by_kind true = rw (append-nil numbers) refl
    by_kind false = ending_listed_lem state numbers list

-- ---- the loop: the numbers that ended so far are counted and listed
pub record SoFarListed (text list : List ℕ) (list' : List ℕ) (state : State) (count i : ℕ) : Type 0 where
  pub inside : i ≤ length text
  pub few : count + length (ending state) ≤ i
  pub done : List ℕ
  pub numbers_are : numbers_in text ≡ done ++ numbers_from state (drop i text)
  pub counted : count ≡ length done
  pub written : list' ≡ list_with done list

-- before the first turn there is none
pub none_listed : (text list : List ℕ) → SoFarListed text list list between 0 0
none_listed text list = record {
  inside = omega arith;
  few = omega arith;
  done = [];
  numbers_are = refl;
  counted = refl;
  written = sym (listed_none list);
}

module _ {text list list' : List ℕ} {state : State} {count i : ℕ} (so_far : SoFarListed text list list' state count i) where
  -- there are few enough to count on
  pub ended_within : (number : Option ℕ) → option_to_list number ≡ ended_by state (get_or text i 0) → count + length (option_to_list number) ≤ i
  ended_within number is = rw is (omega (arith, so_far.few, ended_few state (get_or text i 0)))

  pub ending_within : (number : Option ℕ) → option_to_list number ≡ ending state → count + length (option_to_list number) ≤ i
  ending_within number is = rw is so_far.few

  -- with one number more, or none
  one_counted : (number : Option ℕ) {numbers : List ℕ} {count' : ℕ} → option_to_list number ≡ numbers → count' ≡ count + length (option_to_list number) → count' ≡ length (so_far.done ++ numbers)
  one_counted number is counts = rw (← is) (omega (arith, counts, so_far.counted, length-append so_far.done (option_to_list number)))

  one_written :
      (number : Option ℕ) {numbers list'' : List ℕ} → option_to_list number ≡ numbers → list'' ≡ one_listed number list' count → list'' ≡ list_with (so_far.done ++ numbers) list
  one_written number is writes = writes ∙ rw (so_far.written, so_far.counted, ← is) (one_listed_lem number so_far.done list)

  -- with one byte more
  pub byte_listed :
      i < length text → (number : Option ℕ) (count' : ℕ) (list'' : List ℕ) →
      let byte : ℕ = get_or text i 0 in
      option_to_list number ≡ ended_by state byte → count' ≡ count + length (option_to_list number) → list'' ≡ one_listed number list' count →
      SoFarListed text list list'' (after state byte) count' (i + 1)
  unfolding numbers_from
  byte_listed more number count' list'' is counts writes =
      let byte : ℕ = get_or text i 0 in
      let counted = one_counted number is counts in
      record {
        inside = omega arith;
        few = omega (arith, so_far.few, so_far.counted, counted, length-append so_far.done (ended_by state byte), ended_room state byte);
        done = so_far.done ++ ended_by state byte;
        numbers_are =
            so_far.numbers_are
            ∙ rw (next_byte text i more) (sym (append_assoc so_far.done (ended_by state byte) (numbers_from (after state byte) (drop (i + 1) text))));
        counted = counted;
        written = one_written number is writes;
      }

  -- no byte is left, and the text's end may end a number
  pub end_listed :
      length text ≤ i → (number : Option ℕ) (count' : ℕ) (list'' : List ℕ) → option_to_list number ≡ ending state → count' ≡ count + length (option_to_list number) →
      list'' ≡ one_listed number list' count → AllListed text list count' list''
  unfolding numbers_from
  end_listed all number count' list'' is counts writes =
      let whole : numbers_in text ≡ so_far.done ++ ending state = so_far.numbers_are ∙ rw (drop_of_length-le text all) refl in
      record { counted = rw whole (one_counted number is counts); written = rw whole (one_written number is writes) }
