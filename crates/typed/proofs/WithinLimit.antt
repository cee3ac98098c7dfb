-- A run of digits is one number: its decimal value, or some value over the limit if that is over the limit. So every number fits 64 bits.
use Prim.Native.Nat.{ℕ, zero, suc, ◌+◌, ◌-◌, ◌*◌, ◌^◌, ◌≤◌, ◌<◌}
use mathlib.Core.Path.{◌≡◌, refl}
use mathlib.Core.Bool.{Bool, true, false, cond}
use mathlib.Core.List.{List, [], ◌∷◌, ◌++◌, append-nil}
use mathlib.Core.Logic.{◌⊎◌}
use mathlib.Core.Logic.◌⊎◌.{inl, inr}
use native.Mathlib.Omega.{arith}
use lib.Dec.{ltb}
use lib.ListN.{get_or}
use borrow.Author.Tests.{ltb-true, ltb-false, lt-ltb}
use Rattle.number.specs.Groups.{largest}
use Rattle.typed.specs.Text.{State, between, within, remark, first_digit, last_digit, decimal_base, is_digit, starts_remark, ends_line, grown, opened, after, ending, numbers_from, numbers_in}
use Rattle.typed.proofs.Digits.{digit_bounds}

-- ---- the decimal value of digits, however large
-- each byte is a digit
pub data AreDigits : List ℕ → Type 0 where
  none : AreDigits []
  more : {byte : ℕ} {digits : List ℕ} → is_digit byte ≡ true → AreDigits digits → AreDigits (byte ∷ digits)

-- their value, behind digits that have a value
unfoldable pub decimal_behind : (before : ℕ) (digits : List ℕ) → ℕ
decimal_behind before [] = before
decimal_behind before (byte ∷ digits) = decimal_behind (decimal_base * before + (byte - first_digit)) digits

-- a value is exact, or both are over the limit
abbrev pub ExactOrOver : (value exact : ℕ) → Type 0
ExactOrOver value exact = (value ≡ exact) ⊎ ((largest < value) × (largest < exact))

-- it stays so with one digit more
grown_exact : (value exact byte : ℕ) → ExactOrOver value exact → ExactOrOver (grown value byte) (decimal_base * exact + (byte - first_digit))
grown_exact value exact byte (inr over) = rw (lt-ltb largest value over.0) (inr (over.0, omega (arith, over.1)))
grown_exact value exact byte (inl same) = by_limit (ltb largest value) refl
  where
    by_limit : (t : Bool) → ltb largest value ≡ t → ExactOrOver (grown value byte) (decimal_base * exact + (byte - first_digit))
    by_limit true over = rw over (inr (ltb-true largest value over, omega (arith, ltb-true largest value over)))
    by_limit false small = rw (small, same) (inl refl)

-- what a run of digits is read as
pub record OneNumber (numbers : List ℕ) (exact : ℕ) : Type 0 where
  pub value : ℕ
  pub only : numbers ≡ value ∷ []
  pub as_typed : ExactOrOver value exact

digits_within : (value exact : ℕ) (digits : List ℕ) → ExactOrOver value exact → AreDigits digits → OneNumber (numbers_from (within value) digits) (decimal_behind exact digits)
unfolding numbers_from after decimal_behind
digits_within value exact [] same none = record { value = value; only = refl; as_typed = same }
digits_within value exact (byte ∷ digits) same (more is others) =
    rw is (digits_within (grown value byte) (decimal_base * exact + (byte - first_digit)) digits (grown_exact value exact byte same) others)

-- A run of digits is read as its decimal value; if that is over the limit, as some value over the limit (rule 16.2).
pub digits_read : (byte : ℕ) (digits : List ℕ) → AreDigits (byte ∷ digits) → OneNumber (numbers_in (byte ∷ digits)) (decimal_behind 0 (byte ∷ digits))
unfolding numbers_from after decimal_behind
digits_read byte digits (more is others) =
    rw is (digits_within (grown 0 byte) (decimal_base * 0 + (byte - first_digit)) digits (grown_exact 0 0 byte (inl refl)) others)

-- ---- no value is much over the limit
-- the most that one digit more makes of a value within it
abbrev pub most_typed : ℕ
most_typed = decimal_base * largest + (last_digit - first_digit)

-- a state's value is no more
abbrev Small : State → Type 0
Small between = 0 ≤ most_typed
Small (within value) = value ≤ most_typed
Small remark = 0 ≤ most_typed

grown_small : (value byte : ℕ) → value ≤ most_typed → is_digit byte ≡ true → grown value byte ≤ most_typed
grown_small value byte small is = by_limit (ltb largest value) refl
  where
    by_limit : (t : Bool) → ltb largest value ≡ t → grown value byte ≤ most_typed
    by_limit true over = rw over small
    by_limit false within_it = rw within_it (omega (arith, ltb-false largest value within_it, digit_bounds byte is))

-- so it stays from byte to byte
opened_small : (value byte : ℕ) → value ≤ most_typed → Small (opened value byte)
opened_small value byte small = by_kind (is_digit byte) (starts_remark byte) refl refl
  where
    by_kind : (d r : Bool) → is_digit byte ≡ d → starts_remark byte ≡ r → Small (opened value byte)
    by_kind true r is starts = rw is (grown_small value byte small is)
    by_kind false true is starts = rw (is, starts) (omega arith)
    by_kind false false is starts = rw (is, starts) (omega arith)

after_small : (state : State) (byte : ℕ) → Small state → Small (after state byte)
unfolding after
after_small between byte small = opened_small 0 byte (omega arith)
after_small (within value) byte small = opened_small value byte small
after_small remark byte small = by_kind (ends_line byte)
  where
    by_kind : (l : Bool) → Small (cond l between remark)
    by_kind true = omega arith
    by_kind false = omega arith

-- every number of a list is no more
abbrev AllSmall : List ℕ → Type 0
AllSmall numbers = (index : ℕ) → get_or numbers index 0 ≤ most_typed

none_small : AllSmall []
none_small zero = omega arith
none_small (suc index) = omega arith

ending_small : (state : State) (numbers : List ℕ) → Small state → AllSmall numbers → AllSmall (ending state ++ numbers)
ending_small between numbers small others index = others index
ending_small (within value) numbers small others zero = small
ending_small (within value) numbers small others (suc index) = others index
ending_small remark numbers small others index = others index

numbers_small : (state : State) (text : List ℕ) → Small state → AllSmall (numbers_from state text)
unfolding numbers_from
numbers_small state [] small =
    rw (append-nil (ending state)) at (ending_small state [] small none_small)
numbers_small state (byte ∷ text) small = by_kind (is_digit byte) (numbers_small (after state byte) text (after_small state byte small))
  where
    by_kind : (d : Bool) → AllSmall (numbers_from (after state byte) text) → AllSmall (cond d [] (ending state) ++ numbers_from (after state byte) text)
    by_kind true others = others
    by_kind false others = ending_small state (numbers_from (after state byte) text) small others

-- Every number of a text fits 64 bits (rule 16.2).
pub numbers_fit : (text : List ℕ) (index : ℕ) → get_or (numbers_in text) index 0 < 2 ^ 64
numbers_fit text index = omega (arith, numbers_small between text (omega arith) index)
