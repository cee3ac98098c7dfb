-- A number's decimal digits: they read back as the number, only those of 0 itself start with 0, and those that the kit makes are these.
use Prim.Native.Nat.{ℕ, zero, suc, ◌+◌, ◌-◌, ◌*◌, ◌/◌, ◌%◌, ◌^◌, ◌≤◌, ◌<◌}
use mathlib.Core.Path.{◌≡◌, refl, sym, ◌∙◌}
use mathlib.Core.Bool.{Bool, true, false}
use mathlib.Core.List.{List, [], ◌∷◌, ◌++◌}
use native.Mathlib.Nat.{div-add-mod, mod-lt, mod-eq_of_lt, one-le-pow, pow-zero, pow-suc}
use native.Mathlib.Numerals.{unary_clauses}
use native.Mathlib.Omega.{arith}
use lib.Dec.{ltb}
use lib.ListN.{length, get_or, length-append}
use borrow.Author.Tests.{lt-ltb, le-ltb, ltb-true, ltb-false}
use Rattle.io.specs.Digits.{hex_digit_ascii, last_digits, IsDigitCount}
use Rattle.output.specs.Decimal.{ten, digit_zero, digit, most_digits, decimal_within, decimal, read_after, read_decimal}

-- ---- places
-- a number fits as many places as are written, as every number of 64 bits does
abbrev pub FitsPlaces : ℕ → Type 0
FitsPlaces number = number < ten ^ most_digits

-- its tens fit one place less
fewer_tens : (places number : ℕ) → number < ten ^ suc places → number / ten < ten ^ places
fewer_tens places number fits = omega (arith, div-add-mod number ten, pow-suc ten places)

-- ---- read back
read_append : (before : ℕ) (front back : List ℕ) → read_after before (front ++ back) ≡ read_after (read_after before front) back
unfolding read_after
read_append before [] back = refl
read_append before (byte ∷ front) back = read_append (ten * before + (byte - digit_zero)) front back

-- in as many places as hold it, a number reads back
reads_within : (places number : ℕ) → number < ten ^ places → read_decimal (decimal_within places number) ≡ number
unfolding decimal_within read_after
reads_within zero number fits = omega (arith, pow-zero ten)
reads_within (suc places) number fits = by_size (ltb number ten) refl (reads_within places (number / ten) (fewer_tens places number fits))
  where
    by_size :
        (t : Bool) → ltb number ten ≡ t → read_decimal (decimal_within places (number / ten)) ≡ number / ten →
        read_decimal (decimal_within (suc places) number) ≡ number
    by_size true small tens = rw small (omega arith)
    by_size false large tens =
        rw large
        (read_append 0 (decimal_within places (number / ten)) (digit (number % ten) ∷ []) ∙ rw tens (omega (arith, div-add-mod number ten)))

pub reads_back : (number : ℕ) → FitsPlaces number → read_decimal (decimal number) ≡ number
reads_back number fits = reads_within most_digits number fits

-- ---- the first digit
-- text that follows does not change it
leads_on : (front back : List ℕ) → digit_zero < get_or front 0 0 → digit_zero < get_or (front ++ back) 0 0
leads_on [] back leads = absurd (omega arith)
leads_on (byte ∷ front) back leads = leads

-- of a number above 0 it is not the digit 0
first_within : (places number : ℕ) → number < ten ^ places → 0 < number → digit_zero < get_or (decimal_within places number) 0 0
unfolding decimal_within
first_within zero number fits some = absurd (omega (arith, pow-zero ten))
first_within (suc places) number fits some = by_size (ltb number ten) refl (first_within places (number / ten) (fewer_tens places number fits))
  where
    by_size :
        (t : Bool) → ltb number ten ≡ t → (0 < number / ten → digit_zero < get_or (decimal_within places (number / ten)) 0 0) →
        digit_zero < get_or (decimal_within (suc places) number) 0 0
    by_size true small tens = rw small (omega arith)
    by_size false large tens =
        let from_ten = ltb-false number ten large in
        let leads = tens (omega (arith, div-add-mod number ten, mod-lt number {m = ten} (omega arith))) in
        rw large (leads_on (decimal_within places (number / ten)) (digit (number % ten) ∷ []) leads)

pub no_leading_zero : (number : ℕ) → FitsPlaces number → 0 < number → digit_zero < get_or (decimal number) 0 0
no_leading_zero number fits some = first_within most_digits number fits some

pub zero_alone : decimal 0 ≡ digit_zero ∷ []
unfolding decimal_within
zero_alone = refl

-- ---- how long
-- at most as many bytes as there are places
within_long : (places number : ℕ) → length (decimal_within places number) ≤ places
unfolding decimal_within
within_long zero number = omega arith
within_long (suc places) number = by_size (ltb number ten) refl (within_long places (number / ten))
  where
    by_size :
        (t : Bool) → ltb number ten ≡ t → length (decimal_within places (number / ten)) ≤ places →
        length (decimal_within (suc places) number) ≤ suc places
    by_size true small tens = rw small (omega arith)
    by_size false large tens = rw (large, length-append) (omega arith)

pub decimal_long : (number : ℕ) → length (decimal number) ≤ most_digits
decimal_long number = within_long most_digits number

-- ---- as the kit makes them
-- below ten it is one digit
one_digit : (places number : ℕ) → number < ten → decimal_within (suc places) number ≡ digit number ∷ []
unfolding decimal_within
one_digit places number small = rw (lt-ltb number ten small) refl

-- from ten on it is that of its tens, and one digit more
tens_first :
    (places number : ℕ) → ten ≤ number →
    decimal_within (suc places) number ≡ decimal_within places (number / ten) ++ (digit (number % ten) ∷ [])
unfolding decimal_within
tens_first places number large = rw (le-ltb number ten large) refl

-- the kit's sign for a digit below ten is the digit
a_digit : (d : ℕ) → d < ten → hex_digit_ascii d ≡ digit d
a_digit d small = rw (lt-ltb d ten small) refl

-- of a number below ten the fewest digits are one
made_small : (number count : ℕ) → number < ten → IsDigitCount ten 1 number (suc count) → last_digits ten (suc count) number ≡ digit number ∷ []
made_small number zero small few = rw (mod-eq_of_lt small, a_digit number small) refl
made_small number (suc count) small few =
    let least : ten ^ count * ten ≤ number = simp unary_clauses at (few.2 (omega arith)) in
    absurd (omega (arith, one-le-pow count ten (omega arith)))

-- of any other, one more than of its tens
tens_fewest : (number count : ℕ) → ten ≤ number → IsDigitCount ten 1 number (suc count) → IsDigitCount ten 1 (number / ten) count
tens_fewest number zero large few = absurd (omega (arith, few.1))
tens_fewest number (suc zero) large few = (omega arith, fewer_tens 1 number few.1, λ (more : 1 < 1). absurd (omega arith))
tens_fewest number (suc (suc count)) large few =
    let least : ten ^ count * ten * ten ≤ number = simp unary_clauses at (few.2 (omega arith)) in
    let tens : ten ^ count * ten ≤ number / ten = omega (arith, div-add-mod number ten, mod-lt number {m = ten} (omega arith)) in
    (omega arith, fewer_tens (suc (suc count)) number few.1, λ (more : 1 < suc (suc count)). simp unary_clauses tens)

-- The fewest digits that hold a number are its decimal ones, in as many places as hold it.
made :
    (places number count : ℕ) → number < ten ^ suc places → IsDigitCount ten 1 number count →
    last_digits ten count number ≡ decimal_within (suc places) number
made places number zero fits few = absurd (omega (arith, few.0))
made zero number (suc count) fits few =
    let below : number < ten = omega arith in
    made_small number count below few ∙ sym (one_digit zero number below)
made (suc places) number (suc count) fits few =
    by_size
    (ltb number ten)
    refl
    (λ (large : ten ≤ number). made places (number / ten) count (fewer_tens (suc places) number fits) (tens_fewest number count large few))
  where
    by_size :
        (t : Bool) → ltb number ten ≡ t → (ten ≤ number → last_digits ten count (number / ten) ≡ decimal_within (suc places) (number / ten)) →
        last_digits ten (suc count) number ≡ decimal_within (suc (suc places)) number
    by_size true small tens =
        let below = ltb-true number ten small in
        made_small number count below few ∙ sym (one_digit (suc places) number below)
    by_size false large tens =
        let from_ten = ltb-false number ten large in
        rw (tens from_ten, a_digit (number % ten) (mod-lt number (omega arith)), tens_first (suc places) number from_ten) refl

pub as_made : (number count : ℕ) → FitsPlaces number → IsDigitCount ten 1 number count → last_digits ten count number ≡ decimal number
as_made number count fits few = made (most_digits - 1) number count fits few
