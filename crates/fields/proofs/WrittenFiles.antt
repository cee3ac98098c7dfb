-- A list and the file that is written from it: reading refuses the file as the list is refused, or gives what the list gave; and a file that was read is
-- written again as it was.
use Rattle.std.proofs.Common.{◌≡◌, ℕ, suc, ◌+◌, ◌*◌, ◌<◌, ◌≤◌, Bool, true, false, List, [], ◌∷◌, ◌++◌, length, take, drop, sym, refl, ap, ◌∙◌, true≢false, append_assoc, append-nil, arith, length-append, length-take-le, take_all, take_at, le-ltb, lt-ltb, le-leb}
use native.Mathlib.Decide.{dec_le}
use borrow.Author.Tests.{lt-leb}
use Rattle.number.specs.Groups.{most_groups, largest}
use Rattle.number.specs.Reading.{read_at, offset_at, ends, too_large}
use Rattle.number.specs.Reading.Found.{number as a_number_found}
use Rattle.number.specs.Writing.{written, AreBytes}
use Rattle.number.proofs.Laws.{past_end, bounds}
use Rattle.number.proofs.Writing.{reads_back_at, over_the_limit_at, one_form}
use Rattle.number.proofs.WrittenSizes.{some_byte, five_bytes}
use Rattle.fields.specs.declared.reason.Reason.{Reason}
use Rattle.fields.specs.Reasons.{number_of}
use Rattle.fields.specs.Answers.{notice}
use Rattle.fields.specs.Readers.{Reader, return, needs, Read, read, refused, reads, consumes}
use Rattle.fields.specs.Files.{ended, file_read}
use Rattle.fields.specs.Lists.{in_turn}
use Rattle.fields.specs.Written.{file_of, list_read}
use Rattle.fields.proofs.EndOfFile.{more_left, none_left}
use Rattle.fields.proofs.FieldByField.{Comes, done as all_read, goes, field_passed, field_wrong, field_faulty, goes_over}

-- ---- the bytes of a list
-- none
pub file_none : file_of [] ≡ []
unfolding file_of in_turn
file_none = refl

-- those of its first number, and of the rest
pub file_more : (value : ℕ) (values : List ℕ) → file_of (value ∷ values) ≡ written value ++ file_of values
unfolding file_of in_turn
file_more value values = refl

-- those of some numbers and of others behind them
pub file_both : (front behind : List ℕ) → file_of (front ++ behind) ≡ file_of front ++ file_of behind
file_both [] behind = rw file_none refl
file_both (value ∷ front) behind =
    rw (file_more value (front ++ behind), file_more value front, file_both front behind) (sym (append_assoc (written value) (file_of front) (file_of behind)))

-- five for each number at most
pub file_most : (numbers : List ℕ) → length (file_of numbers) ≤ most_groups * length numbers
file_most [] = rw file_none (omega arith)
file_most (value ∷ values) =
    rw (file_more value values, length-append (written value) (file_of values)) (omega (arith, five_bytes value, file_most values))

-- ---- a list is refused as its file is
-- where a number is, the offset is its first byte
offset_there : (front rest : List ℕ) → offset_at (front ++ rest) (length front) ≡ length front
offset_there front rest = omega (arith, length-append front rest)

-- one number more of a list
module _ (value : ℕ) (values front : List ℕ) where
  abbrev with_front : List ℕ
  with_front = front ++ file_of (value ∷ values)

  -- the byte behind it
  abbrev byte_behind : ℕ
  byte_behind = length front + length (written value)

  bytes : with_front ≡ front ++ (written value ++ file_of values)
  bytes = ap (λ (l : List ℕ). front ++ l) (file_more value values)

  -- the file, seen from behind it
  behind : with_front ≡ (front ++ written value) ++ file_of values
  behind = bytes ∙ sym (append_assoc front (written value) (file_of values))

  offset_is : offset_at with_front (length front) ≡ length front
  offset_is = offset_there front (file_of (value ∷ values))

  -- within the limit, it is there
  found : value ≤ largest → read_at with_front (length front) ≡ a_number_found value byte_behind
  found small = ap (λ (l : List ℕ). read_at l (length front)) bytes ∙ reads_back_at front value (file_of values) small

module _ {A : Type 0} where
  -- what reading the file gives whose bytes up to a number are `front`, and what the list gives
  abbrev FileAsList : Reader A → (numbers : List ℕ) (front : List ℕ) (place : ℕ) → Type 0
  FileAsList reader numbers front place =
      let file : List ℕ = front ++ file_of numbers in
      ended file (reads reader file place (length front)) ≡ list_read reader numbers place (length front)

  -- what comes of it
  module _ (reason : Reason) (allowed : ℕ → Bool) (then : ℕ → Reader A) (value : ℕ) (values front : List ℕ) (place : ℕ) where
    abbrev Goal : Type 0
    Goal = FileAsList (needs reason allowed then) (value ∷ values) front place

    abbrev file : List ℕ
    file = with_front value values front

    abbrev next : ℕ
    next = byte_behind value values front

    -- over the limit, 3 is
    over : largest < value → Goal
    unfolding list_read
    over large =
        ap (ended file)
        (field_faulty file reason allowed then place (length front) too_large
        (ap (λ (l : List ℕ). read_at l (length front)) (bytes value values front) ∙ over_the_limit_at front value (file_of values) large))
        ∙ rw (lt-leb value largest large) (ap (λ (offset : ℕ). refused (notice too_large place offset)) (offset_is value values front))

    -- its field does not allow it
    wrong_here : value ≤ largest → allowed value ≡ false → Goal
    unfolding list_read
    wrong_here small wrong =
        ap (ended file) (field_wrong file reason allowed then place (length front) value next (found value values front small) wrong)
        ∙ rw (le-leb value largest small, wrong) (ap (λ (offset : ℕ). refused (notice (number_of reason) place offset)) (offset_is value values front))

    -- it is allowed: the rest decides
    passed_here : value ≤ largest → allowed value ≡ true → FileAsList (then value) values (front ++ written value) (suc place) → Goal
    unfolding list_read
    passed_here small passed rest =
        let on : ended file (reads (then value) file (suc place) next) ≡ list_read (then value) values (suc place) next =
        ap (λ (l : List ℕ). ended l (reads (then value) l (suc place) next)) (behind value values front)
        ∙ rw (length-append front (written value)) at rest in
        ap (ended file) (field_passed file reason allowed then place (length front) value next (found value values front small) passed)
        ∙ on
        ∙ rw (le-leb value largest small, passed) refl

    by_test : (t : Bool) → value ≤ largest → allowed value ≡ t → FileAsList (then value) values (front ++ written value) (suc place) → Goal
    by_test true small passed rest = passed_here small passed rest
    by_test false small wrong rest = wrong_here small wrong

    by_size : Dec (value ≤ largest) → FileAsList (then value) values (front ++ written value) (suc place) → Goal
    by_size (yes small) rest = by_test (allowed value) small refl rest
    by_size (no large) rest = over (omega arith)

  file_as_list : (reader : Reader A) (numbers front : List ℕ) (place : ℕ) → FileAsList reader numbers front place
  unfolding list_read reads
  file_as_list (return what) [] front place =
      rw (file_none, append-nil, le-ltb (length front) (length front) (omega arith)) refl
  file_as_list (return what) (value ∷ values) front place =
      let more : length front < length (front ++ file_of (value ∷ values)) =
      omega (arith, length-append front (file_of (value ∷ values)), ap length (file_more value values), length-append (written value) (file_of values), some_byte value) in
      rw (lt-ltb (length front) (length (front ++ file_of (value ∷ values))) more) refl
  file_as_list (needs reason allowed then) [] front place =
      let file : List ℕ = front ++ file_of [] in
      let nothing : length file ≤ length front = omega (arith, length-append front (file_of []), ap length file_none) in
      ap (ended file) (field_faulty file reason allowed then place (length front) ends (past_end file (length front) nothing))
      ∙ ap (λ (offset : ℕ). refused (notice ends place offset)) (offset_there front (file_of []))
  file_as_list (needs reason allowed then) (value ∷ values) front place =
      by_size reason allowed then value values front place (dec_le value largest) (file_as_list (then value) values (front ++ written value) (suc place))

  -- a list is refused as its file is, with the same place and at the byte where the number is written; or it gives what its file gives
  pub list_as_file : (reader : Reader A) (numbers : List ℕ) → list_read reader numbers 0 0 ≡ file_read reader (file_of numbers)
  list_as_file reader numbers = sym (file_as_list reader numbers [] 0)

-- ---- a file that was read is written again as it was
-- up to the byte behind a number: the bytes before it, and its shortest form
number_again : (file : List ℕ) (at v n : ℕ) → AreBytes file → read_at file at ≡ a_number_found v n → take n file ≡ take at file ++ written v
number_again file at v n all is =
    let form = one_form file at v n all is in
    let sides = bounds file at v n is in
    let sized : length (take at file ++ written v) ≡ n =
    length-append (take at file) (written v) ∙ omega (arith, length-take-le at file (omega (arith, sides.later, sides.inside)), form.next_is) in
    ap (take n) (form.bytes_are ∙ sym (append_assoc (take at file) (written v) (drop n file)))
    ∙ take_at (take at file ++ written v) (drop n file) n sized

-- up to where the numbers that a reader takes end: the bytes before them, and these numbers
pub taken_again :
    {A : Type 0} {file : List ℕ} {reader : Reader A} {place at end to : ℕ} {what : A} → AreBytes file → Comes file reader place at (read what end to) →
    take to file ≡ take at file ++ file_of (consumes reader file at)
unfolding consumes
taken_again {file} {at} all all_read = sym (rw file_none (append-nil (take at file)))
taken_again {file} {at} {to} all (goes {then} {v} {n} e h later) =
    let rest : List ℕ = file_of (consumes (then v) file n) in
    let both : take to file ≡ take at file ++ (written v ++ rest) =
    taken_again all later ∙ ap (λ (l : List ℕ). l ++ rest) (number_again file at v n all e) ∙ append_assoc (take at file) (written v) rest in
    rw (e, h) (both ∙ ap (λ (l : List ℕ). take at file ++ l) (sym (file_more v (consumes (then v) file n))))

-- a file that was read to its end was read, and ends there
pub before_end :
    {A : Type 0} (reader : Reader A) (file : List ℕ) (what : A) (place at : ℕ) → file_read reader file ≡ read what place at →
    (reads reader file 0 0 ≡ read what place at) × (length file ≤ at)
before_end {A} reader file what place at e = by_outcome (reads reader file 0 0) refl e
  where
    Was : Type 0
    Was = (reads reader file 0 0 ≡ read what place at) × (length file ≤ at)

    by_end : (one : A) (p a : ℕ) → reads reader file 0 0 ≡ read one p a → Dec (length file ≤ a) → ended file (read one p a) ≡ read what place at → Was
    by_end one p a is (yes h) same =
        let whole : read one p a ≡ read what place at = sym (none_left one p file a h) ∙ same in
        let there : a ≡ at = cc in
        (is ∙ whole, omega (arith, h, there))
    by_end one p a is (no h) same = absurd (true≢false (cc (more_left one p file a (omega arith), same)))

    by_outcome : (outcome : Read A) → reads reader file 0 0 ≡ outcome → ended file outcome ≡ read what place at → Was
    by_outcome (read one p a) is same = by_end one p a is (dec_le (length file) a) same
    by_outcome (refused notice) is same = absurd (true≢false (cc))

-- so the numbers of a file that was read to its end make that file
pub file_again :
    {A : Type 0} (reader : Reader A) (file : List ℕ) (what : A) (place at : ℕ) → AreBytes file → file_read reader file ≡ read what place at →
    file_of (consumes reader file 0) ≡ file
file_again reader file what place at all e =
    let (is, Ends-there) = before_end reader file what place at e in
    sym (taken_again all (rw is at (goes_over file reader 0 0))) ∙ take_all at file Ends-there

-- ---- the numbers that a reader takes from the file of a list that it is put to are the list's
module _ {A : Type 0} where
  abbrev TakesList : Reader A → (numbers front : List ℕ) (place : ℕ) → Type 0
  TakesList reader numbers front place =
      (what : A) (end to : ℕ) → list_read reader numbers place (length front) ≡ read what end to → consumes reader (front ++ file_of numbers) (length front) ≡ numbers

  takes_one :
      (reason : Reason) (allowed : ℕ → Bool) (then : ℕ → Reader A) (value : ℕ) (values front : List ℕ) (place : ℕ) →
      TakesList (then value) values (front ++ written value) (suc place) → Dec (value ≤ largest) → (t : Bool) → allowed value ≡ t →
      TakesList (needs reason allowed then) (value ∷ values) front place
  unfolding list_read consumes
  takes_one reason allowed then value values front place rest (yes small) true passed what end to e =
      let found = found value values front small in
      let later : list_read (then value) values (suc place) (length (front ++ written value)) ≡ read what end to =
      rw (length-append front (written value)) (sym (rw (le-leb value largest small, passed) refl) ∙ e) in
      let others : consumes (then value) (front ++ file_of (value ∷ values)) (byte_behind value values front) ≡ values =
      ap (λ (l : List ℕ). consumes (then value) l (byte_behind value values front)) (behind value values front)
      ∙ rw (length-append front (written value)) at (rest what end to later) in
      rw (found, passed) (ap (λ (l : List ℕ). value ∷ l) others)
  takes_one reason allowed then value values front place rest (yes small) false wrong what end to e =
      absurd (true≢false (cc (rw (le-leb value largest small, wrong) at e)))
  takes_one reason allowed then value values front place rest (no large) t is what end to e =
      absurd (true≢false (cc (rw (lt-leb value largest (omega arith)) at e)))

  takes_list : (reader : Reader A) (numbers front : List ℕ) (place : ℕ) → TakesList reader numbers front place
  unfolding list_read consumes
  takes_list (return one) [] front place what end to e = refl
  takes_list (return one) (value ∷ values) front place what end to e = absurd (true≢false (cc))
  takes_list (needs reason allowed then) [] front place what end to e = absurd (true≢false (cc))
  takes_list (needs reason allowed then) (value ∷ values) front place what end to e =
      takes_one reason allowed then value values front place (takes_list (then value) values (front ++ written value) (suc place))
      (dec_le value largest) (allowed value) refl what end to e

  pub list_consumed :
      (reader : Reader A) (numbers : List ℕ) (what : A) (end to : ℕ) → list_read reader numbers 0 0 ≡ read what end to → consumes reader (file_of numbers) 0 ≡ numbers
  list_consumed reader numbers what end to e = takes_list reader numbers [] 0 what end to e
