-- What the public functions promise.
use Rattle.std.specs.Prelude.{ℕ, ◌≡◌, cond, List, Result, Ok, Err, ltb, length, get_or, take}
use Rattle.plain.specs.Bytes.{whole_numbers, bytes_overwritten}
use Rattle.typed.specs.declared.reading.Stray.{Stray}
use Rattle.typed.specs.Text.{numbers_in, first_stray, starts_in}

-- The first stray byte of a text, and its offset (rule 16.3).
abbrev pub stray_in : (text : List ℕ) → Stray
stray_in text = record { offset = first_stray text; byte = get_or text (first_stray text) 0 }

-- The answer to a text: its first stray byte, or how many numbers it has (rules 16.2 and 16.3).
abbrev pub answer_to : (text : List ℕ) → Result ℕ Stray
answer_to text = cond (ltb (first_stray text) (length text)) (Err (stray_in text)) (Ok (length (numbers_in text)))

-- Numbers from the start of a list of plain ones on, as many as it has room for; what stands behind them stays (rule 10.5).
abbrev pub list_with : (numbers list : List ℕ) → List ℕ
list_with numbers list = bytes_overwritten (take (whole_numbers list) numbers) list

-- `read_text`: the answer, and the text's numbers in the list, also if it has a stray byte (rules 16.1 to 16.3).
pub record ReadTextPromise (text list : List ℕ) (r : Result ℕ Stray) (list' : List ℕ) : Type 0 where
  pub answer : r ≡ answer_to text
  pub written : list' ≡ list_with (numbers_in text) list

-- `number_start`: the offset of the first digit of a number, and the text's length if there is no such number (rule 16.4).
abbrev pub NumberStartPromise : (text : List ℕ) (place r : ℕ) → Type 0
NumberStartPromise text place r = r ≡ get_or (starts_in text) place (length text)
