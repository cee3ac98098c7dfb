-- What the private functions say to each other of a text. No promise of a public function rests on it.
use Rattle.std.specs.Prelude.{ℕ, ◌*◌, ◌≡◌, cond, List, Option, Some, None, length}
use Rattle.plain.specs.Bytes.{number_bytes, plain_written}
use Rattle.typed.specs.declared.scan.Scan.{Scan}
use Rattle.typed.specs.declared.scan.Scan.TheVariants.{Between, Within, Remark}
use Rattle.typed.specs.Text.{State, between, within, remark, is_digit, numbers_in}
use Rattle.typed.specs.Promises.{list_with}

-- The state that the code's value says.
abbrev pub state_of : Scan → State
state_of Between = between
state_of (Within value) = within value
state_of Remark = remark

-- A list with a number at an index, if there is one.
abbrev pub one_listed : Option ℕ → (list : List ℕ) (index : ℕ) → List ℕ
one_listed None list index = list
one_listed (Some number) list index = plain_written list (number_bytes * index) number

-- A list with the number of a state at an index, if it is within one and no digit follows.
abbrev pub ending_listed : State → (list : List ℕ) (index : ℕ) → List ℕ
ending_listed between list index = list
ending_listed (within value) list index = plain_written list (number_bytes * index) value
ending_listed remark list index = list

-- The same before a byte.
abbrev pub ended_listed : State → (byte : ℕ) (list : List ℕ) (index : ℕ) → List ℕ
ended_listed state byte list index = cond (is_digit byte) list (ending_listed state list index)

-- All numbers of a text are counted and listed.
pub record AllListed (text list : List ℕ) (count : ℕ) (list' : List ℕ) : Type 0 where
  pub counted : count ≡ length (numbers_in text)
  pub written : list' ≡ list_with (numbers_in text) list
