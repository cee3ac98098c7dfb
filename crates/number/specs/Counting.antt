-- The numbers of a file, one behind another. Number k has place k, so the first is number 0.
use Rattle.std.specs.Prelude.{ℕ, zero, suc, List}
use Rattle.number.specs.Reading.{Found, number, fault, read_at}

-- The byte behind the number at `start`; if there is a fault, `start` itself, so that every later number has the same fault.
abbrev pub end_of : ℕ → Found → ℕ
end_of start (number value next) = next
end_of start (fault refusal) = start

-- The byte where number k starts: the first behind the number before it (rule 2.1).
unfoldable pub start_of : List ℕ → ℕ → ℕ
start_of file zero = 0
start_of file (suc k) = end_of (start_of file k) (read_at file (start_of file k))

-- Number k: its value and the byte behind it, or its fault (rule 2.1).
abbrev pub number_at : List ℕ → ℕ → Found
number_at file k = read_at file (start_of file k)

-- The value that was found, and 0 for a fault.
abbrev pub value_in : Found → ℕ
value_in (number value next) = value
value_in (fault refusal) = 0

-- The value of number k, and 0 if it has a fault.
unfoldable pub value_at : List ℕ → ℕ → ℕ
value_at file k = value_in (number_at file k)
