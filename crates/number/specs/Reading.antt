-- Reading the number at a byte of a file, and its faults in the order of rule 1.5.
use Rattle.std.specs.Prelude.{ℕ, ◌+◌, min, List, cond, length, drop, leb}
use Rattle.number.specs.Groups.{Gathering, gather, value, padded, own_bytes, most_groups, largest}
use Rattle.number.specs.Groups.Gathering.{whole, cut, long}

-- Fault 1: the bytes end within the number, or before it (rule 1.5).
abbrev pub ends : ℕ
ends = 1

-- Fault 2: the number could be written shorter (rule 1.5).
abbrev pub not_shortest : ℕ
not_shortest = 2

-- Fault 3: there are more groups than five, or the value is over the limit (rule 1.5).
abbrev pub too_large : ℕ
too_large = 3

-- What is found at a byte: a number, with its value and the byte behind it; or a fault, with its number of refusal.
pub data Found : Type 0 where
  number : (value next : ℕ) → Found
  fault : (refusal : ℕ) → Found

-- What groups form: the form is tested, then the value (rule 1.5). The byte behind is counted from the first group.
unfoldable pub formed : List ℕ → Found
formed groups = cond (padded groups) (fault not_shortest) (cond (leb (value groups) largest) (number (value groups) (length groups)) (fault too_large))

-- What gathering leads to: fault 1 if the bytes end, fault 3 if there are too many groups, else what the groups form (rule 1.5).
abbrev pub found_of : Gathering → Found
found_of (whole groups) = formed groups
found_of cut = fault ends
found_of long = fault too_large

-- The number, or its fault, at the front of the bytes (rule 1.5).
unfoldable pub reading : List ℕ → Found
reading bytes = found_of (gather most_groups bytes)

-- What was found, with the byte behind it counted on from `at`, where the number starts.
abbrev pub from : ℕ → Found → Found
from at (number v next) = number v (at + next)
from at (fault k) = fault k

-- The number, or its fault, at a byte of the file: by the bytes from there on alone (rule 1.6).
unfoldable pub read_at : List ℕ → ℕ → Found
read_at file at = from at (reading (drop at file))

-- The offset of what is at a byte: that byte; past the end of the file, where no byte of a number is, the file's length (rule 1.7).
abbrev pub offset_at : List ℕ → ℕ → ℕ
offset_at file at = min at (length file)

-- The bytes of the number at a byte of the file, also if it has a fault (rule 1.8).
abbrev pub bytes_at : List ℕ → ℕ → List ℕ
bytes_at file at = own_bytes most_groups (drop at file)
