-- The header: the edition, then P, S and L, how many plants, segments and lines follow.
use Rattle.std.specs.Prelude.{ℕ, ◌+◌, List, eqb, Option, Some, None}
use Rattle.fields.specs.declared.reason.Reason.TheVariants.{WrongEdition, WrongCount}
use Rattle.fields.specs.Readers.{Reader, return, field, ◌>>=◌, Read, read, refused, reads}
use Rattle.records.specs.declared.counts.Counts.{Counts}
use Rattle.records.specs.Plants.{plants_allowed}
use Rattle.records.specs.Segments.{segments_allowed}
use Rattle.records.specs.Lines.{lines_allowed}

-- The edition that is read here (rule 2.3).
abbrev pub edition : ℕ
edition = 1

-- P, S and L as one value.
abbrev pub announced : (plants segments lines : ℕ) → Counts
announced plants segments lines = record { plants = plants; segments = segments; lines = lines }

-- The header, number by number (rule 2.3).
unfoldable pub header : Reader Counts
header = do
  _ ← field WrongEdition (eqb edition)
  plants ← field WrongCount plants_allowed
  segments ← field WrongCount segments_allowed
  lines ← field WrongCount lines_allowed
  return (announced plants segments lines)

-- How many numbers the header has.
abbrev pub header_fields : ℕ
header_fields = 4

-- The most bytes that they take, field by field.
abbrev pub header_bytes : ℕ
header_bytes = 1 + 1 + 1 + 2

-- What a header tells of the records behind it: the counts that were read; if it is refused, nothing.
abbrev pub telling : Read Counts → Option Counts
telling (read counts place at) = Some counts
telling (refused notice) = None

-- What the header of a file tells, whatever is behind it (rules 2.3 and 11.5).
unfoldable pub header_of : List ℕ → Option Counts
header_of file = telling (reads header file 0 0)
