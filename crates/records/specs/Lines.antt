-- Lines: who owns each, its class, a quantity, and the grams for one unit of it.
use Rattle.std.specs.Prelude.{ℕ, ◌+◌, Bool, ◌&&◌, ◌||◌, eqb}
use Rattle.fields.specs.Ranges.{up_to, within}
use Rattle.records.specs.declared.counts.Counts.{Counts}
use Rattle.records.specs.declared.line.Line.{Line}
use Rattle.records.specs.Classes.{plant_owner, segment_owner}

-- The most lines of a period (rule 2.3).
abbrev pub most_lines : ℕ
most_lines = 512

-- L: from no line to the most (rule 2.3).
abbrev pub lines_allowed : ℕ → Bool
lines_allowed = up_to most_lines

-- The most grams that one owner's lines add up to (rule 8.5).
abbrev pub most_grams : ℕ
most_grams = 4_000_000_000_000

-- There are owners of two kinds: 0 a plant, 1 a segment (rule 2.8).
abbrev pub owner_kind_allowed : ℕ → Bool
owner_kind_allowed = up_to segment_owner

-- The owner is one of the P plants or of the S segments, by its kind (rule 2.8).
abbrev pub owner_allowed : Counts → (owner_kind owner : ℕ) → Bool
owner_allowed counts owner_kind owner =
    eqb owner_kind plant_owner && within 1 counts.plants owner || eqb owner_kind segment_owner && within 1 counts.segments owner

-- The line of these fields.
abbrev pub line_of : (owner_kind owner class quantity factor : ℕ) → Line
line_of owner_kind owner class quantity factor =
    record { owner_kind = owner_kind; owner = owner; class = class; quantity = quantity; factor = factor }

-- What an array holds in an entry without a line.
abbrev pub no_line : Line
no_line = line_of 0 0 0 0 0

-- How many numbers a line's record has.
abbrev pub line_fields : ℕ
line_fields = 5

-- The most bytes that they take, field by field.
abbrev pub line_bytes : ℕ
line_bytes = 1 + 1 + 1 + 5 + 5
