-- The kinds of records: with which reasons each needs its numbers, field by field, and that its reader needs just these.
use Rattle.std.specs.Prelude.{ℕ, List, [], ◌∷◌, refl, replicate}
use Rattle.fields.specs.declared.reason.Reason.{Reason}
use Rattle.fields.specs.declared.reason.Reason.TheVariants.{WrongEdition, WrongCount, WrongPlant, WrongSegment, WrongLine}
use Rattle.fields.specs.Wanting.{Wants}
use Rattle.records.specs.declared.counts.Counts.{Counts}
use Rattle.records.specs.Plants.{plant_fields}
use Rattle.records.specs.Segments.{segment_fields}
use Rattle.records.specs.Lines.{line_fields}
use Rattle.records.specs.Headers.{header}
use Rattle.records.specs.Periods.{plant, segment, line}

-- The header: the edition, then three counts (rule 8.1).
abbrev pub header_reasons : List Reason
header_reasons = WrongEdition ∷ WrongCount ∷ WrongCount ∷ WrongCount ∷ []

pub header_wants : Wants header_reasons header
unfolding Wants header
header_wants = (refl, λ _. (refl, λ _. (refl, λ _. (refl, λ _. tt))))

-- A plant: all its fields have one.
abbrev pub plant_reasons : List Reason
plant_reasons = replicate plant_fields WrongPlant

pub plant_wants : (counts : Counts) → Wants plant_reasons (plant counts)
unfolding Wants plant
plant_wants counts = (refl, λ _. (refl, λ _. (refl, λ _. tt)))

-- A segment, in the same way.
abbrev pub segment_reasons : List Reason
segment_reasons = replicate segment_fields WrongSegment

pub segment_wants : (counts : Counts) (own : ℕ) → Wants segment_reasons (segment counts own)
unfolding Wants segment
segment_wants counts own = (refl, λ _. (refl, λ _. (refl, λ _. tt)))

-- A line, in the same way.
abbrev pub line_reasons : List Reason
line_reasons = replicate line_fields WrongLine

pub line_wants : (counts : Counts) → Wants line_reasons (line counts)
unfolding Wants line
line_wants counts = (refl, λ _. (refl, λ _. (refl, λ _. (refl, λ _. (refl, λ _. tt)))))
