-- Plants: what each exported, where its route starts, and which part of its CO2 is of the origin that counts.
use Rattle.std.specs.Prelude.{ℕ, ◌+◌, Bool}
use Rattle.fields.specs.Ranges.{within, up_to}
use Rattle.records.specs.declared.counts.Counts.{Counts}
use Rattle.records.specs.declared.plant.Plant.{Plant}

-- The most plants of a period (rule 2.3).
abbrev pub most_plants : ℕ
most_plants = 16

-- P: from one plant to the most (rule 2.3).
abbrev pub plants_allowed : ℕ → Bool
plants_allowed = within 1 most_plants

-- The whole, as an origin fraction counts it (rule 2.4).
abbrev pub millionths : ℕ
millionths = 1_000_000

-- A route starts at one of the S segments (rule 2.4).
abbrev pub first_allowed : Counts → ℕ → Bool
first_allowed counts = within 1 counts.segments

-- An origin fraction is from 0 up to the whole (rule 2.4).
abbrev pub fraction_allowed : ℕ → Bool
fraction_allowed = up_to millionths

-- The plant of these fields.
abbrev pub plant_of : (exported first fraction : ℕ) → Plant
plant_of exported first fraction = record { exported = exported; first = first; fraction = fraction }

-- What an array holds in an entry without a plant.
abbrev pub no_plant : Plant
no_plant = plant_of 0 0 0

-- How many numbers a plant's record has.
abbrev pub plant_fields : ℕ
plant_fields = 3

-- The most bytes that they take, field by field.
abbrev pub plant_bytes : ℕ
plant_bytes = 5 + 1 + 3
