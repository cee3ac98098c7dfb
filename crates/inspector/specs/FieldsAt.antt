-- Which field of which record a number is, by its place and by what the header tells (rule 11.5).
use Rattle.std.specs.Prelude.{ℕ, suc, ◌-◌, ◌*◌, ◌/◌, ◌%◌, ◌≡◌, cond, ltb, Option, Some, None}
use Rattle.records.specs.declared.counts.Counts.{Counts}
use Rattle.records.specs.Plants.{plant_fields}
use Rattle.records.specs.Segments.{segment_fields}
use Rattle.records.specs.Lines.{line_fields}
use Rattle.records.specs.Headers.{header_fields}
use Rattle.inspector.specs.declared.field.Field.{Field}

-- At an index among `count` records of `fields` fields each: the record, from 1, and its field, from 0; or what comes behind them all.
abbrev pub among : (fields count : ℕ) → (ℕ → ℕ → Field) → (ℕ → Field) → ℕ → Field
among fields count of behind index =
    cond (ltb (index / fields) count) (of (suc (index / fields)) (index % fields)) (behind (index - fields * count))

-- The field at an index behind the header: of plants, segments and lines, as many as it announces.
abbrev pub behind_header : Option Counts → ℕ → Field
behind_header None index = Field.Untold
behind_header (Some counts) index =
    among plant_fields counts.plants Field.Plant
    (among segment_fields counts.segments Field.Segment
    (among line_fields counts.lines Field.Line (λ left. Field.After))) index

-- The field at a place: the header's own come first (rule 11.5).
unfoldable pub field_at : Option Counts → ℕ → Field
field_at header place = cond (ltb place header_fields) (Field.Header place) (behind_header header (place - header_fields))

-- What `field_at` promises.
abbrev pub FieldAtPromise : Option Counts → (place : ℕ) → Field → Type 0
FieldAtPromise header place r = r ≡ field_at header place
