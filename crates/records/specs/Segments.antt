-- Segments: what kind each is, what its meter showed, and where it leads.
use Rattle.std.specs.Prelude.{ℕ, suc, ◌+◌, Bool, ◌&&◌, ◌||◌, eqb}
use Rattle.fields.specs.Ranges.{within}
use Rattle.records.specs.declared.counts.Counts.{Counts}
use Rattle.records.specs.declared.segment.Segment.{Segment}

-- The most segments of a period (rule 2.3).
abbrev pub most_segments : ℕ
most_segments = 32

-- S: from one segment to the most (rule 2.3).
abbrev pub segments_allowed : ℕ → Bool
segments_allowed = within 1 most_segments

-- The first kind that leads on: a pipeline (rule 2.6).
abbrev pub pipeline : ℕ
pipeline = 1

-- The last kind that leads on: a storage on the way (rule 2.6).
abbrev pub intermediate_storage : ℕ
intermediate_storage = 5

-- The kind that ends a route: a geological store (rule 2.6).
abbrev pub store : ℕ
store = 6

-- The kinds are 1 to 6 (rule 2.6).
abbrev pub kind_allowed : ℕ → Bool
kind_allowed = within pipeline store

-- A segment of kind 1 to 5 leads to a later one that is there; a store leads nowhere: 0 (rule 2.7).
abbrev pub next_allowed : Counts → (own kind next : ℕ) → Bool
next_allowed counts own kind next =
    within pipeline intermediate_storage kind && within (suc own) counts.segments next || eqb kind store && eqb next 0

-- The segment of these fields.
abbrev pub segment_of : (kind outflow next : ℕ) → Segment
segment_of kind outflow next = record { kind = kind; outflow = outflow; next = next }

-- What an array holds in an entry without a segment.
abbrev pub no_segment : Segment
no_segment = segment_of 0 0 0

-- How many numbers a segment's record has.
abbrev pub segment_fields : ℕ
segment_fields = 3

-- The most bytes that they take, field by field.
abbrev pub segment_bytes : ℕ
segment_bytes = 1 + 5 + 1
