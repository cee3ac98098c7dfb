-- All limits of a period, together.
use Rattle.std.specs.Prelude.{◌≡◌, length}
use Rattle.records.specs.declared.limits.Limits.{Limits}
use Rattle.records.specs.Plants.{most_plants, millionths}
use Rattle.records.specs.Segments.{most_segments, store}
use Rattle.records.specs.Classes.{classes, largest_factor}
use Rattle.records.specs.Lines.{most_lines, most_grams}
use Rattle.records.specs.Periods.{most_numbers, most_bytes}

-- The limits that the code has to have (rule 9.1).
unfoldable pub limits : Limits
limits = record {
  plants = most_plants;
  segments = most_segments;
  lines = most_lines;
  fraction = millionths;
  kind = store;
  class = length classes;
  factor = largest_factor;
  grams = most_grams;
  numbers = most_numbers;
  bytes = most_bytes;
}

-- What `Limits::new` promises: these limits (rule 9.1).
abbrev pub LimitsPromise : Limits → Type 0
LimitsPromise r = r ≡ limits
