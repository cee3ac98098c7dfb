-- The owners' totals while lines are added up: private functions promise this to each other.
use Rattle.std.specs.Prelude.{ℕ, suc, ◌+◌, ◌-◌, ◌*◌, ◌≤◌, min, ◌≡◌, Bool, cond, List, ltb, length, get_or, set, replicate, Option, Some, None}
use Rattle.fields.specs.declared.reason.Reason.TheVariants.{CapturedOverFuel}
use Rattle.fields.specs.declared.spot.Spot.{Spot}
use Rattle.fields.specs.Lists.{filled}
use Rattle.fields.specs.Tests.{Test, listed}
use Rattle.records.specs.declared.line.Line.{Line}
use Rattle.records.specs.Plants.{most_plants}
use Rattle.records.specs.Segments.{most_segments}
use Rattle.records.specs.Classes.{segment_owner}
use Rattle.records.specs.Lines.{most_grams}
use Rattle.accounts.specs.Emissions.{grams, grams_of, of_classes, is_added, is_fuel, is_captured, less_captured}
use Rattle.gathering.specs.declared.totals.Totals.{Totals}

-- ---- one owner's
-- Grams are counted up to one more than the limit (rule 9.3).
abbrev pub over_grams : ℕ
over_grams = most_grams + 1

abbrev pub capped : ℕ → ℕ
capped total = min total over_grams

-- A total with a line's grams, if they count in it.
abbrev pub counted_on : (total : ℕ) (counts : Bool) (grams : ℕ) → ℕ
counted_on total counts grams = cond counts (capped (total + grams)) total

-- The first line that passes the limit, by its number and its first byte, if there is one yet (rules 8.5 and 8.9).
abbrev pub first_over : Option Spot → (total : ℕ) → Spot → Option Spot
first_over (Some first) total line = Some first
first_over None total line = cond (ltb most_grams total) (Some line) None

-- ---- all owners', in columns: places for the most plants, and behind them for the segments
abbrev pub owners : ℕ
owners = most_plants + most_segments

abbrev pub owner_place : (owner_kind owner : ℕ) → ℕ
owner_place owner_kind owner = most_plants * owner_kind + owner - 1

-- An owner that a line may have, and the place of its totals: there are as many owners of a kind as there may be plants, or segments.
pub record Owner (owner_kind owner place : ℕ) : Type 0 where
  pub kind : owner_kind ≤ segment_owner
  pub some : 1 ≤ owner
  pub most : owner ≤ most_plants + (most_segments - most_plants) * owner_kind
  pub place_is : place ≡ owner_place owner_kind owner

-- At first no line is added up.
abbrev pub no_totals : Totals
no_totals = record { added = replicate owners 0; fuel = replicate owners 0; captured = replicate owners 0 }

-- A column with a line's grams in the total at a place, if they count there; and below all three with one line more, by its class (rules 3.4 and 4.2).
abbrev pub counted_at : (column : List ℕ) (place : ℕ) (counts : Bool) (grams : ℕ) → List ℕ
counted_at column place counts grams = set column place (counted_on (get_or column place 0) counts grams)

abbrev pub totals_with : Totals → (place : ℕ) → Line → Totals
totals_with totals place line = record {
  added = counted_at totals.added place (is_added line.class) (grams line);
  fuel = counted_at totals.fuel place (is_fuel line.class) (grams line);
  captured = counted_at totals.captured place (is_captured line.class) (grams line);
}

-- A column has at every owner's place the grams of its lines of these classes (rule 4.2).
pub record Totalled (these : ℕ → Bool) (lines : List Line) (column : List ℕ) : Type 0 where
  pub places : length column ≡ owners
  pub each : (owner_kind owner place : ℕ) → Owner owner_kind owner place → get_or column place 0 ≡ capped (grams_of (of_classes these owner_kind owner) lines)

-- All three columns have theirs.
pub record Sums (lines : List Line) (totals : Totals) : Type 0 where
  pub added : Totalled is_added lines totals.added
  pub fuel : Totalled is_fuel lines totals.fuel
  pub captured : Totalled is_captured lines totals.captured

-- 16 of the plant at an index, by its totals (rule 8.10).
abbrev pub fuel_test_by : (bytes : ℕ) → Totals → (index : ℕ) → Test
fuel_test_by bytes totals index =
    record { fails = ltb (get_or totals.fuel index 0) (get_or totals.captured index 0); reason = CapturedOverFuel; place = suc index; offset = bytes }

-- `count` totals in kg, from the one at the place `first` on, and zeros behind them (rules 4.3 and 4.4).
abbrev pub kg_column : Totals → (first count : ℕ) → List ℕ
kg_column totals first count =
    filled 0 most_segments (listed (λ (o : ℕ). less_captured (get_or totals.added (first + o) 0) (get_or totals.captured (first + o) 0)) 0 count)
