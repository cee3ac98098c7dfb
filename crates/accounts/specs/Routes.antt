-- The routes of plants, as lists and as masks: whether two meet, and which plant is alone on its own.
use Rattle.std.specs.Prelude.{ℕ, suc, ◌+◌, ◌-◌, ◌^◌, ◌<◌, ◌≡◌, Bool, true, false, cond, ◌||◌, List, [], ◌∷◌, ◌≢◌, eqb, length, get_or}
use Rattle.std.specs.Int.Bits.{bit_and}
use Rattle.records.specs.declared.segment.Segment.{Segment}
use Rattle.records.specs.declared.line.Line.{Line}
use Rattle.records.specs.Plants.{no_plant}
use Rattle.records.specs.Classes.{segment_owner}
use Rattle.records.specs.Periods.{Period}
use Rattle.accounts.specs.Emissions.{owned_by, chosen}
use Rattle.accounts.specs.Accounts.{has_bit}
use Rattle.accounts.specs.Order.{segment_row_numbers}
use Rattle.accounts.specs.RowsAndColumns.{in_row, set_column}

-- A segment of a route: its number, its record and its lines (rule 13.8).
pub record Leg : Type 0 where
  pub own : ℕ
  pub segment : Segment
  pub lines : List Line

-- The route of a plant that stands before a segment, if the list of segments starts with number `own`: that segment, then the route from its next.
unfoldable pub route_from : List Line → (own : ℕ) → List Segment → (before : ℕ) → List Leg
route_from lines own [] before = []
route_from lines own (segment ∷ rest) before =
    cond (eqb before own)
    (record { own = own; segment = segment; lines = chosen (owned_by segment_owner own) lines } ∷ route_from lines (suc own) rest segment.next)
    (route_from lines (suc own) rest before)

-- The route of the plant at an index from 0 (rule 13.8).
unfoldable pub route_of : Period → ℕ → List Leg
route_of period index = route_from period.lines 1 period.segments (get_or period.plants index no_plant).first

-- A route as a mask: bit s − 1 is set if it passes segment s.
unfoldable pub mask_of : List Leg → ℕ
mask_of [] = 0
mask_of (leg ∷ route) = 2 ^ (leg.own - 1) + mask_of route

-- Whether a route passes the segment with a number.
unfoldable pub on : ℕ → List Leg → Bool
on own [] = false
on own (leg ∷ route) = eqb leg.own own || on own route

-- Two routes do not meet: their masks have no bit in common (rule 13.8).
abbrev pub Apart : List Leg → List Leg → Type 0
Apart route other = bit_and (mask_of route) (mask_of other) ≡ 0

-- No other plant's route meets that of the plant at an index from 0 (rule 13.8).
abbrev pub Alone : Period → ℕ → Type 0
Alone period index = (other : ℕ) → other < length period.plants → other ≢ index → Apart (route_of period index) (route_of period other)

-- The same by the rows of `count` segments: if a row's set has the plant at an index, it has no other (rule 13.8).
abbrev pub AloneInRows : (segments : List ℕ) (count index : ℕ) → Type 0
AloneInRows segments count index =
    (s : ℕ) → s < count → let set = in_row segment_row_numbers s set_column segments in has_bit set index ≡ true → set ≡ 2 ^ index
