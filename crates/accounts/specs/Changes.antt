-- Two periods beside each other: what may differ between them.
use Rattle.std.specs.Prelude.{ℕ, suc, ◌≤◌, ◌≡◌, Bool, true, cond, ◌&&◌, ◌||◌, List, [], ◌∷◌, ◌++◌, map, eqb, length, get_or}
use Rattle.fields.specs.Lists.{sum}
use Rattle.records.specs.declared.line.Line.{Line}
use Rattle.records.specs.Plants.{no_plant}
use Rattle.records.specs.Classes.{plant_owner, segment_owner}
use Rattle.records.specs.Lines.{line_of}
use Rattle.records.specs.Periods.{Period}
use Rattle.accounts.specs.Emissions.{owned_by, chosen, is_added, is_captured}
use Rattle.accounts.specs.Routes.{Leg, route_of}

-- Two periods that are alike, except that the second has a larger quantity in one line, or the same (rules 13.7 and 13.12).
pub record OneLineLarger (smaller larger : Period) : Type 0 where
  pub before : List Line
  pub line : Line
  pub after : List Line
  pub quantity : ℕ
  pub no_less : line.quantity ≤ quantity
  pub plants : larger.plants ≡ smaller.plants
  pub segments : larger.segments ≡ smaller.segments
  pub lines : smaller.lines ≡ before ++ line ∷ after
  pub lines_larger : larger.lines ≡ before ++ line_of line.owner_kind line.owner line.class quantity line.factor ∷ after

-- A line of emissions: its class is one whose grams are added, which are 1 to 8 (rule 13.7).
abbrev pub EmissionLine : Line → Type 0
EmissionLine line = is_added line.class ≡ true

-- A line of CO2 captured: its class is one whose grams are taken off, which is 9 (rule 13.12).
abbrev pub CapturedLine : Line → Type 0
CapturedLine line = is_captured line.class ≡ true

-- ---- the same lines, in whatever order they stand
-- Whether two lines are the same: all their fields are.
abbrev pub same_line : Line → Line → Bool
same_line line other =
    eqb line.owner_kind other.owner_kind
    && (eqb line.owner other.owner
    && (eqb line.class other.class
    && (eqb line.quantity other.quantity
    && eqb line.factor other.factor)))

-- How often a line is in a list of lines.
unfoldable pub how_often : Line → List Line → ℕ
how_often line lines = sum (map (λ (other : Line). cond (same_line line other) 1 0) lines)

-- The same lines, in any order: each is as often in the one list as in the other (rules 13.8 and 13.9).
abbrev pub SameLines : List Line → List Line → Type 0
SameLines one two = (line : Line) → how_often line two ≡ how_often line one

-- The same segment of a route: its number, its record and its lines (rule 13.8).
pub record SameLeg (one two : Leg) : Type 0 where
  pub own : two.own ≡ one.own
  pub segment : two.segment ≡ one.segment
  pub lines : SameLines one.lines two.lines

-- The same route: the same segments, one after another (rule 13.8).
pub data SameRoute : List Leg → List Leg → Type 0 where
  ends : SameRoute [] []
  goes : {a b : Leg} {one two : List Leg} → SameLeg a b → SameRoute one two → SameRoute (a ∷ one) (b ∷ two)

-- ---- what stays the same
-- Which lines are left without other plants' own: those of segments, and of the plant at an index from 0 (rule 13.9).
abbrev pub not_others : ℕ → Line → Bool
not_others index line = eqb line.owner_kind segment_owner || owned_by plant_owner (suc index) line

-- Two periods that differ only in origin fractions and own lines of other plants than the one at an index from 0 (rule 13.9).
pub record OthersOwn (index : ℕ) (one two : Period) : Type 0 where
  pub segments : two.segments ≡ one.segments
  pub count : length two.plants ≡ length one.plants
  pub exported : (each : ℕ) → (get_or two.plants each no_plant).exported ≡ (get_or one.plants each no_plant).exported
  pub first : (each : ℕ) → (get_or two.plants each no_plant).first ≡ (get_or one.plants each no_plant).first
  pub plant : get_or two.plants index no_plant ≡ get_or one.plants index no_plant
  pub lines : SameLines (chosen (not_others index) one.lines) (chosen (not_others index) two.lines)

-- Two periods that have the same for the plant at an index from 0: its record, its lines and its route (rule 13.8).
pub record SameFor (index : ℕ) (one two : Period) : Type 0 where
  pub plant : get_or two.plants index no_plant ≡ get_or one.plants index no_plant
  pub lines : SameLines (chosen (owned_by plant_owner (suc index)) one.lines) (chosen (owned_by plant_owner (suc index)) two.lines)
  pub route : SameRoute (route_of one index) (route_of two index)
