-- Inflow and credit: the plants' amounts on their way from segment to segment. No line plays a part here.
use Rattle.std.specs.Prelude.{ℕ, suc, ◌+◌, ◌-◌, ◌*◌, ◌/◌, Bool, cond, eqb}
use mathlib.Core.List.{List, [], ◌∷◌, map, zip_with}
use Rattle.fields.specs.Lists.{sum}
use Rattle.records.specs.declared.plant.Plant.{Plant}
use Rattle.records.specs.declared.segment.Segment.{Segment}

-- Where a plant is with its CO2: the segment before which it stands, 0 past its store, and its amount (rule 5.2).
pub record Standing : Type 0 where
  pub before : ℕ
  pub amount : ℕ

-- What a list of plants gives behind its end.
abbrev pub nowhere : Standing
nowhere = record { before = 0; amount = 0 }

-- A plant starts before its first segment, with what it exported (rule 5.2).
abbrev pub at_first : Plant → Standing
at_first plant = record { before = plant.first; amount = plant.exported }

-- Whether a plant's route passes a segment: when the segment's turn comes, the plant stands before it (rule 5.3).
abbrev pub passes : ℕ → Standing → Bool
passes own standing = eqb standing.before own

-- What a plant brings to a segment: its amount if its route passes, else 0 (rule 5.2).
abbrev pub brings : ℕ → Standing → ℕ
brings own standing = cond (passes own standing) standing.amount 0

-- What each plant brings to it (rule 5.3).
abbrev pub amounts : ℕ → List Standing → List ℕ
amounts own = map (brings own)

-- A plant's credit: the outflow's part of all up to it less that of all before it, both rounded down; 0 without inflow (rule 5.4).
abbrev pub credit : (inflow outflow before amount : ℕ) → ℕ
credit inflow outflow before amount = (before + amount) * outflow / inflow - before * outflow / inflow

-- The credits of the plants from one on, if those before it bring `before` together (rule 5.4).
unfoldable pub credits_from : (inflow outflow before : ℕ) → List ℕ → List ℕ
credits_from inflow outflow before [] = []
credits_from inflow outflow before (amount ∷ rest) =
    credit inflow outflow before amount ∷ credits_from inflow outflow (before + amount) rest

-- The credits of all plants in rising number; the inflow is what they bring together (rule 5.4).
abbrev pub credits : ℕ → List ℕ → List ℕ
credits outflow entering = credits_from (sum entering) outflow 0 entering

-- A plant that passes goes on with its credit to the next segment; any other stays as it is (rules 5.2 and 5.5).
abbrev pub sent_on : ℕ → ℕ → Standing → ℕ → Standing
sent_on own next standing credit = cond (passes own standing) (record { before = next; amount = credit }) standing

-- Where the plants are after a segment's turn (rule 5.5).
unfoldable pub passed : ℕ → Segment → List Standing → List Standing
passed own segment standings = zip_with (sent_on own segment.next) standings (credits segment.outflow (amounts own standings))

-- A segment's turn: its number, its record, and where the plants are when it begins (rule 5.1).
pub record Turn : Type 0 where
  pub own : ℕ
  pub segment : Segment
  pub standings : List Standing

-- The turns of segments in rising number, from a number on (rule 5.1).
unfoldable pub turns : ℕ → List Segment → List Standing → List Turn
turns own [] standings = []
turns own (segment ∷ rest) standings =
    record { own = own; segment = segment; standings = standings } ∷ turns (suc own) rest (passed own segment standings)

-- Where the plants are after all these turns (rule 5.5).
unfoldable pub arrived : ℕ → List Segment → List Standing → List Standing
arrived own [] standings = standings
arrived own (segment ∷ rest) standings = arrived (suc own) rest (passed own segment standings)
