-- The results of plants and segments as rows.
use Rattle.std.specs.Prelude.{ℕ, suc, ◌+◌, ◌-◌, ◌*◌, ◌/◌, List, [], ◌∷◌, ◌++◌}
use Rattle.records.specs.declared.plant.Plant.{Plant}
use Rattle.records.specs.declared.line.Line.{Line}
use Rattle.records.specs.Plants.{millionths}
use Rattle.records.specs.Classes.{plant_owner}
use Rattle.accounts.specs.Emissions.{emission}
use Rattle.accounts.specs.Flow.{Standing}
use Rattle.accounts.specs.Accounts.{Account, charges}

-- A unit is a tonne (rule 7.1).
abbrev pub kg_in_unit : ℕ
kg_in_unit = 1000

-- A plant's row: gross and units are rounded down; net and deficit are 0 instead of negative, as m - n is (rule 7.1).
abbrev pub plant_row : (exported fraction stored associated : ℕ) → List ℕ
plant_row exported fraction stored associated =
    let lost = exported - stored in
    let gross = stored * fraction / millionths in
    let net = gross - associated in
    let units = net / kg_in_unit in
    let deficit = associated - gross in
    exported ∷ stored ∷ lost ∷ gross ∷ associated ∷ net ∷ units ∷ deficit ∷ []

-- What is associated with the plant at an index from 0: its own emission and its charges (rule 6.2).
abbrev pub associated : List Line → List Account → ℕ → ℕ
associated lines accounts index = emission plant_owner (suc index) lines + charges index accounts

-- The rows of the plants from an index on; stored is the amount that a plant has after all turns (rules 5.6 and 7.1).
unfoldable pub plant_rows : List Line → List Account → ℕ → List Plant → List Standing → List ℕ
plant_rows lines accounts index [] arrived = []
plant_rows lines accounts index (plant ∷ plants) [] = []
plant_rows lines accounts index (plant ∷ plants) (standing ∷ arrived) =
    plant_row plant.exported plant.fraction standing.amount (associated lines accounts index) ++ plant_rows lines accounts (suc index) plants arrived

-- A segment's row: inflow, outflow, loss, emission and the set of plants (rule 7.2).
abbrev pub segment_row : (inflow outflow emission plants : ℕ) → List ℕ
segment_row inflow outflow emission plants = let lost = inflow - outflow in inflow ∷ outflow ∷ lost ∷ emission ∷ plants ∷ []

-- The rows of the segments, one after another (rule 7.2).
unfoldable pub segment_rows : List Account → List ℕ
segment_rows [] = []
segment_rows (a ∷ accounts) = segment_row a.inflow a.outflow a.emission a.plants ++ segment_rows accounts
