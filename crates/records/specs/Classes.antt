-- The table of classes: which owner may have which class, with which factors, and how the class's grams count.
use Rattle.std.specs.Prelude.{ℕ, ◌≡◌, Bool, true, false, cond, ◌&&◌, ◌||◌, List, [], ◌∷◌, eqb}
use Rattle.fields.specs.Ranges.{up_to}
use Rattle.records.specs.declared.class.Class.{Class}

-- The owner kind of a line that a plant owns (rule 2.8).
abbrev pub plant_owner : ℕ
plant_owner = 0

-- The owner kind of a line that a segment owns (rule 2.8).
abbrev pub segment_owner : ℕ
segment_owner = 1

-- The largest factor, in grams of CO2e for one unit (rule 3.3).
abbrev pub largest_factor : ℕ
largest_factor = 1_000_000_000

-- Grams in a kg: the only factor of what is captured, whose quantity is CO2 in kg (rules 3.3 and 4.3).
abbrev pub grams_in_kg : ℕ
grams_in_kg = 1000

-- A class of emissions: its grams are added, as fuel or not (rules 3.1 and 3.4).
abbrev emits : (code first last : ℕ) (plant segment fuel : Bool) → Class
emits code first last plant segment fuel = record {
  code = code;
  equation = first;
  last_equation = last;
  plant = plant;
  segment = segment;
  added = true;
  fuel = fuel;
  captured = false;
}

-- A class of CO2 that a plant captured: its grams are taken off fuel (rules 3.1 and 3.4).
abbrev captures : (code first last : ℕ) → Class
captures code first last = record {
  code = code;
  equation = first;
  last_equation = last;
  plant = true;
  segment = false;
  added = false;
  fuel = false;
  captured = true;
}

-- The table of classes, row by row: nothing in a file changes it (rules 3.1 and 3.4).
unfoldable pub classes : List Class
classes =
    emits 1 19 19 true false false  -- extra biomass
    ∷ emits 2 20 20 true false false  -- biomass storage, ready amount
    ∷ emits 3 21 21 true true true  -- fuel
    ∷ emits 4 22 22 true true false  -- net electricity
    ∷ emits 5 23 23 true true false  -- net useful heat
    ∷ emits 6 24 24 true true false  -- inputs
    ∷ emits 7 73 74 true true false  -- construction materials
    ∷ emits 8 18 18 true false false  -- waste disposal
    ∷ captures 9 21 21  -- fossil CO2 captured with the rest
    ∷ []

-- What stands for a code that the table does not have: nobody may have it, and its grams count nowhere (rule 3.2).
abbrev pub no_class : Class
no_class = record {
  code = 0;
  equation = 0;
  last_equation = 0;
  plant = false;
  segment = false;
  added = false;
  fuel = false;
  captured = false;
}

-- The first row with this code.
abbrev pub row_of : List Class → ℕ → Class
row_of [] code = no_class
row_of (class ∷ rest) code = cond (eqb class.code code) class (row_of rest code)

-- The class of a code, looked up in the table (rule 3.2).
unfoldable pub class_of : ℕ → Class
class_of = row_of classes

-- What `Class::of` promises: that row (rules 3.1 and 3.2).
abbrev pub ClassPromise : ℕ → Class → Type 0
ClassPromise code r = r ≡ class_of code

-- Whether a row allows its class to an owner of this kind.
abbrev pub allows : Class → ℕ → Bool
allows class owner_kind = eqb owner_kind plant_owner && class.plant || eqb owner_kind segment_owner && class.segment

-- Whether the table has the class, and has it for such an owner (rule 3.2).
abbrev pub class_allowed : (owner_kind code : ℕ) → Bool
class_allowed owner_kind code = allows (class_of code) owner_kind

-- Whether a line of a class may have this factor: any up to the largest, or that of what is captured (rule 3.3).
abbrev pub factor_allowed : (code factor : ℕ) → Bool
factor_allowed code factor = cond (class_of code).captured (eqb factor grams_in_kg) (up_to largest_factor factor)
