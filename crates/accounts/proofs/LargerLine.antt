-- More of a quantity in one line, and all else the same, if both periods are accepted: in a line of emissions no plant gains a unit by it
-- (rule 13.7), in a line of CO2 captured none loses one (rule 13.12). Whose line it is does not matter. The flow does not depend on lines, so
-- every plant stores the same in both periods. Where no owner emits less, no plant is charged less at any segment, and what is associated with
-- it can only lower its net amount.
use Prim.Native.Nat.{ℕ, suc, ◌+◌, ◌≤◌, ◌<◌}
use mathlib.Core.Path.{◌≡◌, sym}
use mathlib.Core.Bool.{Bool, true, false, cond, and-false}
use mathlib.Core.List.{List, [], ◌∷◌, map}
use native.Mathlib.Nat.{mul-le-mul_right}
use native.Mathlib.Omega.{arith}
use lib.ListN.{length, get_or}
use Rattle.fields.specs.Lists.{sum}
use Rattle.records.specs.declared.plant.Plant.{Plant}
use Rattle.records.specs.declared.line.Line.{Line}
use Rattle.records.specs.Plants.{no_plant}
use Rattle.records.specs.Classes.{plant_owner, segment_owner, grams_in_kg}
use Rattle.records.specs.Lines.{line_of}
use Rattle.records.specs.Periods.{Period}
use Rattle.records.proofs.Classes.{added_alone, captured_alone}
use Rattle.accounts.specs.Emissions.{grams, owned_by, grams_of, of_classes, is_added, is_captured, emission}
use Rattle.accounts.specs.Flow.{nowhere, Turn}
use Rattle.accounts.specs.Accounts.{account, charges}
use Rattle.accounts.specs.Rows.{kg_in_unit, plant_row, associated}
use Rattle.accounts.specs.Order.{plant_row_numbers}
use Rattle.accounts.specs.Quantified.{turns_of, accounts_of, stores}
use Rattle.accounts.specs.Accepted.{Accepted, held}
use Rattle.accounts.specs.RowsAndColumns.{in_row, units_column}
use Rattle.accounts.specs.Changes.{OneLineLarger, EmissionLine, CapturedLine}
use Rattle.accounts.proofs.Credits.{div_mono}
use Rattle.accounts.proofs.OwnersLines.{grams_with, grams_of_both}
use Rattle.accounts.proofs.Charges.{charge_no_less}
use Rattle.accounts.proofs.Accepting.{accepted_means}
use Rattle.accounts.proofs.RowsAt.{plant_row_at_lem}

-- ---- with one line's larger quantity, an owner's grams of some classes
module _ {one two : Period} (larger : OneLineLarger one two) (these : ℕ → Bool) (owner_kind owner : ℕ) where
  abbrev its : Line → Bool
  its = of_classes these owner_kind owner

  -- the line with its larger quantity
  abbrev other : Line
  other = let line = larger.line in line_of line.owner_kind line.owner line.class larger.quantity line.factor

  -- what the lines give in both periods
  smaller_is : grams_of its one.lines ≡ grams_of its larger.before + (cond (its larger.line) (grams larger.line) 0 + grams_of its larger.after)
  smaller_is =
      rw larger.lines (omega (arith, grams_of_both its larger.before (larger.line ∷ larger.after), grams_with its larger.line larger.after))

  larger_is : grams_of its two.lines ≡ grams_of its larger.before + (cond (its larger.line) (grams other) 0 + grams_of its larger.after)
  larger_is =
      rw larger.lines_larger (omega (arith, grams_of_both its larger.before (other ∷ larger.after), grams_with its other larger.after))

  -- are no less
  grams_no_less : grams_of its one.lines ≤ grams_of its two.lines
  grams_no_less = omega (arith, smaller_is, larger_is, by_owner (its larger.line))
    where
      by_owner : (t : Bool) → cond t (grams larger.line) 0 ≤ cond t (grams other) 0
      by_owner true = mul-le-mul_right larger.line.factor larger.no_less
      by_owner false = omega arith

  -- and are the same if the line is of none of these classes
  grams_same : these larger.line.class ≡ false → grams_of its two.lines ≡ grams_of its one.lines
  grams_same none =
      let left_out : its larger.line ≡ false = rw none (and-false (owned_by owner_kind owner larger.line)) in
      omega (arith, rw left_out at smaller_is, rw left_out at larger_is)

-- ---- so is every owner's emission
module _ {one two : Period} (larger : OneLineLarger one two) (owner_kind owner : ℕ) where
  -- no less, if the line's grams are added
  emission_no_less : EmissionLine larger.line → emission owner_kind owner one.lines ≤ emission owner_kind owner two.lines
  unfolding emission
  emission_no_less emits =
      div_mono
      grams_in_kg _ _
      (omega
      (arith, grams_no_less larger is_added owner_kind owner, grams_same larger is_captured owner_kind owner (added_alone larger.line.class emits)))

  -- and no more, if they are taken off
  emission_no_more : CapturedLine larger.line → emission owner_kind owner two.lines ≤ emission owner_kind owner one.lines
  unfolding emission
  emission_no_more captures =
      div_mono
      grams_in_kg _ _
      (omega
      (arith, grams_no_less larger is_captured owner_kind owner, grams_same larger is_added owner_kind owner (captured_alone larger.line.class captures)))

-- ---- two periods with the same plants and segments, in the second of which no owner emits less
pub record NoLess (one two : Period) : Type 0 where
  pub plants : two.plants ≡ one.plants
  pub segments : two.segments ≡ one.segments
  pub emissions : (owner_kind owner : ℕ) → emission owner_kind owner one.lines ≤ emission owner_kind owner two.lines

module _ {one two : Period} (no_less : NoLess one two) where
  -- all charges of a plant are no less: its amounts and the inflows are the same
  charges_no_less :
      (index : ℕ) (turns : List Turn) → charges index (map (account one.lines) turns) ≤ charges index (map (account two.lines) turns)
  unfolding sum
  charges_no_less index [] = omega arith
  charges_no_less index (turn ∷ turns) =
      omega (
        arith,
        charge_no_less one.lines two.lines turn (no_less.emissions segment_owner turn.own) index,
        charges_no_less index turns,
      )

  -- the turns are the same, as they do not depend on lines; and so are the plants
  turns_unchanged : turns_of two ≡ turns_of one
  turns_unchanged = cc

  stores_unchanged : stores two ≡ stores one
  stores_unchanged = cc

  plant_unchanged : (index : ℕ) → get_or two.plants index no_plant ≡ get_or one.plants index no_plant
  plant_unchanged index = cc

  -- what is associated with a plant is no less
  associated_no_less : (index : ℕ) → associated one.lines (accounts_of one) index ≤ associated two.lines (accounts_of two) index
  unfolding accounts_of
  associated_no_less index =
      rw turns_unchanged (omega (arith, no_less.emissions plant_owner (suc index), charges_no_less index (turns_of one)))

-- ---- the units of a plant that stores the same, if no less is associated with it
units_no_more :
    (plant : Plant) (stored less more : ℕ) → less ≤ more →
    get_or (plant_row plant.exported plant.fraction stored more) units_column 0 ≤ get_or (plant_row plant.exported plant.fraction stored less) units_column 0
units_no_more plant stored less more h = div_mono kg_in_unit _ _ (omega arith)

-- so it is with the units in the plant's row
units_in_row :
    {file₁ plants₁ segments₁ file₂ plants₂ segments₂ : List ℕ} → Accepted file₁ plants₁ segments₁ → Accepted file₂ plants₂ segments₂ →
    NoLess (held file₁) (held file₂) → (index : ℕ) → index < length (held file₁).plants →
    in_row plant_row_numbers index units_column plants₂ ≤ in_row plant_row_numbers index units_column plants₁
units_in_row {file₁} accepted₁ accepted₂ no_less index below =
    rw (
      plant_row_at_lem (accepted_means accepted₂) index (rw no_less.plants below),
      plant_row_at_lem (accepted_means accepted₁) index below,
      stores_unchanged no_less,
      plant_unchanged no_less index,
    )
    (units_no_more (get_or (held file₁).plants index no_plant) (get_or (stores (held file₁)) index nowhere).amount _ _ (associated_no_less no_less index))

-- ---- one line's larger quantity
module _
    {file₁ plants₁ segments₁ file₂ plants₂ segments₂ : List ℕ} (accepted₁ : Accepted file₁ plants₁ segments₁) (accepted₂ : Accepted file₂ plants₂ segments₂)
    (larger : OneLineLarger (held file₁) (held file₂)) (index : ℕ) (below : index < length (held file₁).plants) where
  -- gives no plant more units, if it is a line of emissions
  pub larger_line : EmissionLine larger.line → in_row plant_row_numbers index units_column plants₂ ≤ in_row plant_row_numbers index units_column plants₁
  larger_line emits =
      units_in_row accepted₁ accepted₂
      (record { plants = larger.plants; segments = larger.segments; emissions = λ owner_kind owner. emission_no_less larger owner_kind owner emits })
      index below

  -- and no plant fewer, if it is one of CO2 captured
  pub larger_captured : CapturedLine larger.line → in_row plant_row_numbers index units_column plants₁ ≤ in_row plant_row_numbers index units_column plants₂
  larger_captured captures =
      units_in_row accepted₂ accepted₁
      (record {
        plants = sym larger.plants;
        segments = sym larger.segments;
        emissions = λ owner_kind owner. emission_no_more larger owner_kind owner captures;
      })
      index (rw larger.plants below)
