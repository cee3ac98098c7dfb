-- Requirement 3 on the lent tables: the theorems about an accepted file's rows, said of what an accepting call leaves in the tables that it
-- was lent. They follow from the call's promise alone.
use Prim.Native.Nat.{ℕ, suc, ◌+◌, ◌≤◌, ◌<◌}
use mathlib.Core.Path.{◌≡◌, refl, sym, ap, ◌∙◌}
use mathlib.Core.Bool.{true}
use mathlib.Core.List.{List, map}
use native.Mathlib.Nat.{mul-le-mul_left}
use Rattle.std.specs.Prelude.{Ok}
use lib.Count.{ones}
use lib.ListN.{length, drop, get_or}
use Rattle.fields.specs.Lists.{sum}
use Rattle.records.specs.Plants.{no_plant}
use Rattle.records.specs.Segments.{no_segment}
use Rattle.records.specs.Classes.{plant_owner}
use Rattle.accounts.specs.Emissions.{emission}
use Rattle.accounts.specs.Flow.{nowhere, passes, Turn}
use Rattle.accounts.specs.Accounts.{has_bit}
use Rattle.accounts.specs.Order.{Ruling, refusal, accepted, plant_row_numbers, segment_row_numbers}
use Rattle.accounts.specs.Quantified.{turns_of, stores}
use Rattle.accounts.specs.Accepted.{Accepted, held}
use Rattle.accounts.specs.RowsAndColumns.{row_at, in_row, column_sum, exported_column, stored_column, associated_column, units_column, inflow_column, outflow_column, loss_column, emission_column, set_column}
use Rattle.accounts.specs.Shares.{turn_at, entering, leaving, charged, own_emissions, credit_of, Credited, SentOn, AddUp}
use Rattle.accounts.specs.Routes.{Alone, AloneInRows}
use Rattle.accounts.specs.Changes.{OneLineLarger, EmissionLine, CapturedLine, OthersOwn, SameFor}
use Rattle.accounts.proofs.Accepting.{accepted_means}
use Rattle.accounts.proofs.RowsAt.{row_front, plant_row_at_lem, plants_long, segments_long, column_same}
use Rattle.accounts.proofs.ProportionalPart.{sent_on_lem, proportional_part, stored_at_store}
use Rattle.accounts.proofs.CreditsAddUp.{credits_add_up, inflow_told, outflow_told}
use Rattle.accounts.proofs.Balance.{balance}
use Rattle.accounts.proofs.AloneOnItsRoute.{alone_on_its_route, sets_tell}
use Rattle.accounts.proofs.LargerLine.{larger_line, larger_captured}
use Rattle.accounts.proofs.OthersFractionAndLines.{others_fraction_and_lines, no_segment_changes}
use Rattle.accounts.proofs.ChargesAddUp.{charges_add_up}
use Rattle.accounts.proofs.ChargesCounted.{charges_of_plant, charges_counted}
use Rattle.period.specs.Written.{Lent, lent, ruling_on, HandsBack, lent_after, Left}

-- ---- the tables hold the rows of an accepted file
record Rows (file plants segments : List ℕ) : Type 0 where
  plants_told : List ℕ
  segments_told : List ℕ
  accepted_file : Accepted file plants_told segments_told
  plant_rows_lem : (index : ℕ) → index < length (held file).plants → row_at plant_row_numbers index plants ≡ row_at plant_row_numbers index plants_told
  segment_rows_lem : (index : ℕ) → index < length (held file).segments → row_at segment_row_numbers index segments ≡ row_at segment_row_numbers index segments_told

-- those that an accepting call left do
rows_left : {file plants segments : List ℕ} → Left file plants segments → Rows file plants segments
rows_left {file} {plants} {segments} left =
    by_ruling (ruling_on file left.before) refl left.promised.hands_back left.promised.leaves
  where
    by_ruling :
        (ruling : Ruling) → ruling_on file left.before ≡ ruling → HandsBack (Ok left.written) ruling →
        lent plants segments ≡ lent_after ruling left.before → Rows file plants segments
    by_ruling (refusal notice) is handed leaves = absurd handed
    by_ruling (accepted plants_told segments_told) is handed leaves =
        let file_accepted : Accepted file plants_told segments_told =
        record { plant_table = length left.before.plants; segment_table = length left.before.segments; answer = is } in
        let means = accepted_means file_accepted in
        record {
          plants_told = plants_told;
          segments_told = segments_told;
          accepted_file = file_accepted;
          plant_rows_lem =
              λ index below.
              ap (λ (tables : Lent). row_at plant_row_numbers index tables.plants) leaves
              ∙ row_front
              plant_row_numbers index plants_told (drop (length plants_told) left.before.plants)
              (rw (plants_long means) (mul-le-mul_left plant_row_numbers below));
          segment_rows_lem =
              λ index below.
              ap (λ (tables : Lent). row_at segment_row_numbers index tables.segments) leaves
              ∙ row_front
              segment_row_numbers index segments_told (drop (length segments_told) left.before.segments)
              (rw (segments_long means) (mul-le-mul_left segment_row_numbers below));
        }

-- ---- one call
module _ {file plants segments : List ℕ} (left : Left file plants segments) where
  -- how many plants and segments the file's period has
  abbrev P : ℕ
  P = length (held file).plants

  abbrev S : ℕ
  S = length (held file).segments

  -- a number of a row is that of the accepted file
  of_plant : (p column : ℕ) → p < P → in_row plant_row_numbers p column plants ≡ in_row plant_row_numbers p column (rows_left left).plants_told
  of_plant p column plant = ap (λ (row : List ℕ). get_or row column 0) ((rows_left left).plant_rows_lem p plant)

  of_segment : (s column : ℕ) → s < S → in_row segment_row_numbers s column segments ≡ in_row segment_row_numbers s column (rows_left left).segments_told
  of_segment s column segment = ap (λ (row : List ℕ). get_or row column 0) ((rows_left left).segment_rows_lem s segment)

  -- Proportional part (rule 13.4): if the segment's row shows inflow, each plant is credited its proportional part
  pub proportional_part_left :
      (s p : ℕ) → s < S → p < P → 0 < in_row segment_row_numbers s inflow_column segments → Credited (turn_at (held file) s) p
  proportional_part_left s p segment plant some =
      proportional_part (rows_left left).accepted_file s p segment plant
      (rw (inflow_told (rows_left left).accepted_file s segment, ← of_segment s inflow_column segment) some)

  -- every plant is sent on with its credit if its route passes, else it stays
  pub sent_on_left : (s p : ℕ) → s < S → p < P → SentOn (turn_at (held file) s) p
  sent_on_left = sent_on_lem (rows_left left).accepted_file

  -- and the credit at the store stands in its row
  pub stored_at_store_left :
      (s p : ℕ) → s < S → p < P →
      passes (turn_at (held file) s).own (get_or (turn_at (held file) s).standings p nowhere) ≡ true → (turn_at (held file) s).segment.next ≡ 0 →
      in_row plant_row_numbers p stored_column plants ≡ credit_of (turn_at (held file) s) p
  stored_at_store_left s p segment plant here last =
      of_plant p stored_column plant ∙ stored_at_store (rows_left left).accepted_file s p segment plant here last

  -- as does what it exported
  pub exported_left : (p : ℕ) → p < P → in_row plant_row_numbers p exported_column plants ≡ (get_or (held file).plants p no_plant).exported
  exported_left p plant =
      of_plant p exported_column plant
      ∙ ap (λ (row : List ℕ). get_or row exported_column 0) (plant_row_at_lem (accepted_means (rows_left left).accepted_file) p plant)

  -- and the amount that it has after the last segment
  pub stored_left : (p : ℕ) → p < P → in_row plant_row_numbers p stored_column plants ≡ (get_or (stores (held file)) p nowhere).amount
  stored_left p plant =
      of_plant p stored_column plant
      ∙ ap (λ (row : List ℕ). get_or row stored_column 0) (plant_row_at_lem (accepted_means (rows_left left).accepted_file) p plant)

  -- Credits add up (rule 13.5): what the plants bring is the inflow of the segment's row, and their credits are the outflow there, the metered one
  pub credits_add_up_left :
      (s : ℕ) → s < S →
      (sum (entering (turn_at (held file) s)) ≡ in_row segment_row_numbers s inflow_column segments)
      × (sum (leaving (turn_at (held file) s)) ≡ in_row segment_row_numbers s outflow_column segments)
      × (in_row segment_row_numbers s outflow_column segments ≡ (get_or (held file).segments s no_segment).outflow)
  credits_add_up_left s segment =
      let given = (rows_left left).accepted_file in
      let out = outflow_told given s segment ∙ sym (of_segment s outflow_column segment) in
      (inflow_told given s segment ∙ sym (of_segment s inflow_column segment), out, sym out ∙ credits_add_up given s segment)

  -- Balance (rule 13.6): all exports are all that is stored and what every segment lost
  pub balance_left :
      column_sum plant_row_numbers exported_column P plants ≡ column_sum plant_row_numbers stored_column P plants + column_sum segment_row_numbers loss_column S segments
  balance_left =
      rw (
        column_same plant_row_numbers exported_column P (rows_left left).plants_told plants (rows_left left).plant_rows_lem,
        column_same plant_row_numbers stored_column P (rows_left left).plants_told plants (rows_left left).plant_rows_lem,
        column_same segment_row_numbers loss_column S (rows_left left).segments_told segments (rows_left left).segment_rows_lem,
      )
      (balance (rows_left left).accepted_file)

  -- Charges add up (rule 13.10): what a segment charges is no less than its emission, and less than that and one kg for each plant of its set
  pub charges_add_up_left :
      (s : ℕ) → s < S →
      AddUp
      (in_row segment_row_numbers s emission_column segments)
      (in_row segment_row_numbers s inflow_column segments)
      (ones (in_row segment_row_numbers s set_column segments))
      (sum (charged (held file).lines (turn_at (held file) s)))
  charges_add_up_left s segment =
      rw (of_segment s emission_column segment, of_segment s inflow_column segment, of_segment s set_column segment)
      (charges_add_up (rows_left left).accepted_file s segment)

  -- Charges counted (rule 6.2): what is associated with a plant is its own emissions and what each segment charges it
  pub charges_of_plant_left :
      (p : ℕ) → p < P →
      in_row plant_row_numbers p associated_column plants
      ≡ emission plant_owner (suc p) (held file).lines
      + sum (map (λ (turn : Turn). get_or (charged (held file).lines turn) p 0) (turns_of (held file)))
  charges_of_plant_left p plant = of_plant p associated_column plant ∙ charges_of_plant (rows_left left).accepted_file p plant

  -- and with all plants, their own emissions and the charges of all segments
  pub charges_counted_left :
      column_sum plant_row_numbers associated_column P plants
      ≡ sum (own_emissions (held file).lines P) + sum (map (λ (turn : Turn). sum (charged (held file).lines turn)) (turns_of (held file)))
  charges_counted_left =
      column_same plant_row_numbers associated_column P (rows_left left).plants_told plants (rows_left left).plant_rows_lem
      ∙ charges_counted (rows_left left).accepted_file

  -- Alone on its route (rule 13.8): the sets in the segments' rows tell that a plant is alone on its route
  pub sets_tell_left : (index : ℕ) → index < P → AloneInRows segments S index → Alone (held file) index
  sets_tell_left index there alone =
      (sets_tell (rows_left left).accepted_file index there).0
      (λ s segment has.
      sym (of_segment s set_column segment) ∙ alone s segment (ap (λ (set : ℕ). has_bit set index) (of_segment s set_column segment) ∙ has))

-- ---- two calls
module _
    {file₁ plants₁ segments₁ file₂ plants₂ segments₂ : List ℕ} (left₁ : Left file₁ plants₁ segments₁) (left₂ : Left file₂ plants₂ segments₂)
  where
    -- a plant that is in both and has the same row in both files' numbers has it in both tables
    same_plant_row :
        (index : ℕ) → index < length (held file₁).plants → index < length (held file₂).plants →
        row_at plant_row_numbers index (rows_left left₂).plants_told ≡ row_at plant_row_numbers index (rows_left left₁).plants_told →
        row_at plant_row_numbers index plants₂ ≡ row_at plant_row_numbers index plants₁
    same_plant_row index below₁ below₂ same =
        (rows_left left₂).plant_rows_lem index below₂ ∙ same ∙ sym ((rows_left left₁).plant_rows_lem index below₁)

    -- Larger line (rule 13.7): the period with the larger line gives no plant more units
    pub larger_line_left :
        (larger : OneLineLarger (held file₁) (held file₂)) (index : ℕ) → index < length (held file₁).plants → EmissionLine larger.line →
        in_row plant_row_numbers index units_column plants₂ ≤ in_row plant_row_numbers index units_column plants₁
    larger_line_left larger index below emits =
        rw (of_plant left₂ index units_column (rw larger.plants below), of_plant left₁ index units_column below)
        (larger_line (rows_left left₁).accepted_file (rows_left left₂).accepted_file larger index below emits)

    -- Larger captured line (rule 13.12): the period with the larger line gives no plant fewer units
    pub larger_captured_left :
        (larger : OneLineLarger (held file₁) (held file₂)) (index : ℕ) → index < length (held file₁).plants → CapturedLine larger.line →
        in_row plant_row_numbers index units_column plants₁ ≤ in_row plant_row_numbers index units_column plants₂
    larger_captured_left larger index below captures =
        rw (of_plant left₂ index units_column (rw larger.plants below), of_plant left₁ index units_column below)
        (larger_captured (rows_left left₁).accepted_file (rows_left left₂).accepted_file larger index below captures)

    -- Alone on its route (rule 13.8): a plant that is alone on its route in both, and the same, has the same row
    pub alone_on_its_route_left :
        (index : ℕ) → index < length (held file₁).plants → index < length (held file₂).plants → SameFor index (held file₁) (held file₂) →
        Alone (held file₁) index → Alone (held file₂) index → row_at plant_row_numbers index plants₂ ≡ row_at plant_row_numbers index plants₁
    alone_on_its_route_left index there₁ there₂ same alone₁ alone₂ =
        same_plant_row index there₁ there₂
        (alone_on_its_route (rows_left left₁).accepted_file (rows_left left₂).accepted_file index there₁ there₂ same alone₁ alone₂)

    -- also if the sets in the segments' rows tell that it is alone
    pub alone_by_sets_left :
        (index : ℕ) → index < length (held file₁).plants → index < length (held file₂).plants → SameFor index (held file₁) (held file₂) →
        AloneInRows segments₁ (length (held file₁).segments) index → AloneInRows segments₂ (length (held file₂).segments) index →
        row_at plant_row_numbers index plants₂ ≡ row_at plant_row_numbers index plants₁
    alone_by_sets_left index there₁ there₂ same alone₁ alone₂ =
        alone_on_its_route_left index there₁ there₂ same (sets_tell_left left₁ index there₁ alone₁) (sets_tell_left left₂ index there₂ alone₂)

    -- Other plants' fractions and lines (rule 13.9): they do not change the row of the plant that stays the same
    pub others_fraction_and_lines_left :
        (index : ℕ) → index < length (held file₁).plants → OthersOwn index (held file₁) (held file₂) →
        row_at plant_row_numbers index plants₂ ≡ row_at plant_row_numbers index plants₁
    others_fraction_and_lines_left index below change =
        same_plant_row index below (rw change.count below)
        (others_fraction_and_lines (rows_left left₁).accepted_file (rows_left left₂).accepted_file index below change)

    -- nor any segment's
    pub no_segment_changes_left :
        (index : ℕ) → OthersOwn index (held file₁) (held file₂) → (s : ℕ) → s < length (held file₁).segments →
        row_at segment_row_numbers s segments₂ ≡ row_at segment_row_numbers s segments₁
    no_segment_changes_left index change s below =
        (rows_left left₂).segment_rows_lem s (rw change.segments below)
        ∙ ap
        (row_at segment_row_numbers s)
        (no_segment_changes (rows_left left₁).accepted_file (rows_left left₂).accepted_file index change)
        ∙ sym ((rows_left left₁).segment_rows_lem s below)
