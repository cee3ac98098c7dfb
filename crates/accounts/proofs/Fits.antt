-- Every number of both tables of an accepted file fits the 64 bits of its entry. No amount is over the largest number of a file,
-- since none grows on its way; and no emission is, since no owner's grams pass the limit.
use Prim.Native.Nat.{ℕ, zero, suc, ◌+◌, ◌-◌, ◌*◌, ◌/◌, ◌%◌, ◌^◌, ◌≤◌, ◌<◌}
use mathlib.Core.Path.{◌≡◌, sym, ap, ◌∙◌}
use mathlib.Core.List.{List, [], ◌∷◌, map}
use native.Mathlib.Nat.{le_trans, lt_of_lt_of_le, div-add-mod, mod-lt, mul-le-mul_left, div-mul-le_self}
use native.Mathlib.Decide.{dec_le}
use native.Mathlib.Omega.{arith}
use lib.ListN.{length, get_or, drop, get_or-eq_default}
use lib.Pow.{pow_mono}
use lib.Seq.{get_or-take, get_or-drop}
use Rattle.number.specs.Groups.{largest}
use Rattle.fields.specs.Lists.{sum, Each}
use Rattle.fields.proofs.Sums.{part_of_sum}
use Rattle.records.specs.declared.counts.Counts.{Counts}
use Rattle.records.specs.declared.plant.Plant.{Plant}
use Rattle.records.specs.Plants.{no_plant, millionths}
use Rattle.records.specs.Segments.{most_segments}
use Rattle.records.specs.Classes.{plant_owner, segment_owner, grams_in_kg}
use Rattle.records.specs.Periods.{Period}
use Rattle.records.specs.Within.{counts_of, PlantWithin}
use Rattle.records.proofs.Within.{each_at}
use Rattle.accounts.specs.Emissions.{added_grams, captured_grams, emission}
use Rattle.accounts.specs.Flow.{Standing, nowhere, at_first, brings, Turn, arrived}
use Rattle.accounts.specs.Accounts.{Account, account, charge_to, charges}
use Rattle.accounts.specs.Rows.{kg_in_unit, plant_row, associated, segment_row}
use Rattle.accounts.specs.Order.{plant_row_numbers, segment_row_numbers}
use Rattle.accounts.specs.Quantified.{started, turns_of, accounts_of, stores}
use Rattle.accounts.specs.Accepted.{Accepted}
use Rattle.accounts.specs.RowsAndColumns.{row_at, in_row, entry_bits, Entries}
use Rattle.accounts.specs.Shares.{turn_at, account_at, entering, leaving}
use Rattle.accounts.proofs.Credits.{up_most, credited_most}
use Rattle.accounts.proofs.Charges.{charge_within}
use Rattle.accounts.proofs.Sets.{set_below}
use Rattle.accounts.proofs.Passing.{get_d_map, one_sent, turns_length}
use Rattle.accounts.proofs.Accepting.{Means, accepted_means}
use Rattle.accounts.proofs.RowsAt.{plant_row_at_lem, segment_row_at_lem, plants_long, segments_long}
use Rattle.accounts.proofs.TurnsOfPeriod.{after, after_all, turn_standings, turn_plants, turned, sent, outflow_most}

-- ---- a table, row by row
-- a number of a table is one of its row
in_its_row : (numbers : ℕ) (table : List ℕ) (i : ℕ) → 0 < numbers → get_or table i 0 ≡ in_row numbers (i / numbers) (i % numbers) table
in_its_row numbers table i some =
    ap (λ (at : ℕ). get_or table at 0) (sym (div-add-mod i numbers))
    ∙ sym (get_or-drop (numbers * (i / numbers)) table (i % numbers) 0)
    ∙ sym (get_or-take numbers (drop (numbers * (i / numbers)) table) (i % numbers) 0 (mod-lt i some))

-- if the numbers of every row are entries, those of the table are
entries_by_rows :
    (numbers count : ℕ) (table : List ℕ) → 0 < numbers → length table ≡ numbers * count →
    ((index : ℕ) → index < count → Entries (row_at numbers index table)) → Entries table
entries_by_rows numbers count table some long each i = by_row (dec_le (suc (i / numbers)) count)
  where
    by_row : Dec (i / numbers < count) → get_or table i 0 < 2 ^ entry_bits
    by_row (yes inside) = rw (in_its_row numbers table i some) (each (i / numbers) inside (i % numbers))
    by_row (no behind) =
        let after : numbers * count ≤ numbers * (i / numbers) = mul-le-mul_left numbers (omega (arith, behind)) in
        let past : length table ≤ i = omega (arith, long, after, div-add-mod i numbers) in
        rw (get_or-eq_default table 0 past) (omega arith)

-- the numbers of a row, one by one
abbrev EachFits : ℕ → List ℕ → Type 0
EachFits = Each (λ (at number : ℕ). number < 2 ^ entry_bits)

-- if each fits, they are entries
row_entries : (at : ℕ) (row : List ℕ) → EachFits at row → Entries row
unfolding Each
row_entries at [] all i = omega arith
row_entries at (number ∷ row) all zero = all.0
row_entries at (number ∷ row) all (suc i) = row_entries (suc at) row all.1 i

-- ---- the numbers of one row
-- a plant's, if no more is stored than was exported
plant_row_fits :
    (counts : Counts) (own : ℕ) (plant : Plant) (stored associated : ℕ) → PlantWithin counts own plant → stored ≤ plant.exported →
    associated ≤ largest + most_segments * largest → EachFits 0 (plant_row plant.exported plant.fraction stored associated)
unfolding Each
plant_row_fits counts own plant stored associated within kept few =
    let fraction = mul-le-mul_left stored within.fraction in
    let gross = div-mul-le_self (stored * plant.fraction) millionths in
    let net = stored * plant.fraction / millionths - associated in
    omega (arith, within.exported, gross, fraction, div-mul-le_self net kg_in_unit)

-- a segment's, if no more flows out than in
segment_row_fits :
    (inflow outflow emission plants : ℕ) → inflow ≤ largest → outflow ≤ inflow → emission ≤ largest → plants < 2 ^ entry_bits →
    EachFits 0 (segment_row inflow outflow emission plants)
unfolding Each
segment_row_fits inflow outflow emission plants small less few members = omega arith

-- ---- no plant's amount grows on its way, as long as no more leaves a segment than enters it
pub kept_so_far :
    (period : Period) (p : ℕ) → p < length period.plants → (s : ℕ) → s ≤ length period.segments →
    ((j : ℕ) → j < s → (turn_at period j).segment.outflow ≤ sum (entering (turn_at period j))) →
    (get_or (after period s) p nowhere).amount ≤ (get_or period.plants p no_plant).exported
unfolding arrived
kept_so_far period p plant zero fits less = rw (get_d_map at_first period.plants p no_plant nowhere plant) (omega arith)
kept_so_far period p plant (suc s) fits less =
    let below : s < length period.segments = omega (arith, fits) in
    let turn : Turn = turn_at period s in
    let standing : Standing = get_or turn.standings p nowhere in
    let credit : ℕ = get_or (leaving turn) p 0 in
    let brought : get_or (entering turn) p 0 ≡ brings turn.own standing =
    get_d_map (brings turn.own) turn.standings p nowhere 0 (rw (turn_plants period s below) plant) in
    let most : credit ≤ brings turn.own standing =
    rw brought at (credited_most turn.segment.outflow (entering turn) p (less s (omega arith))) in
    let before = rw (← turn_standings period s below) at (kept_so_far period p plant s (omega (arith, fits)) (λ j early. less j (omega (arith, early)))) in
    rw (turned period s below, sent period s p below plant)
    (omega (arith, one_sent turn.own turn.segment.next standing credit most, most, before))

-- ---- an accepted period
module _ {period : Period} {plants segments : List ℕ} (means : Means period plants segments) where
  -- no emission is over the largest number of a file
  emission_most : (owner_kind owner : ℕ) → emission owner_kind owner period.lines ≤ largest
  unfolding emission
  emission_most owner_kind owner =
      up_most
      grams_in_kg (added_grams owner_kind owner period.lines - captured_grams owner_kind owner period.lines) largest
      (omega (arith, means.grams owner_kind owner))

  -- nor is any charge, as no plant brings more than the inflow
  charge_largest : (index : ℕ) (turn : Turn) → charge_to index (account period.lines turn) ≤ largest
  unfolding account
  charge_largest index turn =
      le_trans
      (charge_within (account period.lines turn) (get_or (entering turn) index 0) (part_of_sum (entering turn) index))
      (emission_most segment_owner turn.own)

  -- all charges of a plant are at most the largest number for each segment
  charges_most : (index : ℕ) (all : List Turn) → charges index (map (account period.lines) all) ≤ length all * largest
  unfolding sum
  charges_most index [] = omega arith
  charges_most index (turn ∷ all) = omega (arith, charge_largest index turn, charges_most index all)

  -- so what is associated with a plant is at most the largest number for its own lines and for each of the most segments
  associated_most : (index : ℕ) → associated period.lines (accounts_of period) index ≤ largest + most_segments * largest
  unfolding accounts_of
  associated_most index =
      omega (
        arith,
        emission_most plant_owner (suc index),
        charges_most index (turns_of period),
        turns_length 1 period.segments (started period),
        means.within.counts.most_segments_is,
      )

  -- no plant stores more than it exported
  stored_most : (p : ℕ) → p < length period.plants → (get_or (stores period) p nowhere).amount ≤ (get_or period.plants p no_plant).exported
  stored_most p plant = rw (← after_all period) (kept_so_far period p plant (length period.segments) (omega arith) (outflow_most means))

  -- ---- the two tables
  plants_fit : Entries plants
  plants_fit =
      entries_by_rows plant_row_numbers (length period.plants) plants (omega arith) (plants_long means) (λ p plant.
      let within = each_at (PlantWithin (counts_of period)) 1 period.plants p no_plant (suc p) (omega arith) plant means.within.plants in
      rw (plant_row_at_lem means p plant)
      (row_entries 0 _
      (plant_row_fits (counts_of period) (suc p) (get_or period.plants p no_plant) (get_or (stores period) p nowhere).amount
      (associated period.lines (accounts_of period) p) within (stored_most p plant) (associated_most p))))

  segments_fit : Entries segments
  unfolding account
  segments_fit =
      entries_by_rows segment_row_numbers (length period.segments) segments (omega arith) (segments_long means) (λ s below.
      let a : Account = account_at period s in
      let turn : Turn = turn_at period s in
      let sound = means.sound s below in
      let few : 2 ^ length turn.standings ≤ 2 ^ entry_bits =
      pow_mono {j = entry_bits} (omega (arith, turn_plants period s below, means.within.counts.most_plants_is)) in
      rw (segment_row_at_lem means s below)
      (row_entries 0 _
      (segment_row_fits a.inflow a.outflow a.emission a.plants sound.inflow sound.outflow (emission_most segment_owner turn.own)
      (lt_of_lt_of_le (set_below turn.own turn.standings) few))))

-- so it is in every file that the call accepts
pub rows_fit : {file plants segments : List ℕ} → Accepted file plants segments → Entries plants × Entries segments
rows_fit given = (plants_fit (accepted_means given), segments_fit (accepted_means given))
