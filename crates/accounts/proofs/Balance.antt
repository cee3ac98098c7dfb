-- In every file that the call accepts, no kg of CO2 appears or vanishes: what all plants export is what all of them have stored, and what every
-- segment lost by its meters. This is said of the rows that the call gives.
use Prim.Native.Nat.{ℕ, zero, suc, ◌+◌, ◌-◌, ◌≤◌, ◌<◌}
use mathlib.Core.Path.{◌≡◌, refl, sym, ap, ◌∙◌}
use mathlib.Core.List.{List, [], ◌∷◌, map, zip_with}
use native.Mathlib.Omega.{arith}
use lib.ListN.{length, length-map, get_or}
use lib.Seq.{take_all}
use Rattle.fields.specs.Lists.{sum}
use Rattle.records.specs.Plants.{no_plant}
use Rattle.records.specs.Periods.{Period}
use Rattle.accounts.specs.Flow.{Standing, nowhere, at_first, amounts, credits, sent_on, passed, Turn, arrived}
use Rattle.accounts.specs.Accounts.{account}
use Rattle.accounts.specs.Order.{plant_row_numbers, segment_row_numbers}
use Rattle.accounts.specs.Quantified.{started, stores}
use Rattle.accounts.specs.Accepted.{Accepted, held}
use Rattle.accounts.specs.RowsAndColumns.{in_row, column_sum, exported_column, stored_column, loss_column}
use Rattle.accounts.specs.Shares.{turn_at, entering, afterwards}
use Rattle.accounts.proofs.Credits.{credits_sum, credited_most}
use Rattle.accounts.proofs.Passing.{get_d_map, one_sent, credited}
use Rattle.accounts.proofs.Accepting.{Means, accepted_means}
use Rattle.accounts.proofs.RowsAt.{plant_row_at_lem, segment_row_at_lem, column_is}
use Rattle.accounts.proofs.TurnsOfPeriod.{after, after_all, after_length, turn_standings, turned, outflow_most}

-- the amounts of all plants, wherever they stand
abbrev amount_held : Standing → ℕ
amount_held standing = standing.amount

abbrev amounts_held : List Standing → List ℕ
amounts_held = map amount_held

-- ---- one turn
module _ (own next : ℕ) where
  -- all plants, one by one
  all_sent :
      (standings : List Standing) (shares : List ℕ) → length shares ≡ length standings →
      ((p : ℕ) → get_or shares p 0 ≤ get_or (amounts own standings) p 0) →
      sum (amounts_held (zip_with (sent_on own next) standings shares)) + sum (amounts own standings) ≡ sum (amounts_held standings) + sum shares
  unfolding sum zip_with
  all_sent [] [] long less = refl
  all_sent [] (share ∷ shares) long less = absurd (omega (arith, long))
  all_sent (standing ∷ standings) [] long less = absurd (omega (arith, long))
  all_sent (standing ∷ standings) (share ∷ shares) long less =
      let first = one_sent own next standing share (less 0) in
      let others = all_sent standings shares (omega (arith, long)) (λ p. less (suc p)) in
      omega (arith, first, others)

-- all plants together give the inflow for the outflow
one_turn :
    (turn : Turn) → turn.segment.outflow ≤ sum (entering turn) →
    sum (amounts_held (afterwards turn)) + sum (entering turn) ≡ sum (amounts_held turn.standings) + turn.segment.outflow
unfolding passed
one_turn turn less =
    let shares = credits turn.segment.outflow (entering turn) in
    let sent = all_sent turn.own turn.segment.next turn.standings shares (credited turn.own turn.segment turn.standings) (λ p.
    credited_most turn.segment.outflow (entering turn) p less) in
    rw (credits_sum turn.segment.outflow (entering turn) less) at sent

-- ---- all turns of an accepted period
module _ {period : Period} {plants segments : List ℕ} (means : Means period plants segments) where
  -- what a segment lost by its meters
  loss_told :
      (s : ℕ) → s < length period.segments →
      in_row segment_row_numbers s loss_column segments ≡ sum (entering (turn_at period s)) - (turn_at period s).segment.outflow
  unfolding account
  loss_told s below = ap (λ (row : List ℕ). get_or row loss_column 0) (segment_row_at_lem means s below)

  -- the exports are what is still held after s turns, and what was lost in them
  lost_so_far :
      (s : ℕ) → s ≤ length period.segments →
      sum (amounts_held (started period)) ≡ sum (amounts_held (after period s)) + column_sum segment_row_numbers loss_column s segments
  unfolding arrived column_sum
  lost_so_far zero fits = omega arith
  lost_so_far (suc s) fits =
      let below : s < length period.segments = omega (arith, fits) in
      let now = ap (λ (standings : List Standing). sum (amounts_held standings)) (turn_standings period s below) in
      let then = ap (λ (standings : List Standing). sum (amounts_held standings)) (turned period s below) in
      let less = outflow_most means s below in
      omega (arith, lost_so_far s (omega (arith, fits)), one_turn (turn_at period s) less, less, now, then, loss_told s below)

  -- ---- a column of the plants' rows that holds their amounts adds up to these
  column_held :
      (column : ℕ) (standings : List Standing) → length standings ≡ length period.plants →
      ((p : ℕ) → p < length period.plants → in_row plant_row_numbers p column plants ≡ (get_or standings p nowhere).amount) →
      column_sum plant_row_numbers column (length period.plants) plants ≡ sum (amounts_held standings)
  column_held column standings long same =
      let counted : length (amounts_held standings) ≡ length period.plants = length-map standings amount_held ∙ long in
      column_is plant_row_numbers column (length period.plants) plants (amounts_held standings) (omega (arith, counted)) (λ p plant.
      same p plant ∙ sym (get_d_map amount_held standings p nowhere 0 (rw long plant)))
      ∙ ap sum (take_all (length period.plants) (amounts_held standings) (omega (arith, counted)))

  -- they start with what they export
  exported_told : column_sum plant_row_numbers exported_column (length period.plants) plants ≡ sum (amounts_held (started period))
  exported_told = column_held exported_column (started period) (length-map period.plants at_first) (λ p plant.
      ap (λ (row : List ℕ). get_or row exported_column 0) (plant_row_at_lem means p plant)
      ∙ sym (ap amount_held (get_d_map at_first period.plants p no_plant nowhere plant)))

  -- and end with what they have stored
  stored_told : column_sum plant_row_numbers stored_column (length period.plants) plants ≡ sum (amounts_held (stores period))
  stored_told =
      let counted = ap length (sym (after_all period)) ∙ after_length period (length period.segments) in
      column_held stored_column (stores period) counted (λ p plant. ap (λ (row : List ℕ). get_or row stored_column 0) (plant_row_at_lem means p plant))

  -- what they exported is what they have stored and what was lost
  balanced :
      column_sum plant_row_numbers exported_column (length period.plants) plants
      ≡ column_sum plant_row_numbers stored_column (length period.plants) plants + column_sum segment_row_numbers loss_column (length period.segments) segments
  balanced = exported_told ∙ rw (stored_told, ← after_all period) (lost_so_far (length period.segments) (omega arith))

-- so it is in every file that the call accepts
pub balance :
    {file plants segments : List ℕ} → Accepted file plants segments →
    let P = length (held file).plants in
    let S = length (held file).segments in
    column_sum plant_row_numbers exported_column P plants ≡ column_sum plant_row_numbers stored_column P plants + column_sum segment_row_numbers loss_column S segments
balance given = balanced (accepted_means given)
