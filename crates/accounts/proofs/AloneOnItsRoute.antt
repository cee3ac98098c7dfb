-- A plant that shares no segment with another has the same row in every accepted period that has the same for it: number, record and lines,
-- and its route with the records and lines of the segments on it (rule 13.8). The order of lines does not matter.
--
-- If no other plant's route passes a segment, all that comes in there is the plant's own, all that goes out is credited to it, and the
-- whole emission is charged to it. So along such a route the plant stores what goes out of the last segment, and is charged the emissions of
-- all of them. Nothing else of the period counts: not the other plants, segments and lines, and not how many of them there are.
use Prim.Native.Nat.{ℕ, zero, suc, ◌+◌, ◌^◌, ◌≤◌, ◌<◌}
use mathlib.Core.Path.{◌≡◌, refl, sym, ap, ap₂, ◌∙◌}
use mathlib.Core.Bool.{Bool, true, false}
use mathlib.Core.List.{List}
use mathlib.Core.Logic.{◌↔◌, ◌≢◌}
use native.Mathlib.Decide.{dec_le}
use native.Mathlib.Omega.{arith}
use lib.Dec.{eqb}
use lib.ListN.{length, get_or, get_or-map}
use borrow.Author.Tests.{eqb-true, eqb-false}
use Rattle.records.specs.declared.plant.Plant.{Plant}
use Rattle.records.specs.declared.line.Line.{Line}
use Rattle.records.specs.Plants.{no_plant}
use Rattle.records.specs.Classes.{plant_owner}
use Rattle.records.specs.Periods.{Period}
use Rattle.accounts.specs.Emissions.{owned_by, chosen, emission}
use Rattle.accounts.specs.Flow.{nowhere, at_first}
use Rattle.accounts.specs.Accounts.{has_bit}
use Rattle.accounts.specs.Rows.{plant_row}
use Rattle.accounts.specs.Order.{plant_row_numbers, segment_row_numbers}
use Rattle.accounts.specs.Quantified.{started, accounts_of}
use Rattle.accounts.specs.Accepted.{Accepted, held}
use Rattle.accounts.specs.RowsAndColumns.{row_at, in_row, set_column}
use Rattle.accounts.specs.Shares.{account_at}
use Rattle.accounts.specs.Routes.{Leg, route_of, on, Alone, AloneInRows}
use Rattle.accounts.specs.Changes.{SameLines, SameRoute, SameFor}
use Rattle.accounts.proofs.Bits.{one_bit, same_bits}
use Rattle.accounts.proofs.OwnersLines.{emission_of_own}
use Rattle.accounts.proofs.SameLines.{emits_same}
use Rattle.accounts.proofs.Accepting.{Means, accepted_means}
use Rattle.accounts.proofs.RowsAt.{plant_row_at_lem, segment_row_at_lem}
use Rattle.accounts.proofs.TurnsOfPeriod.{turn_plants}
use Rattle.accounts.proofs.AlongRoutes.{last_outflow, emissions_along, same_outflow, same_emissions, AloneFrom, stored_alone, charged_alone}
use Rattle.accounts.proofs.Meeting.{on_route_within, meet_exactly, others_elsewhere, stands_before, set_is_route, set_within}

-- ---- the row of a plant that is alone on its route, by its number, record, lines and route
unfoldable row_alone : (index : ℕ) (plant : Plant) (lines : List Line) (route : List Leg) → List ℕ
row_alone index plant lines route =
    plant_row plant.exported plant.fraction (last_outflow (at_first plant).amount route) (emission plant_owner (suc index) lines + emissions_along route)

-- the same lines and the same route give the same row
same_row :
    (index : ℕ) (plant : Plant) (lines₁ lines₂ : List Line) {route₁ route₂ : List Leg} → SameLines lines₁ lines₂ → SameRoute route₁ route₂ →
    row_alone index plant lines₂ route₂ ≡ row_alone index plant lines₁ route₁
unfolding row_alone
same_row index plant lines₁ lines₂ lines route =
    ap₂
    (plant_row plant.exported plant.fraction)
    (same_outflow (at_first plant).amount route)
    (ap₂ ◌+◌ (emits_same plant_owner (suc index) lines₁ lines₂ lines) (same_emissions route))

module _
    {period : Period} {plants segments : List ℕ} (means : Means period plants segments) (index : ℕ) (there : index < length period.plants)
    (alone : Alone period index) where
  -- no other plant stands before a segment that it passes
  undivided : AloneFrom period.lines index 1 period.segments (started period)
  undivided s here = record {
    plant = rw (turn_plants period s here) there;
    sound = means.sound s here;
    others =
        λ own q among other.
        let among_plants : q < length period.plants = rw (turn_plants period s here) at among in
        let own_route = sym (stands_before period s here index there) ∙ own in
        stands_before period s here q among_plants ∙ others_elsewhere period index alone (suc s) own_route q among_plants other;
  }

  -- so its row is that one
  row_alone_lem :
      row_at plant_row_numbers index plants
      ≡ row_alone index (get_or period.plants index no_plant) (chosen (owned_by plant_owner (suc index)) period.lines) (route_of period index)
  unfolding row_alone route_of accounts_of
  row_alone_lem =
      let starts : get_or (started period) index nowhere ≡ at_first (get_or period.plants index no_plant) =
      get_or-map at_first period.plants index no_plant in
      plant_row_at_lem means index there
      ∙ ap₂
      (plant_row (get_or period.plants index no_plant).exported (get_or period.plants index no_plant).fraction)
      (rw starts at (stored_alone period.lines index 1 period.segments (started period) undivided))
      (ap₂
      ◌+◌
      (sym (emission_of_own plant_owner (suc index) period.lines))
      (rw starts at (charged_alone period.lines index 1 period.segments (started period) undivided)))

-- ---- the theorem
pub alone_on_its_route :
    {file₁ plants₁ segments₁ file₂ plants₂ segments₂ : List ℕ} → Accepted file₁ plants₁ segments₁ → Accepted file₂ plants₂ segments₂ →
    (index : ℕ) → index < length (held file₁).plants → index < length (held file₂).plants → SameFor index (held file₁) (held file₂) →
    Alone (held file₁) index → Alone (held file₂) index → row_at plant_row_numbers index plants₂ ≡ row_at plant_row_numbers index plants₁
alone_on_its_route accepted₁ accepted₂ index there₁ there₂ same alone₁ alone₂ =
    let row₁ = row_alone_lem (accepted_means accepted₁) index there₁ alone₁ in
    let row₂ = row_alone_lem (accepted_means accepted₂) index there₂ alone₂ in
    row₂ ∙ rw same.plant (same_row index _ _ _ same.lines same.route) ∙ sym row₁

-- ---- by the sets that the rows show
module _ {file plants segments : List ℕ} (given : Accepted file plants segments) where
  module _ (s : ℕ) (here : s < length (held file).segments) where
    -- the set that a segment's row shows
    abbrev shown : ℕ
    shown = in_row segment_row_numbers s set_column segments

    -- is that of its account
    row_set : shown ≡ (account_at (held file) s).plants
    row_set = ap (λ (row : List ℕ). get_or row set_column 0) (segment_row_at_lem (accepted_means given) s here)

    -- it has a plant exactly if the plant's route passes
    row_has : (p : ℕ) → p < length (held file).plants → has_bit shown p ≡ on (suc s) (route_of (held file) p)
    row_has p among = rw row_set (set_is_route (held file) s here p among)

    -- and nothing else
    row_within : (p : ℕ) → length (held file).plants ≤ p → has_bit shown p ≡ false
    row_within p behind = rw row_set (set_within (held file) s here p behind)

  module _ (index : ℕ) (there : index < length (held file).plants) where
    -- a plant that is alone in the rows meets no other
    meets_none :
        AloneInRows segments (length (held file).segments) index → (other : ℕ) → other < length (held file).plants → other ≢ index →
        (own : ℕ) → on own (route_of (held file) index) ≡ true → on own (route_of (held file) other) ≡ true → ⊥
    meets_none rows other among different zero one two = omega (arith, (on_route_within (held file) index 0 one).0)
    meets_none rows other among different (suc s) one two =
        let here : s < length (held file).segments = (on_route_within (held file) index (suc s) one).1 in
        let alone : shown s here ≡ 2 ^ index = rows s here (row_has s here index there ∙ one) in
        let both : has_bit (2 ^ index) other ≡ true = rw alone at (row_has s here other among ∙ two) in
        different (sym (eqb-true index other (sym (one_bit index other) ∙ both)))

    -- a plant that meets no other is alone in the rows
    shown_alone : Alone (held file) index → AloneInRows segments (length (held file).segments) index
    shown_alone alone s here own =
        same_bits (shown s here) (2 ^ index) (λ p. by_test p (eqb index p) refl (dec_le (suc p) (length (held file).plants)) ∙ sym (one_bit index p))
      where
        by_test : (p : ℕ) (t : Bool) → eqb index p ≡ t → Dec (p < length (held file).plants) → has_bit (shown s here) p ≡ eqb index p
        by_test p true e among = rw e (rw (eqb-true index p e) at own)
        by_test p false e (yes among) =
            let passes : on (suc s) (route_of (held file) index) ≡ true = sym (row_has s here index there) ∙ own in
            row_has s here p among ∙ others_elsewhere (held file) index alone (suc s) passes p among (λ is. eqb-false index p e (sym is)) ∙ sym e
        by_test p false e (no behind) = row_within s here p (omega arith) ∙ sym e

    -- the sets tell whether a plant is alone on its route
    pub sets_tell : AloneInRows segments (length (held file).segments) index ↔ Alone (held file) index
    sets_tell = (λ rows other among different. (meet_exactly (held file) index other).1 (meets_none rows other among different), shown_alone)

-- so the theorem also holds if the rows of both files show the plant alone
pub alone_by_sets :
    {file₁ plants₁ segments₁ file₂ plants₂ segments₂ : List ℕ} → Accepted file₁ plants₁ segments₁ → Accepted file₂ plants₂ segments₂ →
    (index : ℕ) → index < length (held file₁).plants → index < length (held file₂).plants → SameFor index (held file₁) (held file₂) →
    AloneInRows segments₁ (length (held file₁).segments) index → AloneInRows segments₂ (length (held file₂).segments) index →
    row_at plant_row_numbers index plants₂ ≡ row_at plant_row_numbers index plants₁
alone_by_sets accepted₁ accepted₂ index there₁ there₂ same shown₁ shown₂ =
    alone_on_its_route
    accepted₁ accepted₂ index there₁ there₂ same ((sets_tell accepted₁ index there₁).0 shown₁) ((sets_tell accepted₂ index there₂).0 shown₂)
