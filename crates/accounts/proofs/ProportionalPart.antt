-- At each segment with inflow, each plant is credited its proportional part of the metered outflow: what it brought, times the outflow, by the
-- inflow, rounded down or up to a kg. It is never credited more than it brought. With its credit it goes on to the next segment of its
-- route; at a store the credit is what it has stored. This holds for every file that the call accepts.
use Prim.Native.Nat.{ℕ, zero, suc, ◌+◌, ◌-◌, ◌<◌}
use mathlib.Core.Path.{◌≡◌, refl, ap, ◌∙◌}
use mathlib.Core.Bool.{true, false}
use mathlib.Core.List.{List}
use native.Mathlib.Omega.{arith}
use lib.ListN.{length, get_or}
use borrow.Author.Tests.{ne_eqb}
use Rattle.fields.specs.Lists.{sum}
use Rattle.records.specs.Segments.{store, no_segment}
use Rattle.records.specs.Within.{counts_of, KindWithin}
use Rattle.records.proofs.Within.{each_at, kind_without_next}
use Rattle.accounts.specs.Flow.{Standing, nowhere, passes, Turn}
use Rattle.accounts.specs.Order.{plant_row_numbers}
use Rattle.accounts.specs.Quantified.{stores}
use Rattle.accounts.specs.Accepted.{Accepted, held}
use Rattle.accounts.specs.RowsAndColumns.{in_row, stored_column}
use Rattle.accounts.specs.Shares.{turn_at, entering, credit_of, Credited, SentOn}
use Rattle.accounts.proofs.Credits.{credited_rounded, credited_most}
use Rattle.accounts.proofs.Passing.{not_passed_at}
use Rattle.accounts.proofs.Accepting.{accepted_means}
use Rattle.accounts.proofs.RowsAt.{plant_row_at_lem}
use Rattle.accounts.proofs.TurnsOfPeriod.{after, after_all, turn_is, turn_standings, turn_plants, turned, enters, sent, past_store, outflow_most}

module _ {file plants segments : List ℕ} (given : Accepted file plants segments) where
  -- ---- at the turn of a segment
  module _ (s p : ℕ) (segment : s < length (held file).segments) (plant : p < length (held file).plants) where
    -- every plant is sent on with its credit, or stays
    pub sent_on_lem : SentOn (turn_at (held file) s) p
    sent_on_lem =
        let turn = turn_at (held file) s in
        record {
          no_more = credited_most turn.segment.outflow (entering turn) p (outflow_most (accepted_means given) s segment);
          goes_on = λ here. sent (held file) s p segment plant ∙ rw here refl;
          stays = not_passed_at turn.own turn.segment turn.standings p (rw (turn_plants (held file) s segment) plant);
        }

    -- if something flows in, its credit is the proportional part
    pub proportional_part : 0 < sum (entering (turn_at (held file) s)) → Credited (turn_at (held file) s) p
    proportional_part some =
        let turn = turn_at (held file) s in
        record {
          rounded = credited_rounded turn.segment.outflow (entering turn) p (enters (held file) s p segment plant) some;
          sent_on_lem = sent_on_lem;
        }

  -- ---- a plant that is past its store stays as it is
  module _ (p : ℕ) (plant : p < length (held file).plants) where
    -- in the turn of a segment, whose number is not 0
    one_more :
        (s : ℕ) → s < length (held file).segments → (get_or (after (held file) s) p nowhere).before ≡ 0 →
        get_or (after (held file) (suc s)) p nowhere ≡ get_or (after (held file) s) p nowhere
    one_more s below past =
        let turn : Turn = turn_at (held file) s in
        let elsewhere : passes turn.own (get_or turn.standings p nowhere) ≡ false =
        rw (turn_is (held file) s below, past) (ne_eqb 0 (suc s) (λ same. omega (arith, same))) in
        rw (turned (held file) s below, (sent_on_lem s p below plant).stays elsewhere, turn_standings (held file) s below) refl

    -- and in all turns that are left
    stays_stored :
        (left s : ℕ) → s + left ≡ length (held file).segments → (get_or (after (held file) s) p nowhere).before ≡ 0 →
        get_or (stores (held file)) p nowhere ≡ get_or (after (held file) s) p nowhere
    stays_stored zero s all past =
        let last : s ≡ length (held file).segments = omega (arith, all) in
        rw (last, after_all (held file)) refl
    stays_stored (suc left) s all past =
        let step = one_more s (omega (arith, all)) past in
        stays_stored left (suc s) (omega (arith, all)) (ap (λ (standing : Standing). standing.before) step ∙ past) ∙ step

  -- what is credited at a store is stored: after a segment without a next one the plant stays with it
  pub stored_at_store :
      (s p : ℕ) → s < length (held file).segments → p < length (held file).plants →
      passes (turn_at (held file) s).own (get_or (turn_at (held file) s).standings p nowhere) ≡ true → (turn_at (held file) s).segment.next ≡ 0 →
      in_row plant_row_numbers p stored_column plants ≡ credit_of (turn_at (held file) s) p
  stored_at_store s p segment plant here last =
      let turn_ends = ap (λ (standings : List Standing). get_or standings p nowhere) (turned (held file) s segment) in
      let there = turn_ends ∙ (sent_on_lem s p segment plant).goes_on here in
      let past = ap (λ (standing : Standing). standing.before) there ∙ last in
      let kept = stays_stored p plant (length (held file).segments - suc s) (suc s) (omega (arith, segment)) past in
      ap (λ (row : List ℕ). get_or row stored_column 0) (plant_row_at_lem (accepted_means given) p plant)
      ∙ ap (λ (standing : Standing). standing.amount) (kept ∙ there)

  -- ---- the stores
  -- a segment without a next one is a store
  pub store_is :
      (s : ℕ) → s < length (held file).segments → (get_or (held file).segments s no_segment).next ≡ 0 →
      (get_or (held file).segments s no_segment).kind ≡ store
  store_is s segment =
      let period = held file in
      kind_without_next
      (counts_of period) (suc s) (get_or period.segments s no_segment)
      (each_at (KindWithin (counts_of period)) 1 period.segments s no_segment (suc s) (omega arith) segment (accepted_means given).within.kinds)

  -- and after the last segment every plant's CO2 is in one
  pub in_store : (p : ℕ) → p < length (held file).plants → (get_or (stores (held file)) p nowhere).before ≡ 0
  in_store = past_store (held file) (counts_of (held file)) refl (accepted_means given).within.plants (accepted_means given).within.segments
