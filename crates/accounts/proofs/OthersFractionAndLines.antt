-- A plant's row does not depend on which part of another's CO2 counts, nor on what another emits itself; also if they share segments (rule 13.9).
-- The CO2 is shared as it was exported, whatever its origin, and a segment is charged for its own lines. So all that other plants'
-- fractions and lines can change is their own rows: the row of the plant that stays the same does not change, and no segment's does.
use Prim.Native.Nat.{ℕ, suc, ◌<◌}
use mathlib.Core.Path.{◌≡◌, refl, sym, ap, ◌∙◌}
use mathlib.Core.Bool.{true, or-true}
use mathlib.Core.List.{List, map, map_congr_left}
use lib.Dec.{eqb}
use lib.ListN.{length}
use borrow.Author.Tests.{eq-eqb}
use Rattle.records.specs.declared.line.Line.{Line}
use Rattle.records.specs.Classes.{plant_owner, segment_owner}
use Rattle.records.specs.Periods.{Period}
use Rattle.accounts.specs.Emissions.{owned_by, emission}
use Rattle.accounts.specs.Flow.{Turn}
use Rattle.accounts.specs.Accounts.{account}
use Rattle.accounts.specs.Rows.{segment_rows}
use Rattle.accounts.specs.Order.{plant_row_numbers}
use Rattle.accounts.specs.Quantified.{started, turns_of, accounts_of, stores}
use Rattle.accounts.specs.Accepted.{Accepted, held}
use Rattle.accounts.specs.RowsAndColumns.{row_at}
use Rattle.accounts.specs.Changes.{not_others, OthersOwn}
use Rattle.accounts.proofs.AsExported.{same_starts}
use Rattle.accounts.proofs.OwnersLines.{owner_is}
use Rattle.accounts.proofs.SameLines.{same_emission}
use Rattle.accounts.proofs.Accepting.{accepted_means}
use Rattle.accounts.proofs.RowsAt.{plant_row_at_lem}

-- ---- if all other plants' lines are left out, those of any segment and the plant's own are kept
segment_kept : (index own : ℕ) (line : Line) → owned_by segment_owner own line ≡ true → not_others index line ≡ true
segment_kept index own line its = rw (eq-eqb line.owner_kind segment_owner (owner_is segment_owner own line its).0) refl

own_kept : (index : ℕ) (line : Line) → owned_by plant_owner (suc index) line ≡ true → not_others index line ≡ true
own_kept index line its = rw its (or-true (eqb line.owner_kind segment_owner))

module _ {index : ℕ} {one two : Period} (change : OthersOwn index one two) where
  -- ---- the turns: every plant starts alike
  starts_unchanged : started two ≡ started one
  starts_unchanged = same_starts one.plants two.plants change.count change.exported change.first

  -- and so do the amounts go, all the way
  turns_unchanged : turns_of two ≡ turns_of one
  turns_unchanged = cc (change.segments, starts_unchanged)

  stores_unchanged : stores two ≡ stores one
  stores_unchanged = cc (change.segments, starts_unchanged)

  -- ---- the emissions: the plant has the same
  own_unchanged : emission plant_owner (suc index) two.lines ≡ emission plant_owner (suc index) one.lines
  own_unchanged = same_emission plant_owner (suc index) (not_others index) (own_kept index) one.lines two.lines change.lines

  -- so has every segment, and with it the same account
  account_unchanged : (turn : Turn) → account two.lines turn ≡ account one.lines turn
  unfolding account
  account_unchanged turn =
      rw (same_emission segment_owner turn.own (not_others index) (segment_kept index turn.own) one.lines two.lines change.lines) refl

  accounts_unchanged : accounts_of two ≡ accounts_of one
  unfolding accounts_of
  accounts_unchanged = ap (map (account two.lines)) turns_unchanged ∙ map_congr_left {l = turns_of one} (λ turn member. account_unchanged turn)

-- the plant's row does not change
pub others_fraction_and_lines :
    {file₁ plants₁ segments₁ file₂ plants₂ segments₂ : List ℕ} → Accepted file₁ plants₁ segments₁ → Accepted file₂ plants₂ segments₂ →
    (index : ℕ) → index < length (held file₁).plants → OthersOwn index (held file₁) (held file₂) →
    row_at plant_row_numbers index plants₂ ≡ row_at plant_row_numbers index plants₁
others_fraction_and_lines accepted₁ accepted₂ index below change =
    let row₁ = plant_row_at_lem (accepted_means accepted₁) index below in
    let row₂ = plant_row_at_lem (accepted_means accepted₂) index (rw change.count below) in
    cc (row₁, row₂, change.plant, stores_unchanged change, accounts_unchanged change, own_unchanged change)

-- nor does any segment's
pub no_segment_changes :
    {file₁ plants₁ segments₁ file₂ plants₂ segments₂ : List ℕ} → Accepted file₁ plants₁ segments₁ → Accepted file₂ plants₂ segments₂ →
    (index : ℕ) → OthersOwn index (held file₁) (held file₂) → segments₂ ≡ segments₁
no_segment_changes accepted₁ accepted₂ index change =
    let rows₁ = (accepted_means accepted₁).segments_are in
    let rows₂ = (accepted_means accepted₂).segments_are in
    rows₂ ∙ ap segment_rows (accounts_unchanged change) ∙ sym rows₁
