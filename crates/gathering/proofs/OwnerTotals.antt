-- The owners' totals: before each line every owner's place has the grams of its lines so far, by how their classes count; one law for all three columns.
use Prim.Native.Nat.{ℕ, ◌+◌, ◌≤◌, ◌<◌}
use mathlib.Core.Path.{◌≡◌, refl, sym, ap, ◌∙◌}
use mathlib.Core.Bool.{Bool, true, false, cond, ◌&&◌}
use mathlib.Core.List.{List, [], ◌∷◌, ◌++◌}
use native.Mathlib.Decide.{dec_le, ℕ_discrete}
use native.Mathlib.Omega.{arith}
use lib.Dec.{ltb, eqb}
use lib.ListN.{get_or, set, replicate, length-set, get_or-replicate}
use lib.Seq.{get_or-set_same, get_or-set_other}
use borrow.Author.Tests.{lt-ltb, le-ltb, eq-eqb, ne_eqb}
use Rattle.fields.specs.declared.spot.Spot.{Spot}
use Rattle.fields.specs.Reaching.{whole, reads_from}
use Rattle.records.specs.declared.counts.Counts.{Counts}
use Rattle.records.specs.declared.line.Line.{Line}
use Rattle.records.specs.Plants.{most_plants}
use Rattle.records.specs.Segments.{most_segments}
use Rattle.records.specs.Classes.{plant_owner}
use Rattle.records.specs.Lines.{most_grams}
use Rattle.records.specs.Periods.{line}
use Rattle.records.specs.Within.{CountsWithin, LineWithin, most_counts}
use Rattle.records.proofs.RecordsWithin.{line_within as line_read_within}
use Rattle.records.proofs.Within.{line_within_most}
use Rattle.accounts.specs.Emissions.{grams, owned_by, grams_of, of_classes, is_added, is_fuel, is_captured}
use Rattle.accounts.proofs.OwnersLines.{no_grams, grams_with, grams_of_both}
use Rattle.gathering.specs.declared.totals.Totals.{Totals}
use Rattle.gathering.specs.OwnerTotals.{capped, counted_on, owners, owner_place, Owner, no_totals, counted_at, totals_with, Totalled, Sums}

-- ---- an owner and the place of its totals
-- its place is one of those for owners
pub place_below : {owner_kind owner place : ℕ} → Owner owner_kind owner place → place < owners
place_below o = omega arith

-- a line is this owner's exactly if the owner of the line has the same place
owned :
    {owner_kind owner place place' : ℕ} (line : Line) → Owner line.owner_kind line.owner place → Owner owner_kind owner place' →
    owned_by owner_kind owner line ≡ eqb place' place
owned {owner_kind} {owner} {place} {place'} line o o' = by_owner (ℕ_discrete line.owner_kind owner_kind) (ℕ_discrete line.owner owner)
  where
    by_owner : Dec (line.owner_kind ≡ owner_kind) → Dec (line.owner ≡ owner) → owned_by owner_kind owner line ≡ eqb place' place
    by_owner (yes p) (yes q) = rw (eq-eqb line.owner_kind owner_kind p, eq-eqb line.owner owner q, eq-eqb place' place (omega arith))
    by_owner (yes p) (no q) = rw (eq-eqb line.owner_kind owner_kind p, ne_eqb line.owner owner q, ne_eqb place' place (λ e. q (omega arith)))
    by_owner (no p) q = rw (ne_eqb line.owner_kind owner_kind p, ne_eqb place' place (λ e. p (omega arith)))

-- ---- a line within its limits
-- one that was read is
pub line_fits :
    (file : List ℕ) (at : Spot) (counts : Counts) (one : Line) (next : Spot) → CountsWithin counts → reads_from (line counts) file at ≡ whole one next →
    LineWithin most_counts 1 one
line_fits file at counts one next within e = line_within_most within 1 one (line_read_within file at counts 1 one next e).0

-- its owner, and the place
pub line_owner :
    {own place : ℕ} {line : Line} → LineWithin most_counts own line → place ≡ owner_place line.owner_kind line.owner →
    Owner line.owner_kind line.owner place
line_owner {own} {place} {line} within is = by_kind (dec_le line.owner_kind plant_owner)
  where
    by_kind : Dec (line.owner_kind ≤ plant_owner) → Owner line.owner_kind line.owner place
    by_kind (yes p) = let most : line.owner ≤ most_plants = within.plant (omega arith) in omega arith
    by_kind (no p) = let most : line.owner ≤ most_segments = within.segment (omega arith) in omega arith

-- ---- a total that is counted no further, with a line's grams
counted_capped : (total : ℕ) (counts : Bool) (grams : ℕ) → counted_on (capped total) counts grams ≡ capped (total + cond counts grams 0)
counted_capped total true grams = omega arith
counted_capped total false grams = omega arith

-- ---- one column, by the classes that count in it
module _ (these : ℕ → Bool) where
  -- of no line
  totalled_start : Totalled these [] (replicate owners 0)
  totalled_start = record {
    places = refl;
    each = λ owner_kind owner place o. get_or-replicate owners place 0 0 (place_below o) ∙ omega (arith, no_grams (of_classes these owner_kind owner));
  }

  module _ {lines : List Line} {column : List ℕ} (so_far : Totalled these lines column) where
    -- of one more: its owner's total has its grams, if they count, and the others stay
    totalled_on :
        (line : Line) (place : ℕ) → Owner line.owner_kind line.owner place →
        Totalled these (lines ++ (line ∷ [])) (counted_at column place (these line.class) (grams line))
    totalled_on line place owner = record {
      places = length-set column place total ∙ so_far.places;
      each = λ owner_kind owner' place' o'. by_place owner_kind owner' place' o' (ℕ_discrete place' place);
    }
      where
        total : ℕ
        total = counted_on (get_or column place 0) (these line.class) (grams line)

        one_more :
            (owner_kind owner' place' : ℕ) → Owner owner_kind owner' place' →
            grams_of (of_classes these owner_kind owner') (lines ++ (line ∷ []))
            ≡ grams_of (of_classes these owner_kind owner') lines + cond (eqb place' place && these line.class) (grams line) 0
        one_more owner_kind owner' place' o' =
            let its = of_classes these owner_kind owner' in
            omega (arith, grams_of_both its lines (line ∷ []), rw (owned line owner o') at (grams_with its line []), no_grams its)

        by_place :
            (owner_kind owner' place' : ℕ) → Owner owner_kind owner' place' → Dec (place' ≡ place) →
            get_or (set column place (counted_on (get_or column place 0) (these line.class) (grams line))) place' 0
            ≡ capped (grams_of (of_classes these owner_kind owner') (lines ++ (line ∷ [])))
        by_place owner_kind owner' place' o' (yes p) =
            let here = rw (eq-eqb place' place p) at (one_more owner_kind owner' place' o') in
            let before = rw p at (so_far.each owner_kind owner' place' o') in
            rw (p, get_or-set_same column place (counted_on (get_or column place 0) (these line.class) (grams line)) 0 (rw so_far.places (place_below owner)), before)
            (counted_capped (grams_of (of_classes these owner_kind owner') lines) (these line.class) (grams line) ∙ ap capped (sym here))
        by_place owner_kind owner' place' o' (no p) =
            rw (get_or-set_other column place place' (counted_on (get_or column place 0) (these line.class) (grams line)) 0 p)
            (so_far.each owner_kind owner' place' o' ∙ ap capped (sym (omega (arith, rw (ne_eqb place' place p) at (one_more owner_kind owner' place' o')))))

-- ---- all three
pub sums_start : Sums [] no_totals
sums_start = record { added = totalled_start is_added; fuel = totalled_start is_fuel; captured = totalled_start is_captured }

pub sums_on :
    {lines : List Line} {totals : Totals} → Sums lines totals → (line : Line) (place : ℕ) → Owner line.owner_kind line.owner place →
    Sums (lines ++ (line ∷ [])) (totals_with totals place line)
sums_on so_far line place owner = record {
  added = totalled_on is_added so_far.added line place owner;
  fuel = totalled_on is_fuel so_far.fuel line place owner;
  captured = totalled_on is_captured so_far.captured line place owner;
}

-- ---- tests of totals that are counted no further
-- whether one passes the limit
pub capped_over : (total : ℕ) → ltb most_grams (capped total) ≡ ltb most_grams total
capped_over total = by_limit (dec_le total most_grams)
  where
    by_limit : Dec (total ≤ most_grams) → ltb most_grams (capped total) ≡ ltb most_grams total
    by_limit (yes few) = le-ltb most_grams (capped total) (omega arith) ∙ sym (le-ltb most_grams total few)
    by_limit (no many) = lt-ltb most_grams (capped total) (omega arith) ∙ sym (lt-ltb most_grams total (omega arith))

-- whether one that does not is less than another
pub capped_less : (few other : ℕ) → few ≤ most_grams → ltb (capped few) (capped other) ≡ ltb few other
capped_less few other within = by_other (dec_le other few)
  where
    by_other : Dec (other ≤ few) → ltb (capped few) (capped other) ≡ ltb few other
    by_other (yes p) = le-ltb (capped few) (capped other) (omega arith) ∙ sym (le-ltb few other p)
    by_other (no p) = lt-ltb (capped few) (capped other) (omega arith) ∙ sym (lt-ltb few other (omega arith))
