-- In an accepted period CO2 captured is taken off fuel alone: an owner's emission is that of its other lines less the grams captured, and never
-- less than what its lines that are neither fuel nor captured give (rule 13.13).
use Prim.Native.Nat.{ℕ, suc, ◌+◌, ◌≤◌, ◌<◌}
use mathlib.Core.Path.{◌≡◌, refl, sym, ap, ◌∙◌}
use mathlib.Core.Bool.{Bool, true, false, not, cond, ◌&&◌, ◌||◌, true≢false}
use mathlib.Core.List.{List, [], ◌∷◌}
use native.Mathlib.Omega.{arith}
use lib.ListN.{length}
use Rattle.fields.specs.Lists.{Each}
use Rattle.fields.proofs.Ranges.{second}
use Rattle.records.specs.declared.line.Line.{Line}
use Rattle.records.specs.Classes.{plant_owner, segment_owner, grams_in_kg}
use Rattle.records.specs.Within.{ClassWithin}
use Rattle.records.proofs.Classes.{added_alone, added_else, fuel_added, segment_captures_none}
use Rattle.accounts.specs.Emissions.{grams, owned_by, grams_of, of_classes, is_added, is_fuel, is_captured, fuel_grams, captured_grams, less_captured, emission}
use Rattle.accounts.specs.Accepted.{Accepted, held}
use Rattle.accounts.specs.OffFuel.{not_captured, not_of_fuel, OffFuel}
use Rattle.accounts.proofs.Credits.{div_mono}
use Rattle.accounts.proofs.OwnersLines.{owner_is, is_owned, no_grams, grams_with}
use Rattle.accounts.proofs.Accepting.{accepted_means}

-- ---- a class that is allowed is fuel, captured or neither, and added if it is not captured
-- by the four tests of a class: what counts as added, and what does not count as captured, is fuel or neither
parts :
    (own added fuel captured : Bool) (g : ℕ) → (captured ≡ false → added ≡ true) → (added ≡ true → captured ≡ false) → (fuel ≡ true → added ≡ true) →
    (cond (own && added) g 0 ≡ cond (own && fuel) g 0 + cond (own && not (fuel || captured)) g 0)
    × (cond (own && not captured) g 0 ≡ cond (own && fuel) g 0 + cond (own && not (fuel || captured)) g 0)
parts false added fuel captured g else alone fuels = (refl, refl)
parts true true true false g else alone fuels = (omega arith, omega arith)
parts true true false false g else alone fuels = (omega arith, omega arith)
parts true true fuel true g else alone fuels = absurd (true≢false (alone refl))
parts true false true captured g else alone fuels = absurd (true≢false (sym (fuels refl)))
parts true false false true g else alone fuels = (refl, refl)
parts true false false false g else alone fuels = absurd (true≢false (sym (else refl)))

-- ---- so it is with an owner's grams
module _ (owner_kind owner : ℕ) where
  abbrev of : (ℕ → Bool) → List Line → ℕ
  of these = grams_of (of_classes these owner_kind owner)

  of_parts :
      (number : ℕ) (lines : List Line) → Each ClassWithin number lines →
      (of is_added lines ≡ of is_fuel lines + of not_of_fuel lines) × (of not_captured lines ≡ of is_fuel lines + of not_of_fuel lines)
  unfolding Each
  of_parts number [] each =
      (omega (arith, none is_added, none is_fuel, none not_of_fuel), omega (arith, none not_captured, none is_fuel, none not_of_fuel))
    where
      none : (these : ℕ → Bool) → of these [] ≡ 0
      none these = no_grams (of_classes these owner_kind owner)
  of_parts number (line ∷ lines) (class, each) =
      let code = line.class in
      let here =
      parts (owned_by owner_kind owner line) (is_added code) (is_fuel code) (is_captured code) (grams line)
      (added_else line.owner_kind code class.owner) (added_alone code) (fuel_added code) in
      let rest = of_parts (suc number) lines each in (
        omega (arith, with is_added, with is_fuel, with not_of_fuel, here.0, rest.0),
        omega (arith, with not_captured, with is_fuel, with not_of_fuel, here.1, rest.1),
      )
    where
      with : (these : ℕ → Bool) → of these (line ∷ lines) ≡ cond (of_classes these owner_kind owner line) (grams line) 0 + of these lines
      with these = grams_with (of_classes these owner_kind owner) line lines

-- nothing is captured by a segment
segment_none : (own number : ℕ) (lines : List Line) → Each ClassWithin number lines → grams_of (of_classes is_captured segment_owner own) lines ≡ 0
unfolding Each
segment_none own number [] each = no_grams (of_classes is_captured segment_owner own)
segment_none own number (line ∷ lines) (class, each) =
    let its = of_classes is_captured segment_owner own in
    omega (arith, rw (left_out (its line) refl) at (grams_with its line lines), segment_none own (suc number) lines each)
  where
    left_out : (t : Bool) → of_classes is_captured segment_owner own line ≡ t → of_classes is_captured segment_owner own line ≡ false
    left_out false is = is
    left_out true is =
        let kind = (owner_is segment_owner own line (is_owned segment_owner own is_captured line is)).0 in
        let captured = second (owned_by segment_owner own line) (is_captured line.class) is in
        absurd (true≢false (sym captured ∙ segment_captures_none line.class (rw kind at class.owner)))

-- ---- in an accepted period
module _ {file plants segments : List ℕ} (given : Accepted file plants segments) where
  abbrev lines : List Line
  lines = (held file).lines

  abbrev classes_within : Each ClassWithin 1 lines
  classes_within = (accepted_means given).within.classes

  -- an owner by whom no more is captured than its fuel gives
  off_fuel : (owner_kind owner : ℕ) → captured_grams owner_kind owner lines ≤ fuel_grams owner_kind owner lines → OffFuel owner_kind owner lines
  unfolding emission
  off_fuel owner_kind owner captured =
      let (added, others) = of_parts owner_kind owner 1 lines classes_within in
      record {
        less = ap (λ (all : ℕ). less_captured all (captured_grams owner_kind owner lines)) (added ∙ sym others);
        no_more = captured;
        rest_stays = div_mono grams_in_kg _ _ (omega (arith, added, captured));
      }

  -- is each plant, and each segment
  pub plant_off_fuel : (index : ℕ) → index < length (held file).plants → OffFuel plant_owner (suc index) lines
  plant_off_fuel index below = off_fuel plant_owner (suc index) ((accepted_means given).captured index below)

  pub segment_off_fuel : (own : ℕ) → OffFuel segment_owner own lines
  segment_off_fuel own = off_fuel segment_owner own (omega (arith, segment_none own 1 lines classes_within))
