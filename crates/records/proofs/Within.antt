-- What a file that was read holds is within its limits.
use Prim.Native.Nat.{ℕ, zero, suc, ◌+◌, ◌≤◌, ◌<◌}
use mathlib.Core.Path.{◌≡◌, sym, subst, ◌∙◌}
use mathlib.Core.List.{List, [], ◌∷◌}
use mathlib.Core.Logic.{inl, inr, ⊎_elim}
use native.Mathlib.Nat.{le_trans, not-suc-le-zero}
use native.Mathlib.Decide.{dec_le}
use native.Mathlib.Omega.{arith}
use lib.ListN.{length, get_or}
use Rattle.fields.specs.declared.reason.Reason.TheVariants.{BytesAfter}
use Rattle.fields.specs.Reasons.{number_of}
use Rattle.fields.specs.Answers.{Notice}
use Rattle.fields.specs.Readers.{read, refused}
use Rattle.fields.specs.Lists.{Each}
use Rattle.fields.proofs.Along.{not_allowed, has_fault, Ended, none_left, bytes_left, not_read, comes_to, at_end}
use Rattle.fields.proofs.Ranges.{at_least, at_most}
use Rattle.records.specs.declared.counts.Counts.{Counts}
use Rattle.records.specs.declared.plant.Plant.{Plant}
use Rattle.records.specs.declared.segment.Segment.{Segment}
use Rattle.records.specs.declared.line.Line.{Line}
use Rattle.records.specs.Segments.{pipeline, intermediate_storage, store}
use Rattle.records.specs.Periods.{Period, period_file}
use Rattle.records.specs.Within.{most_counts, CountsWithin, PlantWithin, SegmentWithin, KindWithin, LineWithin, Within}
use Rattle.records.proofs.FieldRanges.{next_after}
use Rattle.records.proofs.PeriodAlong.{PeriodField, Placed, Holds, PeriodRead, period_along}

-- ---- the record at an index of a list, of which each has a property
pub each_at :
    {A : Type 0} (P : ℕ → A → Type 0) (own : ℕ) (xs : List A) (i : ℕ) (d : A) (j : ℕ) → own + i ≡ j → i < length xs → Each P own xs → P j (get_or xs i d)
unfolding Each
each_at P own [] i d j is h all = absurd (not-suc-le-zero h)
each_at P own (x ∷ xs) zero d j is h all = let here : own ≡ j = omega arith in rw here at all.0
each_at P own (x ∷ xs) (suc i) d j is h all = each_at P (suc own) xs i d j (omega arith) (omega arith) all.1

-- what follows from a property holds of each as well
pub each_on : {A : Type 0} {P Q : ℕ → A → Type 0} → ((own : ℕ) (one : A) → P own one → Q own one) → (own : ℕ) (all : List A) → Each P own all → Each Q own all
unfolding Each
each_on then own [] each = tt
each_on then own (one ∷ rest) each = (then own one each.0, each_on then (suc own) rest each.1)

-- ---- a segment without a next one is a store
pub kind_without_next :
    (counts : Counts) (own : ℕ) (segment : Segment) → KindWithin counts own segment → segment.next ≡ 0 → segment.kind ≡ store
kind_without_next counts own segment within none = by_kind (dec_le segment.kind intermediate_storage)
  where
    by_kind : Dec (segment.kind ≤ intermediate_storage) → segment.kind ≡ store
    by_kind (yes p) =
        let from = at_least pipeline store segment.kind within.kind in
        let next = sym (next_after counts own segment.kind segment.next from p) ∙ within.next in
        absurd (omega (arith, at_least (suc own) counts.segments segment.next next, none))
    by_kind (no p) = omega (arith, at_most pipeline store segment.kind within.kind)

-- ---- within the counts of a period is within the largest
module _ {counts : Counts} (within : CountsWithin counts) where
  pub plant_within_most : (own : ℕ) (plant : Plant) → PlantWithin counts own plant → PlantWithin most_counts own plant
  plant_within_most own plant w =
      record { exported = w.exported; some_first = w.some_first; first = le_trans w.first within.most_segments_is; fraction = w.fraction }

  pub segment_within_most : (own : ℕ) (segment : Segment) → SegmentWithin counts own segment → SegmentWithin most_counts own segment
  segment_within_most own segment w = record {
    outflow = w.outflow;
    next = ⊎_elim (λ none. inl none) (λ some. inr (some.0, le_trans some.1 within.most_segments_is)) w.next;
  }

  pub line_within_most : (own : ℕ) (line : Line) → LineWithin counts own line → LineWithin most_counts own line
  line_within_most own line w = record {
    owner_kind_is = w.owner_kind_is;
    some_owner = w.some_owner;
    plant = λ is. le_trans (w.plant is) within.most_plants_is;
    segment = λ is. le_trans (w.segment is) within.most_segments_is;
    quantity = w.quantity;
    factor = w.factor;
  }

-- ---- what is held as announced is within the limits
held_within : (h : Counts) (what : Period) → Holds h what → Within what
held_within h what holds =
    let is = sym holds.counted in
    record {
      counts = subst CountsWithin is holds.counts;
      plants = subst (λ (c : Counts). Each (PlantWithin c) 1 what.plants) is holds.plants;
      segments = subst (λ (c : Counts). Each (SegmentWithin c) 1 what.segments) is (each_on (λ own one both. both.0) 1 what.segments holds.segments);
      kinds = subst (λ (c : Counts). Each (KindWithin c) 1 what.segments) is (each_on (λ own one both. both.1) 1 what.segments holds.segments);
      lines = subst (λ (c : Counts). Each (LineWithin c) 1 what.lines) is (each_on (λ own one both. both.0) 1 what.lines holds.lines);
      classes = each_on (λ own one both. both.1) 1 what.lines holds.lines;
    }

-- what a file that was read holds is within its limits
pub read_within : (file : List ℕ) (period : Period) (place at : ℕ) → period_file file ≡ read period place at → Within period
unfolding period_file
read_within file held place at e = within (rw e at (at_end (comes_to (period_along file))))
  where
    within : {what : Period} {end to : ℕ} → Ended file (Placed PeriodField) PeriodRead (read what end to) → Within what
    within {what} (none_left ((h, holds), last) all) = held_within h what holds

-- ---- and what reading refuses has a number up to 9
pub reading_numbered : (file : List ℕ) (told : Notice) → period_file file ≡ refused told → told.number ≤ number_of BytesAfter
unfolding period_file
reading_numbered file told e = numbered (rw e at (at_end (comes_to (period_along file))))
  where
    numbered : {other : Notice} → Ended file (Placed PeriodField) PeriodRead (refused other) → other.number ≤ number_of BytesAfter
    numbered (bytes_left its) = omega arith
    numbered (not_read (not_allowed ((from, to), room))) = omega (arith, to)
    numbered (not_read (has_fault small)) = omega (arith, small)
