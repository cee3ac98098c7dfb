-- What the owners' totals give: 16 by the totals is 16 by the lines, and the totals in kg are what every owner emits.
use Prim.Native.Nat.{ℕ, suc, ◌+◌, ◌≤◌, ◌<◌}
use mathlib.Core.Path.{◌≡◌, refl, sym, ap, ap₂, ◌∙◌}
use mathlib.Core.Bool.{Bool}
use mathlib.Core.List.{List}
use native.Mathlib.Omega.{arith}
use lib.Dec.{ltb}
use lib.ListN.{length, get_or}
use Rattle.fields.specs.declared.answer.Refusal.{Refusal}
use Rattle.fields.specs.declared.reason.Reason.TheVariants.{CapturedOverFuel}
use Rattle.fields.specs.declared.spot.Spot.{Spot}
use Rattle.fields.specs.Answers.{Verdict, accepts, refuses, refusing}
use Rattle.fields.specs.Lists.{filled}
use Rattle.fields.specs.Spots.{end_at}
use Rattle.fields.specs.Reaching.{Reach, whole, stopped, reads_from}
use Rattle.fields.specs.Tests.{Test, tested_by, listed}
use Rattle.fields.proofs.Answers.{refuses_not_accepts}
use Rattle.fields.proofs.Testing.{none_fails, tests_turned}
use Rattle.records.specs.declared.counts.Counts.{Counts}
use Rattle.records.specs.declared.line.Line.{Line}
use Rattle.records.specs.Plants.{most_plants}
use Rattle.records.specs.Segments.{most_segments}
use Rattle.records.specs.Classes.{plant_owner, segment_owner}
use Rattle.records.specs.Lines.{most_grams}
use Rattle.records.specs.Periods.{lines_of}
use Rattle.records.specs.Places.{line_start}
use Rattle.records.specs.Within.{CountsWithin}
use Rattle.accounts.specs.Emissions.{of_classes, is_added, added_grams, fuel_grams, captured_grams, in_kg, less_captured, emission}
use Rattle.accounts.specs.Order.{line_tests, fuel_test, emission_tests}
use Rattle.accounts.proofs.Accepting.{grams_each}
use Rattle.accounts.proofs.OwnersLines.{no_grams, fuel_is_added}
use Rattle.gathering.specs.declared.emissions.Emissions.{Emissions}
use Rattle.gathering.specs.declared.totals.Totals.{Totals}
use Rattle.gathering.specs.Gathered.{owner_column}
use Rattle.gathering.specs.OwnerTotals.{Owner, Sums, fuel_test_by, kg_column}
use Rattle.gathering.specs.Inside.{and_then, ten_ruling, lines_ruling, AllAdded, AllEmitted}
use Rattle.gathering.proofs.Listing.{listed_same}
use Rattle.gathering.proofs.OwnerTotals.{capped_less}

-- ---- the totals of lines that 10 does not refuse
module _ (starts : ℕ → ℕ) (lines : List Line) (passed : tested_by refuses (line_tests starts lines 0 lines) accepts ≡ accepts) where
  -- no owner's total is over the limit
  few : (owner_kind owner : ℕ) → added_grams owner_kind owner lines ≤ most_grams
  few owner_kind owner =
      grams_each starts owner_kind owner lines 0 lines refl
      (none_fails refuses (line_tests starts lines 0 lines) accepts accepts (λ notice e. refuses_not_accepts e) passed)
      (omega (arith, no_grams (of_classes is_added owner_kind owner)))

  module _ {totals : Totals} (sums : Sums lines totals) where
    -- 16 by the totals of a plant is 16 by its lines
    same_test : (bytes index : ℕ) → index < most_plants → fuel_test_by bytes totals index ≡ fuel_test bytes lines index
    same_test bytes index below =
        let o : Owner plant_owner (suc index) index = omega (arith, below) in
        let burnt = fuel_grams plant_owner (suc index) lines in
        let taken = captured_grams plant_owner (suc index) lines in
        let fails : ltb (get_or totals.fuel index 0) (get_or totals.captured index 0) ≡ ltb burnt taken =
        ap₂ ltb (sums.fuel.each plant_owner (suc index) index o) (sums.captured.each plant_owner (suc index) index o)
        ∙ capped_less burnt taken (omega (arith, fuel_is_added plant_owner (suc index) lines, few plant_owner (suc index))) in
        ap (λ (t : Bool). record { fails = t; reason = CapturedOverFuel; place = suc index; offset = bytes }) fails

    same_tests : (bytes count : ℕ) → count ≤ most_plants → listed (fuel_test_by bytes totals) 0 count ≡ listed (fuel_test bytes lines) 0 count
    same_tests bytes count most = listed_same _ _ count (λ index below. same_test bytes index (omega (arith, below, most)))

    -- the totals in kg are what the owners emit: what is captured is taken off a total that is counted in full
    in_kg_lem :
        (owner_kind owner place : ℕ) → Owner owner_kind owner place →
        less_captured (get_or totals.added place 0) (get_or totals.captured place 0) ≡ emission owner_kind owner lines
    unfolding emission
    in_kg_lem owner_kind owner place o =
        ap in_kg (omega (arith, sums.added.each owner_kind owner place o, sums.captured.each owner_kind owner place o, few owner_kind owner))

    kg_column_lem :
        (owner_kind first count : ℕ) → ((o : ℕ) → o < count → Owner owner_kind (suc o) (first + o)) →
        kg_column totals first count ≡ owner_column owner_kind count lines
    kg_column_lem owner_kind first count owner =
        ap (filled 0 most_segments) (listed_same _ _ count (λ o here. in_kg_lem owner_kind (suc o) (first + o) (owner o here)))

-- ---- what is said with 16: as with 10, and then what 16 says
module _ (file : List ℕ) (start : Spot) (counts : Counts) where
  abbrev came : Reach (List Line)
  came = reads_from (lines_of counts) file start

  abbrev sixteen : List Line → Verdict
  sixteen lines = tested_by refuses (listed (fuel_test (length file) lines) 0 counts.plants) accepts

  ruled : (lines : List Line) (last : Spot) → lines_ruling file counts (whole lines last) ≡ and_then (ten_ruling file counts (whole lines last)) (sixteen lines)
  unfolding emission_tests
  ruled lines last = by_end (end_at file last)
    where
      by_end :
          (v : Verdict) →
          and_then v (tested_by refuses (emission_tests (line_start file counts) (length file) counts.plants lines) accepts)
          ≡ and_then (and_then v (tested_by refuses (line_tests (line_start file counts) lines 0 lines) accepts)) (sixteen lines)
      by_end (refuses notice) = refl
      by_end accepts =
          tests_turned refuses refuses (λ (v : Verdict). and_then v (sixteen lines)) (λ notice. refl)
          (line_tests (line_start file counts) lines 0 lines) (listed (fuel_test (length file) lines) 0 counts.plants) accepts accepts refl

  -- reading or 10 refuses
  pub ten_out : (why : Refusal) → refusing why ≡ ten_ruling file counts came → refusing why ≡ lines_ruling file counts came
  ten_out why told = by_reading came told
    where
      by_reading : (outcome : Reach (List Line)) → refusing why ≡ ten_ruling file counts outcome → refusing why ≡ lines_ruling file counts outcome
      by_reading (stopped notice) e = e
      by_reading (whole lines last) e = sym (ruled lines last ∙ ap (λ (v : Verdict). and_then v (sixteen lines)) (sym e))

  -- neither does: 16 decides by the totals, and if it accepts, the owners emit what the totals say
  module _ {totals : Totals} (all : AllAdded file start counts totals) (within : CountsWithin counts) where
    passed : tested_by refuses (line_tests (line_start file counts) all.lines 0 all.lines) accepts ≡ accepts
    passed = by_end (end_at file all.last) all.passed
      where
        by_end :
            (v : Verdict) → and_then v (tested_by refuses (line_tests (line_start file counts) all.lines 0 all.lines) accepts) ≡ accepts →
            tested_by refuses (line_tests (line_start file counts) all.lines 0 all.lines) accepts ≡ accepts
        by_end (refuses notice) same = absurd (refuses_not_accepts same)
        by_end accepts same = same

    abbrev by_totals : Verdict
    by_totals = tested_by refuses (listed (fuel_test_by (length file) totals) 0 counts.plants) accepts

    decides : by_totals ≡ lines_ruling file counts (whole all.lines all.last)
    decides =
        ap (λ (tests : List Test). tested_by refuses tests accepts)
        (same_tests (line_start file counts) all.lines passed all.sums (length file) counts.plants within.most_plants_is)
        ∙ sym (ruled all.lines all.last ∙ ap (λ (v : Verdict). and_then v (sixteen all.lines)) all.passed)

    pub sixteen_out : (why : Refusal) → refusing why ≡ by_totals → refusing why ≡ lines_ruling file counts came
    sixteen_out why told = told ∙ decides ∙ sym (ap (lines_ruling file counts) all.came)

    pub all_emitted :
        accepts ≡ by_totals → (emissions : Emissions) → emissions.bytes ≡ length file → emissions.plants ≡ kg_column totals 0 counts.plants →
        emissions.segments ≡ kg_column totals most_plants counts.segments → AllEmitted file start counts emissions
    all_emitted told emissions bytes plants segments = record {
      lines = all.lines;
      last = all.last;
      came = all.came;
      passed = sym (told ∙ decides);
      emitted = record {
        plants_are = plants ∙ kg plant_owner 0 counts.plants (λ o h. omega (arith, h, within.most_plants_is));
        segments_are = segments ∙ kg segment_owner most_plants counts.segments (λ o h. omega (arith, h, within.most_segments_is));
      };
      all_bytes = bytes;
    }
      where
        kg :
            (owner_kind first count : ℕ) → ((o : ℕ) → o < count → Owner owner_kind (suc o) (first + o)) →
            kg_column totals first count ≡ owner_column owner_kind count all.lines
        kg = kg_column_lem (line_start file counts) all.lines passed all.sums
