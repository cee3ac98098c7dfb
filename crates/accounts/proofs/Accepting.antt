-- What acceptance means: the period that the file holds, what every segment of it satisfies, and the rows.
use Prim.Native.Nat.{ℕ, zero, suc, ◌+◌, ◌*◌, ◌≤◌, ◌<◌}
use mathlib.Core.Path.{◌≡◌, refl, sym, ap, ◌∙◌}
use mathlib.Core.Bool.{Bool, true, false, cond, ◌&&◌, true≢false}
use mathlib.Core.List.{List, [], ◌∷◌, ◌++◌}
use mathlib.Core.Logic.{◌⊎◌, inl, inr}
use native.Mathlib.Nat.{add-zero, zero-add}
use native.Mathlib.Numerals.{add-one}
use native.Mathlib.Omega.{arith}
use lib.Dec.{ltb, eqb}
use lib.ListN.{length, get_or, take, drop, length-map, take-append-drop}
use lib.Seq.{drop-drop}
use borrow.Author.Tests.{ltb-false, lt-ltb, eq-eqb}
use Rattle.number.specs.Groups.{largest}
use Rattle.fields.specs.Readers.{Read, read, refused}
use Rattle.fields.specs.Tests.{Test, NoneFails, holds, listed}
use Rattle.fields.proofs.Testing.{none_answers, none_of_both}
use Rattle.records.specs.declared.line.Line.{Line}
use Rattle.records.specs.declared.counts.Counts.{Counts}
use Rattle.records.specs.Classes.{plant_owner}
use Rattle.records.specs.Lines.{most_grams}
use Rattle.records.specs.Periods.{Period, period_file}
use Rattle.records.specs.Places.{line_start}
use Rattle.records.specs.Held.{records_of}
use Rattle.records.specs.Within.{Within, counts_of}
use Rattle.records.proofs.Within.{read_within}
use Rattle.accounts.specs.Emissions.{grams, grams_of, of_classes, is_added, added_grams, fuel_grams, captured_grams}
use Rattle.accounts.specs.Accounts.{Account, account}
use Rattle.accounts.specs.Rows.{plant_rows, segment_rows}
use Rattle.accounts.specs.Order.{refusal, accepted, line_tests, fuel_test, emission_tests, segment_tests, plant_row_numbers, segment_row_numbers, table_tests}
use Rattle.accounts.specs.Quantified.{started, turns_of, accounts_of, stores, rows, judged, after_reading, quantified}
use Rattle.accounts.specs.Accepted.{Accepted, held}
use Rattle.accounts.specs.Shares.{no_turn, account_at}
use Rattle.accounts.proofs.Testing.{refusal_not_accepted, none_fails}
use Rattle.accounts.proofs.Passing.{get_d_map, turns_length}
use Rattle.accounts.proofs.OwnersLines.{owner_is, is_owned, no_grams, grams_with, grams_of_both}

-- ---- what the lines satisfy if 10 refuses none of them
-- a total is the one up to any line and that of the lines behind it
grams_split :
    (choose : Line → Bool) (lines : List Line) (done : ℕ) → grams_of choose lines ≡ grams_of choose (take done lines) + grams_of choose (drop done lines)
grams_split choose lines done = ap (grams_of choose) (sym (take-append-drop done lines)) ∙ grams_of_both choose (take done lines) (drop done lines)

-- no owner's total passes the limit: its own lines are tested with the total up to them, and other lines add nothing to it
pub grams_each :
    (starts : ℕ → ℕ) (owner_kind owner : ℕ) (lines : List Line) (done : ℕ) (left : List Line) → drop done lines ≡ left →
    NoneFails (line_tests starts lines done left) → added_grams owner_kind owner (take done lines) ≤ most_grams →
    added_grams owner_kind owner lines ≤ most_grams
unfolding line_tests
grams_each starts owner_kind owner lines done [] is none few =
    let its = of_classes is_added owner_kind owner in
    let behind : grams_of its (drop done lines) ≡ 0 = ap (grams_of its) is ∙ no_grams its in
    omega (arith, grams_split its lines done)
grams_each starts owner_kind owner lines done (line ∷ left) is (holds test more) few =
    grams_each starts owner_kind owner lines (suc done) left left_is more (by_owner (of_classes is_added owner_kind owner line) refl)
  where
    left_is : drop (suc done) lines ≡ left
    left_is = ap (λ (n : ℕ). drop n lines) (sym (add-one done)) ∙ sym (drop-drop 1 done lines) ∙ ap (drop 1) is

    one_more :
        added_grams owner_kind owner (take (suc done) lines)
        ≡ added_grams owner_kind owner (take done lines) + cond (of_classes is_added owner_kind owner line) (grams line) 0
    one_more =
        let its = of_classes is_added owner_kind owner in
        let here = ap (grams_of its) is ∙ grams_with its line left in
        let behind = ap (grams_of its) left_is in
        omega (arith, grams_split its lines done, grams_split its lines (suc done), here, behind)

    by_owner : (its : Bool) → of_classes is_added owner_kind owner line ≡ its → added_grams owner_kind owner (take (suc done) lines) ≤ most_grams
    by_owner true o =
        let same = owner_is owner_kind owner line (is_owned owner_kind owner is_added line o) in
        rw (← same.0, ← same.1) (ltb-false most_grams (added_grams line.owner_kind line.owner (take (suc done) lines)) test)
    by_owner false o = omega (arith, rw o at one_more, few)

-- ---- what the plants satisfy if 16 refuses none of them: no more is captured than the fuel gives
captured_each :
    (bytes : ℕ) (lines : List Line) (from count : ℕ) → NoneFails (listed (fuel_test bytes lines) from count) →
    (index : ℕ) → index < count → captured_grams plant_owner (suc (from + index)) lines ≤ fuel_grams plant_owner (suc (from + index)) lines
unfolding listed
captured_each bytes lines from zero passing index below = absurd (omega (arith, below))
captured_each bytes lines from (suc count) (holds test more) zero below =
    rw (add-zero from) (ltb-false (fuel_grams plant_owner (suc from) lines) (captured_grams plant_owner (suc from) lines) test)
captured_each bytes lines from (suc count) (holds test more) (suc index) below =
    let behind : from + suc index ≡ suc from + index = omega arith in
    rw behind (captured_each bytes lines (suc from) count more index (omega (arith, below)))

-- ---- what a segment's account satisfies if 11, 12 and 13 do not refuse it
pub record Sound (a : Account) : Type 0 where
  pub inflow : a.inflow ≤ largest
  pub outflow : a.outflow ≤ a.inflow
  pub emission : (a.emission ≡ 0) ⊎ (0 < a.inflow)

-- no emission, or some inflow
charged_somewhere : (emission inflow : ℕ) → ltb 0 emission && eqb inflow 0 ≡ false → (emission ≡ 0) ⊎ (0 < inflow)
charged_somewhere zero inflow e = inl refl
charged_somewhere (suc emission) zero e = absurd (true≢false (sym both ∙ e))
  where
    both : ltb 0 (suc emission) && eqb 0 0 ≡ true
    both = rw (lt-ltb 0 (suc emission) (omega arith), eq-eqb 0 0 refl) refl
charged_somewhere (suc emission) (suc inflow) e = inr (omega arith)

-- if no test of the segments fails, each account is sound
pub sound_each :
    (bytes : ℕ) (accounts : List Account) → NoneFails (segment_tests bytes accounts) →
    (index : ℕ) (none : Account) → index < length accounts → Sound (get_or accounts index none)
unfolding segment_tests
sound_each bytes [] passing index none below = absurd (omega (arith, below))
sound_each bytes (a ∷ accounts) (holds i (holds o (holds e more))) zero none below = record {
  inflow = ltb-false largest a.inflow i;
  outflow = ltb-false a.inflow a.outflow o;
  emission = charged_somewhere a.emission a.inflow e;
}
sound_each bytes (a ∷ accounts) (holds i (holds o (holds e more))) (suc index) none below =
    sound_each bytes accounts more index none (omega (arith, below))

-- ---- what the tables satisfy if 14 and 15 do not refuse them
pub table_room :
    (bytes : ℕ) (counts : Counts) (plant_table segment_table : ℕ) → NoneFails (table_tests bytes counts plant_table segment_table) →
    (plant_row_numbers * counts.plants ≤ plant_table) × (segment_row_numbers * counts.segments ≤ segment_table)
table_room bytes counts plant_table segment_table (holds p (holds s rest)) =
    (ltb-false plant_table (plant_row_numbers * counts.plants) p, ltb-false segment_table (segment_row_numbers * counts.segments) s)

-- ---- the whole period
pub record Means (period : Period) (plants segments : List ℕ) : Type 0 where
  pub within : Within period
  pub grams : (owner_kind owner : ℕ) → added_grams owner_kind owner period.lines ≤ most_grams
  pub captured :
      (index : ℕ) → index < length period.plants → captured_grams plant_owner (suc index) period.lines ≤ fuel_grams plant_owner (suc index) period.lines
  pub sound : (index : ℕ) → index < length period.segments → Sound (account_at period index)
  pub plants_are : plants ≡ plant_rows period.lines (accounts_of period) 0 period.plants (stores period)
  pub segments_are : segments ≡ segment_rows (accounts_of period)

-- there is an account for each segment
pub accounts_length : (period : Period) → length (accounts_of period) ≡ length period.segments
unfolding accounts_of
accounts_length period = length-map (turns_of period) (account period.lines) ∙ turns_length 1 period.segments (started period)

-- and it is that of the segment's turn
pub account_at_lem :
    (period : Period) (index : ℕ) (none : Account) → index < length period.segments → get_or (accounts_of period) index none ≡ account_at period index
unfolding accounts_of
account_at_lem period index none below =
    get_d_map (account period.lines) (turns_of period) index no_turn none (rw (turns_length 1 period.segments (started period)) below)

-- ---- a period that was read and then accepted
module _
    (file : List ℕ) (period : Period) (plant_table segment_table : ℕ) (plants segments : List ℕ)
    (accepting : judged file period (accounts_of period) plant_table segment_table ≡ accepted plants segments) where
  -- its tests that are left after reading: of the lines and what is captured, of the segments, of the tables
  abbrev of_lines : List Test
  of_lines = line_tests (line_start file (counts_of period)) period.lines 0 period.lines

  abbrev of_captured : List Test
  of_captured = listed (fuel_test (length file) period.lines) 0 (length period.plants)

  abbrev of_segments : List Test
  of_segments = segment_tests (length file) (accounts_of period)

  abbrev of_tables : List Test
  of_tables = table_tests (length file) (counts_of period) plant_table segment_table

  -- none of its tests fails, and the answer is its rows
  none : NoneFails ((of_lines ++ of_captured) ++ (of_segments ++ of_tables))
  unfolding judged emission_tests
  none = none_fails ((of_lines ++ of_captured) ++ (of_segments ++ of_tables)) (rows period (accounts_of period)) plants segments accepting

  rows_are : rows period (accounts_of period) ≡ accepted plants segments
  unfolding judged emission_tests
  rows_are = sym (none_answers refusal (rows period (accounts_of period)) none) ∙ accepting

  -- nor does one of those of emissions, or of those behind them
  none_of_emissions : NoneFails (of_lines ++ of_captured)
  none_of_emissions = (none_of_both (of_lines ++ of_captured) (of_segments ++ of_tables) none).0

  none_behind : NoneFails (of_segments ++ of_tables)
  none_behind = (none_of_both (of_lines ++ of_captured) (of_segments ++ of_tables) none).1

  -- so it is within the limits of 10 to 13 and 16
  judged_means : Within period → Means period plants segments
  unfolding rows
  judged_means within =
      let are = rows_are in
      record {
        within = within;
        grams =
            λ owner_kind owner.
            grams_each (line_start file (counts_of period))
            owner_kind owner period.lines 0 period.lines refl (none_of_both of_lines of_captured none_of_emissions).0
            (omega (arith, no_grams (of_classes is_added owner_kind owner)));
        captured =
            λ index below.
            rw (zero-add index)
            at (captured_each (length file) period.lines 0 (length period.plants) (none_of_both of_lines of_captured none_of_emissions).1 index below);
        sound =
            λ index below.
            let a : Account = account_at period index in
            rw (account_at_lem period index a below)
            at (sound_each (length file) (accounts_of period) (none_of_both of_segments of_tables none_behind).0 index a (rw (accounts_length period) below));
        plants_are = cc are;
        segments_are = cc are;
      }

  -- and each table is as long as 14 and 15 ask
  judged_room : (plant_row_numbers * length period.plants ≤ plant_table) × (segment_row_numbers * length period.segments ≤ segment_table)
  judged_room =
      table_room (length file) (counts_of period) plant_table segment_table (none_of_both of_segments of_tables none_behind).1

-- ---- a file that is accepted
-- what its period satisfies, and its rows
pub accepted_means : {file plants segments : List ℕ} → Accepted file plants segments → Means (held file) plants segments
unfolding quantified held
accepted_means {file} {plants} {segments} given = by_reading (period_file file) refl given.answer
  where
    by_reading :
        (outcome : Read Period) → period_file file ≡ outcome →
        after_reading file outcome given.plant_table given.segment_table ≡ accepted plants segments → Means (records_of outcome) plants segments
    by_reading (refused notice) r e = absurd (refusal_not_accepted e)
    by_reading (read period place at) r e =
        judged_means file period given.plant_table given.segment_table plants segments e (read_within file period place at r)

-- how long its tables are
pub accepted_lengths :
    {file plants segments : List ℕ} (given : Accepted file plants segments) →
    (plant_row_numbers * length (held file).plants ≤ given.plant_table) × (segment_row_numbers * length (held file).segments ≤ given.segment_table)
unfolding quantified held
accepted_lengths {file} {plants} {segments} given = by_reading (period_file file) given.answer
  where
    by_reading :
        (outcome : Read Period) → after_reading file outcome given.plant_table given.segment_table ≡ accepted plants segments →
        (plant_row_numbers * length (records_of outcome).plants ≤ given.plant_table) × (segment_row_numbers * length (records_of outcome).segments ≤ given.segment_table)
    by_reading (refused notice) e = absurd (refusal_not_accepted e)
    by_reading (read period place at) e = judged_room file period given.plant_table given.segment_table plants segments e
