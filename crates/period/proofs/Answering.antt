-- The call, step by step: what the settlement and the room in the tables give is the ruling of the definitions.
use Prim.Native.Nat.{ℕ, ◌*◌, ◌≤◌}
use mathlib.Core.Path.{◌≡◌, refl, sym, ap, ap₂, subst, ◌∙◌}
use mathlib.Core.List.{List, ◌++◌, append_assoc, flat_map}
use lib.ListN.{length, length-map, take, drop}
use Rattle.std.specs.Prelude.{Ok, Err}
use Rattle.fields.specs.declared.answer.Refusal.{Refusal}
use Rattle.fields.specs.Answers.{Verdict, accepts, refuses, refusing}
use Rattle.fields.specs.Readers.{Read, read, refused}
use Rattle.fields.specs.Tests.{Test, NoneFails}
use Rattle.fields.proofs.Answers.{refuses_not_accepts}
use Rattle.fields.proofs.Testing.{none_answers, tests_turned, tests_as, listed_length}
use Rattle.records.specs.Headers.{announced}
use Rattle.records.specs.Plants.{most_plants}
use Rattle.records.specs.Segments.{most_segments}
use Rattle.records.specs.Periods.{Period, period_file}
use Rattle.accounts.specs.Order.{Ruling, refusal, accepted, tested, segment_tests, plant_row_numbers, segment_row_numbers, table_tests}
use Rattle.accounts.specs.Quantified.{accounts_of, rows, judged, after_reading, quantified}
use Rattle.accounts.proofs.Testing.{none_fails}
use Rattle.accounts.proofs.Accepting.{accounts_length, table_room}
use Rattle.gathering.specs.Gathered.{gathering_tests}
use Rattle.settling.specs.declared.account.PlantAccount.{PlantAccount}
use Rattle.settling.specs.declared.account.SegmentAccount.{SegmentAccount}
use Rattle.settling.specs.declared.settling.Settled.{Settled}
use Rattle.settling.specs.Settled.{no_plant_account, no_segment_account, segment_account, plant_account_at, plant_accounts, segment_accounts, Settlement, nothing_settled, settled_of, settled_by, settled_period, settled_after, settlement, SettlePromise}
use Rattle.period.specs.Written.{plant_row_of, segment_row_of, with_tables, Lent, lent, ruling_on, ruling_verdict, lent_after, HandsBack, QuantifyPromise}
use Rattle.period.proofs.Refusing.{accepted_told}
use Rattle.period.proofs.RowsWritten.{flat_length}
use Rattle.period.proofs.RowsOfAccounts.{plant_rows_are, segment_rows_are, filled_front}

-- ---- a settlement, with tables of given lengths
module _ (plant_table segment_table bytes : ℕ) where
  -- the tests of the tables, for the plants and the segments that it has
  abbrev table_tests_of : Settlement → List Test
  table_tests_of settled = table_tests bytes (announced (length settled.plants) (length settled.segments) 0) plant_table segment_table

  -- its rows
  abbrev pub rows_of : Settlement → Ruling
  rows_of settled = accepted (flat_map plant_row_of settled.plants) (flat_map segment_row_of settled.segments)

  -- the ruling: a refusal stands, else the tables decide
  abbrev ruled_by : Verdict → Settlement → Ruling
  ruled_by (refuses notice) settled = refusal notice
  ruled_by accepts settled = tested (table_tests_of settled) (rows_of settled)

  abbrev pub ruled : Settlement → Ruling
  ruled settled = ruled_by settled.verdict settled

  -- tests before those of the tables
  tested_before :
      (tests : List Test) (settled : Settlement) (rest : List Test) (ruling : Ruling) → tested rest ruling ≡ ruled settled →
      tested (tests ++ rest) ruling ≡ ruled (settled_by tests settled)
  tested_before tests settled rest ruling e = tests_turned nothing_settled refusal ruled (λ notice. refl) tests rest settled ruling e

  -- the ruling on a period that was read
  judged_is :
      (file : List ℕ) → length file ≡ bytes → (period : Period) → judged file period (accounts_of period) plant_table segment_table ≡ ruled (settled_period file period)
  unfolding judged settled_period rows
  judged_is file long period =
      let counted : length (plant_accounts period) ≡ length period.plants = listed_length (plant_account_at period) 0 (length period.plants) in
      let counted' : length (segment_accounts period) ≡ length period.segments = length-map (accounts_of period) segment_account ∙ accounts_length period in
      let tests = gathering_tests file period in
      let of_segments = segment_tests (length file) (accounts_of period) in
      ap (λ (all : List Test). tested all (rows period (accounts_of period))) (sym (append_assoc tests of_segments _))
      ∙ tested_before (tests ++ of_segments) (settled_of period) _ _
      (rw (long, counted, counted', plant_rows_are period, segment_rows_are (accounts_of period)) refl)

  -- and on a file
  pub ruling_is : (file : List ℕ) → length file ≡ bytes → quantified file plant_table segment_table ≡ ruled (settlement file)
  unfolding quantified settlement
  ruling_is file long = by_outcome (period_file file)
    where
      by_outcome : (outcome : Read Period) → after_reading file outcome plant_table segment_table ≡ ruled (settled_after file outcome)
      by_outcome (refused notice) = refl
      by_outcome (read period place at) = judged_is file long period

  -- a settlement that refuses nothing: the tables decide
  module _ (settled : Settlement) (is : accepts ≡ settled.verdict) where
    by_tables : ruled settled ≡ tested (table_tests_of settled) (rows_of settled)
    by_tables = ap (λ (verdict : Verdict). ruled_by verdict settled) (sym is)

    -- what it says to the caller
    tables_verdict : with_tables (length settled.plants) (length settled.segments) plant_table segment_table bytes accepts ≡ ruling_verdict (ruled settled)
    tables_verdict = tests_as refusal refuses ruling_verdict (λ notice. refl) (table_tests_of settled) (rows_of settled) ∙ sym (ap ruling_verdict by_tables)

    -- if that is acceptance, none of their tests fails
    passed : accepts ≡ with_tables (length settled.plants) (length settled.segments) plant_table segment_table bytes accepts → NoneFails (table_tests_of settled)
    passed passes =
        accepted_told (tested (table_tests_of settled) (rows_of settled)) (NoneFails (table_tests_of settled)) (none_fails (table_tests_of settled) (rows_of settled))
        (sym (passes ∙ tables_verdict ∙ ap ruling_verdict by_tables))

-- ---- a file that was settled, and tables of given lengths
module _ (file : List ℕ) (plant_table segment_table : ℕ) where
  -- a refusal is that of the ruling
  pub settled_refused : (why : Refusal) → SettlePromise file (Err why) → refusing why ≡ ruling_verdict (quantified file plant_table segment_table)
  settled_refused why promised =
      ap (λ (verdict : Verdict). ruling_verdict (ruled_by plant_table segment_table (length file) verdict (settlement file))) promised
      ∙ sym (ap ruling_verdict (ruling_is plant_table segment_table (length file) file refl))

  module _ (r : Settled) (settles : SettlePromise file (Ok r)) where
    -- its accounts stand at the front of the arrays
    pub plants_are : take r.plant_count r.plants ≡ (settlement file).plants
    plants_are = filled_front no_plant_account most_plants r.plant_count (settlement file).plants r.plants settles.plants settles.plant_count_is

    pub segments_are : take r.segment_count r.segments ≡ (settlement file).segments
    segments_are =
        filled_front no_segment_account most_segments r.segment_count (settlement file).segments r.segments settles.segments settles.segment_count_is

    -- what the tables are tested for
    abbrev pub tables_say : Verdict
    tables_say = with_tables r.plant_count r.segment_count plant_table segment_table (length file) accepts

    tables_say_is : tables_say ≡ with_tables (length (settlement file).plants) (length (settlement file).segments) plant_table segment_table (length file) accepts
    tables_say_is = rw (settles.plant_count_is, settles.segment_count_is) refl

    -- that is the ruling
    pub verdict_is : tables_say ≡ ruling_verdict (quantified file plant_table segment_table)
    verdict_is =
        tables_say_is
        ∙ tables_verdict plant_table segment_table (length file) (settlement file) settles.verdict
        ∙ sym (ap ruling_verdict (ruling_is plant_table segment_table (length file) file refl))

    -- accepted
    module _ (passes : accepts ≡ tables_say) where
      none : NoneFails (table_tests_of plant_table segment_table (length file) (settlement file))
      none = passed plant_table segment_table (length file) (settlement file) settles.verdict (passes ∙ tables_say_is)

      -- the ruling has the rows of the accounts
      pub rows_are :
          quantified file plant_table segment_table ≡ accepted (flat_map plant_row_of (take r.plant_count r.plants)) (flat_map segment_row_of (take r.segment_count r.segments))
      rows_are =
          ruling_is plant_table segment_table (length file) file refl
          ∙ by_tables plant_table segment_table (length file) (settlement file) settles.verdict
          ∙ none_answers refusal _ none
          ∙ ap₂ (λ (plants : List PlantAccount) (segments : List SegmentAccount). accepted (flat_map plant_row_of plants) (flat_map segment_row_of segments))
          (sym plants_are) (sym segments_are)

      -- for which there is room
      pub room_is :
          (plant_row_numbers * length (take r.plant_count r.plants) ≤ plant_table)
          × (segment_row_numbers * length (take r.segment_count r.segments) ≤ segment_table)
      room_is =
          rw (plants_are, segments_are)
          (table_room (length file) (announced (length (settlement file).plants) (length (settlement file).segments) 0) plant_table segment_table none)

-- ---- how many numbers the rows have
pub plants_long : (accounts : List PlantAccount) → length (flat_map plant_row_of accounts) ≡ plant_row_numbers * length accounts
plants_long = flat_length plant_row_of plant_row_numbers (λ account. refl)

pub segments_long : (accounts : List SegmentAccount) → length (flat_map segment_row_of accounts) ≡ segment_row_numbers * length accounts
segments_long = flat_length segment_row_of segment_row_numbers (λ account. refl)

-- ---- the call on tables of numbers
module _ (file : List ℕ) (tables : Lent) where
  -- a refusal writes nothing
  pub call_refuses : (why : Refusal) → refusing why ≡ ruling_verdict (ruling_on file tables) → QuantifyPromise file tables (Err why) tables
  call_refuses why = by_ruling (ruling_on file tables) refl
    where
      by_ruling : (ruling : Ruling) → ruling_on file tables ≡ ruling → refusing why ≡ ruling_verdict ruling → QuantifyPromise file tables (Err why) tables
      by_ruling (refusal notice) e says = record {
        hands_back = subst (HandsBack (Err why)) (sym e) (cc);
        leaves = sym (ap (λ (ruling : Ruling). lent_after ruling tables) e);
      }
      by_ruling (accepted plants segments) e says = absurd (refuses_not_accepts says)

  -- acceptance writes the rows of some accounts
  pub call_accepts :
      (plants : List PlantAccount) (segments : List SegmentAccount) → ruling_on file tables ≡ accepted (flat_map plant_row_of plants) (flat_map segment_row_of segments) →
      (tables' : Lent) → tables'.plants ≡ flat_map plant_row_of plants ++ drop (plant_row_numbers * length plants) tables.plants →
      tables'.segments ≡ flat_map segment_row_of segments ++ drop (segment_row_numbers * length segments) tables.segments →
      QuantifyPromise file tables (Ok (record { plant_numbers = plant_row_numbers * length plants; segment_numbers = segment_row_numbers * length segments })) tables'
  call_accepts plants segments rows tables' plants_written segments_written =
      let long = plants_long plants in
      let long' = segments_long segments in
      record {
        hands_back = rw rows (sym long, sym long');
        leaves = rw (rows, long, long') (ap₂ lent plants_written segments_written);
      }
