-- The call: what is gathered of a file, and then what its segments give, is the settlement of the definitions.
use Rattle.std.proofs.Common.{◌≡◌, ℕ, List, ◌++◌, length, Result, Ok, Err, refl, sym, ap, subst, ◌∙◌}
use Rattle.fields.specs.declared.answer.Refusal.{Refusal}
use Rattle.fields.specs.Answers.{Verdict, accepts, refuses}
use Rattle.fields.specs.Readers.{Read, read, refused}
use Rattle.fields.specs.Tests.{Test, tested_by}
use Rattle.fields.proofs.Testing.{tests_turned}
use Rattle.records.specs.declared.counts.Counts.{Counts}
use Rattle.records.specs.Plants.{most_plants, no_plant}
use Rattle.records.specs.Segments.{most_segments, no_segment}
use Rattle.records.specs.Classes.{plant_owner, segment_owner}
use Rattle.records.specs.Periods.{Period, period_file}
use Rattle.records.specs.Within.{CountsWithin}
use Rattle.accounts.specs.Order.{segment_tests}
use Rattle.accounts.specs.Quantified.{accounts_of}
use Rattle.gathering.specs.declared.gathering.Gathered.{Gathered}
use Rattle.gathering.specs.Gathered.{gathering_tests, Contents, nothing_gathered, gathered_of, gathered_after, gathering, GatherPromise}
use Rattle.gathering.proofs.Accepting.{Bounded, accepted_bounded}
use Rattle.settling.specs.declared.settling.Settled.{Settled}
use Rattle.settling.specs.Settled.{Settlement, nothing_settled, settled_of, settled_by, settled_period, settled_after, settlement, SettlePromise}
use Rattle.settling.specs.Inside.{plants_in, segments_in, EmissionsOf, Given, worked_off, SettledBy}
use Rattle.settling.proofs.Emitted.{front, emission_at, small_column}

-- ---- the settlement of a file, by its gathering: a refusal, or else what the segments give
abbrev decided : Verdict → Settlement → Settlement
decided (refuses notice) settled = nothing_settled notice
decided accepts settled = settled

abbrev settled_from : Contents → Settlement
settled_from gathered = decided gathered.verdict (worked_off gathered.bytes gathered.period)

module _ (file : List ℕ) where
  -- the tests of the gathering come first
  tests_first :
      (period : Period) (tests : List Test) →
      settled_by (tests ++ segment_tests (length file) (accounts_of period)) (settled_of period) ≡ settled_from (tested_by nothing_gathered tests (gathered_of file period))
  tests_first period tests =
      tests_turned nothing_gathered nothing_settled settled_from (λ notice. refl) tests (segment_tests (length file) (accounts_of period)) (gathered_of file period) (settled_of period) refl

  settled_from_lem : settlement file ≡ settled_from (gathering file)
  unfolding settlement settled_period gathering
  settled_from_lem = by_outcome (period_file file)
    where
      by_outcome : (outcome : Read Period) → settled_after file outcome ≡ settled_from (gathered_after file outcome)
      by_outcome (refused notice) = refl
      by_outcome (read period place at) = tests_first period (gathering_tests file period)

  -- ---- what was gathered: the file is refused
  pub file_out : (refusal : Refusal) → GatherPromise file (Err refusal) → SettlePromise file (Err refusal)
  file_out refusal told =
      rw (settled_from_lem) (ap (λ (v : Verdict). (decided v (worked_off (gathering file).bytes (gathering file).period)).verdict) told)

  -- it is accepted: what is left is to work the segments
  module _ (gathered : Gathered) (told : GatherPromise file (Ok gathered)) where
    bounded : Bounded (gathering file)
    bounded = accepted_bounded file (sym told.verdict)

    abbrev period : Period
    period = (gathering file).period

    -- its records are those of the arrays
    its_plants : plants_in gathered ≡ period.plants
    its_plants = front no_plant most_plants gathered.counts.plants period.plants gathered.plants told.plants (ap (λ (c : Counts). c.plants) told.counts)

    its_segments : segments_in gathered ≡ period.segments
    its_segments =
        front no_segment most_segments gathered.counts.segments period.segments gathered.segments told.segments (ap (λ (c : Counts). c.segments) told.counts)

    pub settle_fits : Given gathered
    settle_fits = record {
      counts_within = subst CountsWithin (sym told.counts) bounded.within.counts;
      plants_counted = ap length its_plants ∙ sym (ap (λ (c : Counts). c.plants) told.counts);
      segments_counted = ap length its_segments ∙ sym (ap (λ (c : Counts). c.segments) told.counts);
      each_plant = rw (its_plants, told.counts) bounded.within.plants;
      each_segment = rw (its_segments, told.counts) bounded.within.segments;
      small_plants = small_column plant_owner _ period.lines _ told.emissions.plants_are (bounded.most plant_owner);
      small_segments = small_column segment_owner _ period.lines _ told.emissions.segments_are (bounded.most segment_owner);
    }

    -- its owners emit what its lines say
    emitted : EmissionsOf gathered period.lines
    emitted = record {
      plants = λ p here. emission_at plant_owner _ period.lines _ told.emissions.plants_are p (rw told.counts at here);
      segments = λ s here. emission_at segment_owner _ period.lines _ told.emissions.segments_are s (rw told.counts at here);
    }

    pub settled_whole : (r : Result Settled Refusal) → SettledBy gathered r → SettlePromise file r
    settled_whole r settles =
        rw (settled_from_lem, ← told.verdict) (rw (told.bytes, its_plants, its_segments) at (settles period.lines emitted))
