-- A period settled: what its steps ask, and what they give.
use Rattle.std.proofs.Common.{◌≡◌, ℕ, suc, ◌<◌, List, [], ◌++◌, map, length, drop, Ok, Err, refl, sym, ap, ◌∙◌, append-nil, arith}
use lib.ListN.{length-map, drop_of_length-le}
use Rattle.fields.specs.declared.answer.Refusal.{Refusal}
use Rattle.fields.specs.Answers.{refusing}
use Rattle.fields.specs.Lists.{Each, filled}
use Rattle.fields.specs.Tests.{Test, tested_by}
use Rattle.fields.proofs.Testing.{listed_length}
use Rattle.records.specs.declared.line.Line.{Line}
use Rattle.records.specs.declared.segment.Segment.{Segment}
use Rattle.records.specs.Plants.{most_plants}
use Rattle.records.specs.Segments.{most_segments}
use Rattle.records.specs.Within.{PlantWithin, SegmentWithin, most_counts}
use Rattle.records.proofs.Within.{each_on, plant_within_most, segment_within_most}
use Rattle.accounts.specs.Flow.{turns, arrived}
use Rattle.accounts.specs.Accounts.{account}
use Rattle.accounts.specs.Order.{segment_tests}
use Rattle.accounts.specs.Quantified.{accounts_of}
use Rattle.accounts.proofs.Accepting.{accounts_length}
use Rattle.gathering.specs.declared.gathering.Gathered.{Gathered}
use Rattle.settling.specs.declared.account.PlantAccount.{PlantAccount}
use Rattle.settling.specs.declared.account.SegmentAccount.{SegmentAccount}
use Rattle.settling.specs.declared.flow.Books.{Books}
use Rattle.settling.specs.Settled.{no_plant_account, no_segment_account, plant_account_at, segment_account, Settlement, settled_of, settled_by}
use Rattle.settling.specs.Books.{Passes}
use Rattle.settling.specs.Inside.{plants_in, segments_in, period_in, EmissionsOf, Given, Accountable, plant_accounts_by, segment_accounts_by, worked_off, SettledBy}
use Rattle.settling.proofs.AccountsByBooks.{plants_are, segments_are, chargeable}
use Rattle.settling.proofs.BooksAtTurn.{due_at, after, tests_left, AtTurn, segment_within, own_tests, fails_here}

module _ {gathered : Gathered} (given : Given gathered) where
  -- every first segment has its place in the books
  pub plants_start : Each (PlantWithin most_counts) 1 (plants_in gathered)
  plants_start = each_on (plant_within_most given.counts_within) 1 (plants_in gathered) given.each_plant

  -- and so does every next one
  pub due_within : (s : ℕ) → s < gathered.counts.segments → SegmentWithin most_counts (suc s) (due_at gathered s).segment
  due_within s below = segment_within_most given.counts_within (suc s) _ (segment_within given s below)

  -- what is left of the tests decides
  by_tests : (lines : List Line) → worked_off gathered.emissions.bytes (period_in gathered lines) ≡ settled_by (tests_left gathered lines 0 ++ []) (settled_of (period_in gathered lines))
  unfolding accounts_of arrived
  by_tests lines = ap (λ (tests : List Test). settled_by tests (settled_of (period_in gathered lines))) (sym (append-nil (tests_left gathered lines 0)))

  -- a test of a segment that fails refuses the period
  pub turned_refused :
      {s : ℕ} {books : Books} (now : AtTurn gathered s books) (below : s < gathered.counts.segments) (refusal : Refusal) →
      Passes (refusing refusal) (own_tests given now below) → SettledBy gathered (Err refusal)
  turned_refused now below refusal fails lines is =
      sym (ap (λ (settled : Settlement). settled.verdict) (by_tests lines ∙ fails_here given now below _ fails lines is [] (settled_of (period_in gathered lines))))

  -- ---- all segments are worked
  module _ {books : Books} (worked : AtTurn gathered gathered.counts.segments books) where
    -- what is charged can be counted
    pub accountable : Accountable gathered books
    accountable = record { plants_are = worked.plants_are; chargeable = chargeable given worked }

    -- no test is left, and the accounts are those of the period
    none_left : (lines : List Line) → EmissionsOf gathered lines → worked_off gathered.emissions.bytes (period_in gathered lines) ≡ settled_of (period_in gathered lines)
    unfolding turns segment_tests tested_by
    none_left lines is =
        let none : drop gathered.counts.segments (segments_in gathered) ≡ [] =
        drop_of_length-le (segments_in gathered) {i = gathered.counts.segments} (rw given.segments_counted (omega arith)) in
        by_tests lines
        ∙ worked.tests lines is [] (settled_of (period_in gathered lines))
        ∙ ap (λ (gone : List Segment). settled_by (segment_tests gathered.emissions.bytes (map (account lines) (turns (suc gathered.counts.segments) gone (after gathered gathered.counts.segments))) ++ []) (settled_of (period_in gathered lines))) none

    pub all_settled :
        (plants : List PlantAccount) (segments : List SegmentAccount) → plants ≡ plant_accounts_by gathered books → segments ≡ segment_accounts_by gathered books →
        SettledBy gathered (Ok (record { plant_count = gathered.counts.plants; segment_count = gathered.counts.segments; plants = plants; segments = segments }))
    unfolding accounts_of
    all_settled plants segments by_plants by_segments lines is =
        let period = period_in gathered lines in
        rw (none_left lines is) (record {
          verdict = refl;
          plant_count_is = sym (listed_length (plant_account_at period) 0 (length (plants_in gathered)) ∙ given.plants_counted);
          segment_count_is = sym (length-map (accounts_of period) segment_account ∙ accounts_length period ∙ given.segments_counted);
          plants = by_plants ∙ ap (filled no_plant_account most_plants) (plants_are given worked lines is);
          segments = by_segments ∙ ap (filled no_segment_account most_segments) (segments_are given worked lines is);
        })
