-- The segments worked in rising number: what the books hold when a segment's turn comes, before the first and after the last.
use Rattle.std.proofs.Common.{◌≡◌, ℕ, suc, ◌<◌, inr, List, [], ◌∷◌, ◌++◌, map, length, drop, get_or, append_assoc, refl, sym, ap, ◌∙◌, arith}
use lib.ListN.{length-map}
use lib.Seq.{drop-cons, ext_get_or}
use Rattle.fields.specs.Answers.{Notice, accepts, refuses}
use Rattle.fields.specs.Lists.{sum}
use Rattle.fields.specs.Tests.{Test}
use Rattle.records.specs.declared.line.Line.{Line}
use Rattle.records.specs.Segments.{most_segments, no_segment}
use Rattle.records.specs.Within.{SegmentWithin}
use Rattle.records.proofs.Within.{each_at}
use Rattle.accounts.specs.Flow.{Standing, nowhere, passes, brings, amounts as entering, passed, turns, arrived}
use Rattle.accounts.specs.Accounts.{Account, set_of, account, has_bit}
use Rattle.accounts.specs.Order.{segment_tests}
use Rattle.accounts.proofs.Sets.{set_has}
use Rattle.accounts.proofs.Passing.{get_d_map}
use Rattle.accounts.proofs.TurnsOfPeriod.{after as turned_after, after_length as turned_length, after_on as turned_on}
use Rattle.gathering.specs.declared.gathering.Gathered.{Gathered}
use Rattle.settling.specs.declared.flow.Books.{Books}
use Rattle.settling.specs.declared.flow.Due.{Due}
use Rattle.settling.specs.Settled.{Settlement, settled_by}
use Rattle.settling.specs.Books.{Passes, cell, column, AmountsHold, SetsHold, Started, account_by}
use Rattle.settling.specs.Inside.{plants_in, segments_in, period_in, EmissionsOf, Given}
use Rattle.settling.proofs.Columns.{column_length, column_at}

module _ (gathered : Gathered) where
  -- the segment at an index, when its turn comes
  abbrev pub due_at : ℕ → Due
  due_at s =
      record { index = s; segment = get_or (segments_in gathered) s no_segment; emission = get_or gathered.emissions.segments s 0; bytes = gathered.emissions.bytes }

  -- where the plants are after s turns, whatever the lines; and where one of them is
  abbrev pub after : ℕ → List Standing
  after = turned_after (period_in gathered [])

  abbrev pub at : (s p : ℕ) → Standing
  at s p = get_or (after s) p nowhere

  -- the accounts of all turns from the one at an index on, for these lines; and their tests
  abbrev pub left : List Line → ℕ → List Account
  left lines s = map (account lines) (turns (suc s) (drop s (segments_in gathered)) (after s))

  abbrev pub tests_left : List Line → ℕ → List Test
  tests_left lines s = segment_tests gathered.emissions.bytes (left lines s)

  -- a turn that is past: its column, its set and its inflow
  pub record Past (books : Books) (s : ℕ) : Type 0 where
    pub amounts : (p : ℕ) → p < gathered.counts.plants → cell books.amounts p s ≡ brings (suc s) (at s p)
    pub members : get_or books.sets s 0 ≡ set_of (suc s) 0 (after s)
    pub inflow : get_or books.inflows s 0 ≡ sum (entering (suc s) (after s))

  -- what holds when the turn of the segment at an index comes
  pub record AtTurn (s : ℕ) (books : Books) : Type 0 where
    pub plants_are : books.plants ≡ gathered.counts.plants
    -- the books hold where the plants are, and what is past
    pub amounts : AmountsHold (after s) s books
    pub members : SetsHold (after s) s books.sets
    pub past : (j : ℕ) → j < s → Past books j
    -- no test has failed
    pub tests :
        (lines : List Line) → EmissionsOf gathered lines → (rest : List Test) (settled : Settlement) →
        settled_by (tests_left lines 0 ++ rest) settled ≡ settled_by (tests_left lines s ++ rest) settled

module _ {gathered : Gathered} (given : Given gathered) where
  -- each segment by its index
  pub segment_within : (s : ℕ) → s < gathered.counts.segments → SegmentWithin gathered.counts (suc s) (get_or (segments_in gathered) s no_segment)
  segment_within s below =
      each_at (SegmentWithin gathered.counts) 1 (segments_in gathered) s no_segment (suc s) (omega arith) (rw given.segments_counted below) given.each_segment

  -- all plants are somewhere after s turns
  pub after_length : (s : ℕ) → length (after gathered s) ≡ gathered.counts.plants
  after_length s = turned_length (period_in gathered []) s ∙ given.plants_counted

  pub placed : (s p : ℕ) → p < gathered.counts.plants → p < length (after gathered s)
  placed s p plant = rw (after_length s) plant

  -- where they are after one turn more
  pub after_on : (s : ℕ) → s < gathered.counts.segments → after gathered (suc s) ≡ passed (suc s) (get_or (segments_in gathered) s no_segment) (after gathered s)
  after_on s below = turned_on (period_in gathered []) s (rw given.segments_counted below)

  -- ---- before the first turn
  pub at_start : {books : Books} → Started (plants_in gathered) books → AtTurn gathered 0 books
  unfolding arrived
  at_start started = record {
    plants_are = started.plants_are ∙ given.plants_counted;
    amounts = started.amounts;
    members = started.members;
    past = λ j below. absurd (omega (arith, below));
    tests = λ lines is rest settled. refl;
  }

  -- ---- the turn of the segment at an index
  module _ {s : ℕ} {books : Books} (now : AtTurn gathered s books) (below : s < gathered.counts.segments) where
    -- its account, by the books, and its tests
    abbrev pub own_account : Account
    own_account = account_by (due_at gathered s) books

    abbrev pub own_tests : List Test
    own_tests = segment_tests gathered.emissions.bytes (own_account ∷ [])

    -- the books have its place
    pub inside : s < most_segments
    inside = omega (arith, below, given.counts_within.most_segments_is)

    -- what the plants bring is the column of the segment
    pub entering_is : column books s ≡ entering (suc s) (after gathered s)
    entering_is =
        ext_get_or 0 (column books s) (entering (suc s) (after gathered s))
        (columned ∙ sym (length-map (after gathered s) (brings (suc s)) ∙ after_length s))
        (λ p here. at_plant p (rw columned at here))
      where
        columned : length (column books s) ≡ gathered.counts.plants
        columned = column_length books s ∙ now.plants_are

        at_plant : (p : ℕ) → p < gathered.counts.plants → get_or (column books s) p 0 ≡ get_or (entering (suc s) (after gathered s)) p 0
        at_plant p here =
            column_at books s p (rw now.plants_are here)
            ∙ now.amounts p (suc s) (placed s p here) (inr (omega arith))
            ∙ sym (get_d_map (brings (suc s)) (after gathered s) p nowhere 0 (placed s p here))

    -- and who they are its set
    pub has : (p : ℕ) → p < gathered.counts.plants → has_bit (get_or books.sets s 0) p ≡ passes (suc s) (at gathered s p)
    has p here =
        ap (λ (n : ℕ). has_bit n p) (now.members s (omega arith) inside)
        ∙ set_has (suc s) (after gathered s) p (placed s p here)

    -- the account of the definitions is that of the books
    account_is :
        (lines : List Line) → EmissionsOf gathered lines →
        account lines (record { own = suc s; segment = get_or (segments_in gathered) s no_segment; standings = after gathered s }) ≡ own_account
    unfolding account
    account_is lines is = rw (entering_is, is.segments s below, now.members s (omega arith) inside) refl

    -- its tests are the next, before those that are left afterwards
    next_tests : (lines : List Line) → EmissionsOf gathered lines → tests_left gathered lines s ≡ own_tests ++ tests_left gathered lines (suc s)
    unfolding segment_tests turns
    next_tests lines is =
        rw (drop-cons (segments_in gathered) s no_segment (rw given.segments_counted below), account_is lines is, ← after_on s below) refl

    pub reached :
        (lines : List Line) → EmissionsOf gathered lines → (rest : List Test) (settled : Settlement) →
        settled_by (tests_left gathered lines 0 ++ rest) settled ≡ settled_by (own_tests ++ (tests_left gathered lines (suc s) ++ rest)) settled
    reached lines is rest settled =
        now.tests lines is rest settled
        ∙ ap (λ (tests : List Test). settled_by (tests ++ rest) settled) (next_tests lines is)
        ∙ ap (λ (tests : List Test). settled_by tests settled) (append_assoc own_tests (tests_left gathered lines (suc s)) rest)

    -- if they pass, those that are left decide; one that fails refuses the period
    pub passes_here :
        Passes accepts own_tests → (lines : List Line) → EmissionsOf gathered lines → (rest : List Test) (settled : Settlement) →
        settled_by (tests_left gathered lines 0 ++ rest) settled ≡ settled_by (tests_left gathered lines (suc s) ++ rest) settled
    passes_here passing lines is rest settled = reached lines is rest settled ∙ passing (tests_left gathered lines (suc s) ++ rest) settled

    pub fails_here :
        (notice : Notice) → Passes (refuses notice) own_tests → (lines : List Line) → EmissionsOf gathered lines →
        Passes (refuses notice) (tests_left gathered lines 0)
    fails_here notice fails lines is = λ rest settled. reached lines is rest settled ∙ fails (tests_left gathered lines (suc s) ++ rest) settled
