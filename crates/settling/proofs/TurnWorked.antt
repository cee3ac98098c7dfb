-- A segment's turn that passes its tests: afterwards the books hold where the plants are then, and all that is past, so that the next turn can
-- come.
use Rattle.std.proofs.Common.{◌≡◌, ℕ, suc, ◌≤◌, ◌<◌, ◌⊎◌, inl, inr, Bool, true, false, cond, ◌||◌, eqb, List, length, get_or, bit_or, refl, sym, ap, ◌∙◌, arith}
use mathlib.Core.Bool.{and-false}
use mathlib.Core.Logic.{⊎_elim}
use native.Mathlib.Nat.{le_of_suc-le-suc, eq-or-lt_of_le}
use lib.Seq.{get_or-set_same, get_or-set_other}
use borrow.Author.Tests.{ne_eqb}
use Rattle.fields.specs.Answers.{accepts}
use Rattle.fields.specs.Lists.{sum}
use Rattle.records.specs.declared.segment.Segment.{Segment}
use Rattle.records.specs.Segments.{no_segment}
use Rattle.accounts.specs.Flow.{Standing, nowhere, passes, credits, sent_on}
use Rattle.accounts.specs.Accounts.{set_of, has_bit}
use Rattle.accounts.proofs.Sets.{set_same, set_joined}
use Rattle.accounts.proofs.Passing.{passed_at}
use Rattle.gathering.specs.declared.gathering.Gathered.{Gathered}
use Rattle.settling.specs.declared.flow.Books.{Books}
use Rattle.settling.specs.Books.{Passes, cell, column, Ahead, SetsHold, Moved}
use Rattle.settling.specs.Inside.{segments_in, Given}
use Rattle.settling.proofs.BooksAtTurn.{due_at, after, at, Past, AtTurn, segment_within, after_length, placed, after_on, own_account, own_tests, inside as inside_of, entering_is as entering_of, has as has_of, passes_here}
use Rattle.settling.proofs.OnePlantsTurn.{brings_on, stands}

module _
    {gathered : Gathered} (given : Given gathered) {s : ℕ} {books : Books} (now : AtTurn gathered s books) (below : s < gathered.counts.segments)
    {books' : Books} (moved : Moved (due_at gathered s) books books') where
  -- the segment, and where the plants are before and after its turn
  abbrev segment : Segment
  segment = get_or (segments_in gathered) s no_segment

  abbrev before : List Standing
  before = after gathered s

  abbrev behind : List Standing
  behind = after gathered (suc s)

  same_length : length behind ≡ length before
  same_length = after_length given (suc s) ∙ sym (after_length given s)

  -- what a plant is credited, and where it is then
  abbrev credit : ℕ → ℕ
  credit p = get_or (credits segment.outflow (column books s)) p 0

  at_next : (p : ℕ) → p < gathered.counts.plants → at gathered (suc s) p ≡ sent_on (suc s) segment.next (at gathered s p) (credit p)
  at_next p here =
      ap (λ (all : List Standing). get_or all p nowhere) (after_on given s below)
      ∙ passed_at (suc s) segment before p (placed given s p here)
      ∙ rw (entering_of given now below) refl

  -- a next segment is later
  not_next : (j : ℕ) → j ≤ s → eqb (suc j) segment.next ≡ false
  not_next j earlier =
      ne_eqb (suc j) segment.next
      (λ e. ⊎_elim (λ none. omega (arith, e, none)) (λ some. omega (arith, e, some.0, earlier)) (segment_within given s below).next)

  -- ---- what is past stays
  amount_stays : (p j : ℕ) → p < gathered.counts.plants → j ≤ s → cell books'.amounts p j ≡ cell books.amounts p j
  amount_stays p j here earlier =
      moved.amounts p (suc j) (rw now.plants_are here) ∙ rw (not_next j earlier, and-false (has_bit (get_or books.sets s 0) p)) refl

  set_stays : (j : ℕ) → j ≤ s → get_or books'.sets j 0 ≡ get_or books.sets j 0
  set_stays j earlier = moved.members j (omega (arith, earlier, inside_of given now below)) ∙ rw (not_next j earlier) refl

  -- the inflow of this turn is noted, and those of the others stay
  inflow_noted : get_or books'.inflows s 0 ≡ sum (column books s)
  inflow_noted =
      rw moved.inflows (get_or-set_same books.inflows s (own_account given now below).inflow 0 (rw books.inflows_sized (inside_of given now below)))

  inflow_stays : (j : ℕ) → j < s → get_or books'.inflows j 0 ≡ get_or books.inflows j 0
  inflow_stays j earlier =
      rw moved.inflows (get_or-set_other books.inflows s j (own_account given now below).inflow 0 (λ e. omega (arith, earlier, e)))

  -- so what was past still is, and so is this turn
  past_on : (j : ℕ) → (j < s) ⊎ (j ≡ s) → Past gathered books' j
  past_on j (inl earlier) =
      let past = now.past j earlier in
      record {
        amounts = λ p here. amount_stays p j here (omega arith) ∙ past.amounts p here;
        members = set_stays j (omega arith) ∙ past.members;
        inflow = inflow_stays j earlier ∙ past.inflow;
      }
  past_on j (inr e) = rw e (record {
    amounts = λ p here. amount_stays p s here (omega arith) ∙ now.amounts p (suc s) (placed given s p here) (inr (omega arith));
    members = set_stays s (omega arith) ∙ now.members s (omega arith) (inside_of given now below);
    inflow = inflow_noted ∙ ap sum (entering_of given now below);
  })

  -- ---- what is ahead goes on: the sets hold who then stands before each segment that is left
  members_on : SetsHold behind (suc s) books'.sets
  members_on j from here = moved.members j here ∙ by_test (eqb (suc j) segment.next) refl
    where
      others :
          (p : ℕ) → p < length before →
          passes (suc j) (get_or behind p nowhere)
          ≡ cond (eqb (suc j) segment.next) (passes (suc j) (get_or before p nowhere) || passes (suc s) (get_or before p nowhere)) (passes (suc j) (get_or before p nowhere))
      others p there =
          rw (at_next p (rw (after_length given s) at there))
          (stands (suc s) segment.next (credit p) (at gathered s p) (suc j) (λ e. omega (arith, from, e)))

      by_test :
          (b : Bool) → eqb (suc j) segment.next ≡ b →
          cond b (bit_or (get_or books.sets j 0) (get_or books.sets s 0)) (get_or books.sets j 0) ≡ set_of (suc j) 0 behind
      by_test true e =
          rw (now.members j (omega arith) here, now.members s (omega arith) (inside_of given now below))
          (set_joined (suc j) (suc s) before behind same_length (λ p there. rw e at (others p there)))
      by_test false e =
          now.members j (omega arith) here
          ∙ sym (set_same (suc j) (suc j) before behind same_length (λ p there. rw e at (others p there)))

  -- so the next turn can come
  pub turn_worked : Passes accepts (own_tests given now below) → AtTurn gathered (suc s) books'
  turn_worked passing = record {
    plants_are = moved.plants ∙ now.plants_are;
    amounts = λ p n there ahead. let plant = rw (after_length given (suc s)) at there in
        let other : n ≡ suc s → ⊥ = λ e. ⊎_elim (λ none. omega (arith, e, none)) (λ later. omega (arith, e, later)) ahead in
        let then : Ahead s n = ⊎_elim (λ none. inl none) (λ later. inr (omega (arith, later))) ahead in
        moved.amounts p n (rw now.plants_are plant)
        ∙ rw (has_of given now below p plant, now.amounts p n (placed given s p plant) then, at_next p plant)
        (brings_on (suc s) segment.next (credit p) (at gathered s p) n other);
    members = members_on;
    past = λ j earlier. past_on j (⊎_elim (λ same. inr same) (λ before. inl before) (eq-or-lt_of_le (le_of_suc-le-suc earlier)));
    tests = λ lines is rest settled. passes_here given now below passing lines is rest settled;
  }
