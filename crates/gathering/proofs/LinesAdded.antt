-- The loop that adds up the lines as they are read, with one law for its start and each way through a turn.
use Prim.Native.Nat.{ℕ, suc, ◌+◌, ◌<◌}
use mathlib.Core.Path.{◌≡◌, refl, sym, ap, ◌∙◌}
use mathlib.Core.Bool.{Bool, true, false, cond}
use mathlib.Core.List.{List, [], ◌∷◌, ◌++◌}
use native.Mathlib.Numerals.{add-one}
use native.Mathlib.Omega.{arith}
use lib.Dec.{ltb}
use lib.ListN.{length, take, drop, get_or, length-append}
use lib.Seq.{take-suc, take-append_seam, drop-cons, get_or_at, append_snoc}
use Rattle.std.proofs.Common.{Option, Some, None}
use Rattle.fields.specs.declared.reason.Reason.TheVariants.{TooManyGrams}
use Rattle.fields.specs.declared.spot.Spot.{Spot}
use Rattle.fields.specs.Reasons.{number_of}
use Rattle.fields.specs.Answers.{notice, Verdict, accepts, refuses}
use Rattle.fields.specs.Spots.{taking_at}
use Rattle.fields.specs.Reaching.{whole, reads_from}
use Rattle.fields.specs.Tests.{tested_by}
use Rattle.fields.proofs.Stages.{Passed, none_passed, one_passed}
use Rattle.records.specs.declared.counts.Counts.{Counts}
use Rattle.records.specs.declared.line.Line.{Line}
use Rattle.records.specs.Lines.{most_grams, no_line}
use Rattle.records.specs.Periods.{line}
use Rattle.records.specs.Places.{line_start}
use Rattle.records.proofs.Starts.{next_line_starts}
use Rattle.accounts.specs.Emissions.{added_grams}
use Rattle.accounts.specs.Order.{line_tests}
use Rattle.gathering.specs.declared.totals.Totals.{Totals}
use Rattle.gathering.specs.OwnerTotals.{first_over, Owner, no_totals, totals_with, Sums}
use Rattle.gathering.proofs.OwnerTotals.{sums_start, sums_on, capped_over}

-- ---- what 10 says of some lines
abbrev pub ten_of : (starts : ℕ → ℕ) → List Line → Verdict
ten_of starts lines = tested_by refuses (line_tests starts lines 0 lines) accepts

-- the first l of them passed, and those behind are left
abbrev Passed-ten : (starts : ℕ → ℕ) → List Line → ℕ → Type 0
Passed-ten starts lines l = ten_of starts lines ≡ tested_by refuses (line_tests starts lines l (drop l lines)) accepts

-- the next of them is tested with what its owner's lines add up to
next_tested :
    (starts : ℕ → ℕ) (done : List Line) (one : Line) (later : List Line) (l : ℕ) → length done ≡ l → Passed-ten starts (done ++ (one ∷ later)) l →
    ten_of starts (done ++ (one ∷ later))
    ≡ cond (ltb most_grams (added_grams one.owner_kind one.owner (done ++ (one ∷ []))))
    (refuses (notice (number_of TooManyGrams) (suc l) (starts l)))
    (tested_by refuses (line_tests starts (done ++ (one ∷ later)) (suc l) (drop (suc l) (done ++ (one ∷ later)))) accepts)
unfolding tested_by line_tests
next_tested starts done one later l counted passed =
    let lines = done ++ (one ∷ later) in
    let more : l < length lines = omega (arith, length-append done (one ∷ later), counted) in
    let front : take l lines ≡ done = rw (← counted) (take-append_seam done (one ∷ later)) in
    let here : get_or lines l no_line ≡ one = get_or_at done one later no_line l counted in
    passed ∙ rw (drop-cons lines l no_line more, here, take-suc lines l no_line more, front, here)

-- ---- the loop: l lines are read and added up, and tested up to the first whose owner's total passes the limit, whatever lines follow
module _ (file : List ℕ) (start : Spot) (counts : Counts) where
  abbrev pub starts : ℕ → ℕ
  starts index = line_start file counts index

  -- what is known of the tests so far: all passed, or the first that fails refuses
  abbrev Tested : Option Spot → List Line → ℕ → Type 0
  Tested None done l = (later : List Line) → Passed-ten starts (done ++ later) l
  Tested (Some first) done l =
      (later : List Line) → ten_of starts (done ++ later) ≡ refuses (notice (number_of TooManyGrams) first.place first.byte)

  pub record AddingUp (totals : Totals) (over : Option Spot) (at : Spot) (l : ℕ) : Type 0 where
    pub done : List Line
    pub read_so_far : Passed (λ (own : ℕ). line counts) (taking_at file) start counts.lines done at l
    pub stands : at.byte ≡ starts l
    pub sums : Sums done totals
    pub tested : Tested over done l

  -- no line is read
  pub none_added : start.byte ≡ starts 0 → AddingUp no_totals None start 0
  none_added here = record {
    done = [];
    read_so_far = none_passed (λ (own : ℕ). line counts) (taking_at file) start counts.lines;
    stands = here;
    sums = sums_start;
    tested = λ later. refl;
  }

  -- nor in totals that are those of no line, with which the loop begins
  pub none_added_lem : (totals : Totals) → totals ≡ no_totals → start.byte ≡ starts 0 → AddingUp totals None start 0
  none_added_lem totals none here = rw none (none_added here)

module _
    {file : List ℕ} {start : Spot} {counts : Counts} {before : Totals} {over : Option Spot} {at : Spot} {l : ℕ}
    (so_far : AddingUp file start counts before over at l)
    (more : l < counts.lines) (one : Line) (behind : Spot) (came : reads_from (line counts) file at ≡ whole one behind)
    (place : ℕ) (owner : Owner one.owner_kind one.owner place) where
  -- with this line
  abbrev with_line : Totals
  with_line = totals_with before place one

  -- what is added of its owner's lines
  abbrev total : ℕ
  total = get_or with_line.added place 0

  -- the lines up to this one
  abbrev with_it : List Line
  with_it = so_far.done ++ (one ∷ [])

  sums_with : Sums with_it with_line
  sums_with = sums_on so_far.sums one place owner

  -- what its owner's lines add up to is what the code compares with the limit
  compared : ltb most_grams total ≡ ltb most_grams (added_grams one.owner_kind one.owner with_it)
  compared =
      ap (ltb most_grams) (sums_with.added.each one.owner_kind one.owner place owner)
      ∙ capped_over (added_grams one.owner_kind one.owner with_it)

  -- where it is: its own number, and its first byte
  abbrev here : Spot
  here = record { byte = at.byte; place = l + 1 }

  -- so it is tested after lines that all passed, whatever lines follow
  next :
      Tested file start counts None so_far.done l → (later : List Line) →
      ten_of (starts file start counts) (with_it ++ later)
      ≡ cond (ltb most_grams total) (refuses (notice (number_of TooManyGrams) (l + 1) at.byte))
      (tested_by refuses (line_tests (starts file start counts) (with_it ++ later) (l + 1) (drop (l + 1) (with_it ++ later))) accepts)
  next passed later =
      rw (append_snoc so_far.done one later, compared, add-one l, so_far.stands)
      (next_tested (starts file start counts) so_far.done one later l so_far.read_so_far.counted (passed (one ∷ later)))

  -- one more is added, and the next number is its own
  pub one_added :
      (own : ℕ) → own ≡ l + 1 → (totals : Totals) → totals ≡ with_line → (added : ℕ) → added ≡ get_or totals.added place 0 → (over' : Option Spot) →
      over' ≡ first_over over added (record { byte = at.byte; place = own }) → AddingUp file start counts totals over' behind own
  one_added own numbered totals with_one added its over' told = rw (numbered, told, its, with_one, numbered) (record {
    done = with_it;
    read_so_far = one_passed so_far.read_so_far more one behind came;
    stands = next_line_starts file counts at behind l one so_far.stands came ∙ ap (λ (n : ℕ). line_start file counts n) (sym (add-one l));
    sums = sums_with;
    tested = by_over over so_far.tested (ltb most_grams total) refl;
  })
    where
      by_over :
          (over' : Option Spot) → Tested file start counts over' so_far.done l → (passes : Bool) → ltb most_grams total ≡ passes →
          Tested file start counts (first_over over' total here) with_it (l + 1)
      by_over None passed false few = rw few (λ later. rw few at (next passed later))
      by_over None passed true many = rw many (λ later. rw many at (next passed later))
      by_over (Some first) refused passes h = λ later. rw (append_snoc so_far.done one later) (refused (one ∷ later))
