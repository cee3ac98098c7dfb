-- What reading and adding the lines gives in the end: a refusal of one of them, of the file's end or of 10; or the owners' totals.
use Prim.Native.Nat.{ℕ, ◌≤◌, ◌<◌}
use mathlib.Core.Path.{◌≡◌, refl, sym, ap, ◌∙◌}
use mathlib.Core.List.{List, [], ◌++◌, append-nil}
use native.Mathlib.Omega.{arith}
use lib.ListN.{length, drop_of_length-le}
use Rattle.std.proofs.Common.{Option, Some, None}
use Rattle.fields.specs.declared.answer.Refusal.{Refusal}
use Rattle.fields.specs.declared.reason.Reason.TheVariants.{TooManyGrams}
use Rattle.fields.specs.declared.spot.Spot.{Spot}
use Rattle.fields.specs.Answers.{Verdict, accepts, refusing}
use Rattle.fields.specs.Spots.{refusal_at, end_at}
use Rattle.fields.specs.Reaching.{whole, reads_from, stopped_by}
use Rattle.fields.specs.Tests.{tested_by}
use Rattle.fields.proofs.Stages.{one_refused, none_left}
use Rattle.records.specs.declared.counts.Counts.{Counts}
use Rattle.records.specs.declared.line.Line.{Line}
use Rattle.records.specs.Periods.{line, lines_of}
use Rattle.accounts.specs.Order.{line_tests}
use Rattle.gathering.specs.declared.totals.Totals.{Totals}
use Rattle.gathering.specs.Inside.{and_then, ten_ruling, AllAdded}
use Rattle.gathering.proofs.LinesAdded.{ten_of, AddingUp, starts}

module _
    {file : List ℕ} {start : Spot} {counts : Counts} {totals : Totals} {over : Option Spot} {at : Spot} {l : ℕ}
    (so_far : AddingUp file start counts totals over at l) where
  abbrev ruling : Verdict
  ruling = ten_ruling file counts (reads_from (lines_of counts) file start)

  -- a line is refused
  pub line_out : l < counts.lines → (why : Refusal) → reads_from (line counts) file at ≡ stopped_by why → refusing why ≡ ruling
  line_out more why e = sym (ap (ten_ruling file counts) (one_refused so_far.read_so_far more why e))

  -- ---- no line is left
  module _ (all : counts.lines ≤ l) where
    abbrev done : List Line
    done = so_far.done

    abbrev ten : Verdict
    ten = ten_of (starts file start counts) done

    all_came : reads_from (lines_of counts) file start ≡ whole done at
    all_came = none_left so_far.read_so_far all

    -- the end of the file comes first, then 10
    ruled : (v : Verdict) → v ≡ end_at file at → ruling ≡ and_then v ten
    ruled v told = ap (ten_ruling file counts) all_came ∙ ap (λ (v : Verdict). and_then v ten) (sym told)

    -- nothing follows the lines that are read
    done_all : done ++ [] ≡ done
    done_all = append-nil done

    -- bytes follow
    pub end_out : (why : Refusal) → refusing why ≡ end_at file at → refusing why ≡ ruling
    end_out why told = sym (ruled (refusing why) told)

    module _ (ended : accepts ≡ end_at file at) where
      -- a line passed the limit
      pub limit_out : (first : Spot) → over ≡ Some first → refusing (refusal_at first TooManyGrams) ≡ ruling
      limit_out first is = sym (ruled accepts ended ∙ ap (ten_of (starts file start counts)) (sym done_all) ∙ rw is at so_far.tested [])

      -- none did: the totals are those of all lines
      pub lines_added : over ≡ None → AllAdded file start counts totals
      unfolding tested_by line_tests
      lines_added is = record {
        lines = done;
        last = at;
        came = all_came;
        passed = ap (λ (v : Verdict). and_then v ten) (sym ended) ∙ rw done_all at (rw is at so_far.tested []) ∙ rw (drop_of_length-le done counted_le) refl;
        sums = so_far.sums;
      }
        where
          counted_le : length done ≤ l
          counted_le = omega (arith, so_far.read_so_far.counted)
