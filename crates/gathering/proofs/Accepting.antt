-- A file that is accepted: its period is within the limits of reading, and no owner emits more than the largest number.
use Prim.Native.Nat.{ℕ, ◌-◌, ◌≤◌}
use mathlib.Core.Path.{◌≡◌, refl, sym, ap, ◌∙◌}
use mathlib.Core.List.{List}
use native.Mathlib.Omega.{arith}
use Rattle.number.specs.Groups.{largest}
use Rattle.fields.specs.Answers.{Verdict, accepts, refuses}
use Rattle.fields.specs.Readers.{Read, read, refused}
use Rattle.fields.specs.Tests.{Test, tested_by, NoneFails}
use Rattle.fields.proofs.Answers.{refuses_not_accepts}
use Rattle.fields.proofs.Testing.{none_answers, none_fails, tests_as, none_of_both}
use Rattle.records.specs.Classes.{grams_in_kg}
use Rattle.records.specs.Periods.{Period, period_file}
use Rattle.records.specs.Places.{line_start}
use Rattle.records.specs.Within.{Within, counts_of}
use Rattle.records.proofs.Within.{read_within}
use Rattle.accounts.specs.Emissions.{of_classes, is_added, added_grams, captured_grams, emission}
use Rattle.accounts.specs.Order.{line_tests, emission_tests}
use Rattle.accounts.proofs.Accepting.{grams_each}
use Rattle.accounts.proofs.Credits.{up_most}
use Rattle.accounts.proofs.OwnersLines.{no_grams}
use Rattle.gathering.specs.Gathered.{gathering_tests, Contents, nothing_gathered, gathered_of, gathered_after, gathering}

-- ---- the verdict of tests decides: a refusal, or else what is gathered
abbrev pub decided : Verdict → Contents → Contents
decided (refuses notice) gathered = nothing_gathered notice
decided accepts gathered = gathered

pub tests_decide : (tests : List Test) (gathered : Contents) → tested_by nothing_gathered tests gathered ≡ decided (tested_by refuses tests accepts) gathered
tests_decide tests gathered = tests_as refuses nothing_gathered (λ (v : Verdict). decided v gathered) (λ notice. refl) tests accepts

-- ---- what holds of a file that is accepted
pub record Bounded (gathered : Contents) : Type 0 where
  pub within : Within gathered.period
  pub most : (owner_kind owner : ℕ) → emission owner_kind owner gathered.period.lines ≤ largest

-- if no test fails, no owner's total passes the limit, and so it is no more kg than a number may be
emission_most :
    (file : List ℕ) (period : Period) → NoneFails (gathering_tests file period) → (owner_kind owner : ℕ) → emission owner_kind owner period.lines ≤ largest
unfolding emission emission_tests
emission_most file period none owner_kind owner =
    let its = of_classes is_added owner_kind owner in
    let (of_lines, of_captured) = none_of_both (line_tests (line_start file (counts_of period)) period.lines 0 period.lines) _ none in
    let few =
    grams_each (line_start file (counts_of period)) owner_kind owner period.lines 0 period.lines refl of_lines (omega (arith, no_grams its)) in
    up_most grams_in_kg (added_grams owner_kind owner period.lines - captured_grams owner_kind owner period.lines) largest (omega (arith, few))

-- a file that is accepted is read, and none of its tests fails
pub accepted_bounded : (file : List ℕ) → (gathering file).verdict ≡ accepts → Bounded (gathering file)
unfolding gathering
accepted_bounded file accepting = by_outcome (period_file file) refl accepting
  where
    by_outcome : (outcome : Read Period) → period_file file ≡ outcome → (gathered_after file outcome).verdict ≡ accepts → Bounded (gathered_after file outcome)
    by_outcome (refused notice) is told = absurd (refuses_not_accepts told)
    by_outcome (read period place at) is told =
        let tests = gathering_tests file period in
        by_verdict (tested_by refuses tests accepts) refl (sym (ap (λ (g : Contents). g.verdict) (tests_decide tests (gathered_of file period))) ∙ told)
      where
        by_verdict :
            (v : Verdict) → tested_by refuses (gathering_tests file period) accepts ≡ v → (decided v (gathered_of file period)).verdict ≡ accepts →
            Bounded (tested_by nothing_gathered (gathering_tests file period) (gathered_of file period))
        by_verdict (refuses notice) ruled same = absurd (refuses_not_accepts same)
        by_verdict accepts ruled same =
            let none = none_fails refuses (gathering_tests file period) accepts accepts (λ notice e. refuses_not_accepts e) ruled in
            rw (none_answers nothing_gathered (gathered_of file period) none)
            (record { within = read_within file period place at is; most = emission_most file period none })
