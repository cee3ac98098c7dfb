-- `records::line::Line::allows` meets its contract: each arm tests what the field at its index is tested for. Assumes nothing.
use Prim.Native.Nat.{ℕ, ◌≤◌}
use mathlib.Core.Path.{◌≡◌, sym, ap, ◌∙◌}
use native.Mathlib.Omega.{arith}
use mathlib.Core.List.{List}
use lib.ListN.{length, take, get_or, length-take}
use lib.Seq.{get_or-take, length-take-le}
use Rattle.fields.specs.Readers.{allows_next, onward}
use Rattle.records.specs.declared.counts.Counts.{Counts}
use Rattle.records.specs.Classes.{factor_allowed}
use Rattle.records.specs.Lines.{line_fields}
use Rattle.records.specs.Periods.{line}
use Rattle.records.proofs.RecordFields.{line_test, line_tested, line_any}
use Rattle.records.proofs.line.Line.allows.Goals as goal

-- the test at an index of the record, by the numbers before it
tested :
    (counts : Counts) (field value : ℕ) (numbers : List ℕ) (index : ℕ) → length numbers ≡ line_fields → field ≡ index → index ≤ line_fields →
    allows_next (onward (line counts) (take field numbers)) value
    ≡ line_test counts (get_or (take field numbers) 0 0) (get_or (take field numbers) 2 0) index value
tested counts field value numbers index sized is few =
    let before = take field numbers in
    line_tested counts before value
    ∙ ap (λ (n : ℕ). line_test counts (get_or before 0 0) (get_or before 2 0) n value) (length-take-le field numbers (omega (arith, is, sized)) ∙ is)

pub returns-in-0 : goal.returns-in-0
returns-in-0 c =
    let a = c.args in
    c.owner_kind_allowed.ensures ∙ sym (tested a.counts a.field a.value a.earlier 0 (omega (arith, c.well_formed)) c.in-0.is (omega arith))

pub returns-in-1 : goal.returns-in-1
returns-in-1 c =
    let a = c.args in
    let class = get_or (take a.field a.earlier) 2 0 in
    c.owner_allowed.ensures
    ∙ sym
    (tested a.counts a.field a.value a.earlier 1 (omega (arith, c.well_formed)) c.in-1.is (omega arith)
    ∙ ap (λ (k : ℕ). line_test a.counts k class 1 a.value) (get_or-take a.field a.earlier 0 0 (omega (arith, c.in-1.is))))

pub returns-in-2 : goal.returns-in-2
returns-in-2 c =
    let a = c.args in
    let class = get_or (take a.field a.earlier) 2 0 in
    c.allowed.ensures
    ∙ sym
    (tested a.counts a.field a.value a.earlier 2 (omega (arith, c.well_formed)) c.in-2.is (omega arith)
    ∙ ap (λ (k : ℕ). line_test a.counts k class 2 a.value) (get_or-take a.field a.earlier 0 0 (omega (arith, c.in-2.is))))

pub returns-in-4 : goal.returns-in-4
returns-in-4 c =
    let a = c.args in
    let kind = get_or (take a.field a.earlier) 0 0 in
    let asked : c.factor_allowed.result ≡ factor_allowed (get_or a.earlier 2 0) a.value = c.factor_allowed.ensures in
    asked
    ∙ sym
    (tested a.counts a.field a.value a.earlier 4 (omega (arith, c.well_formed)) c.in-4.is (omega arith)
    ∙ ap (λ (k : ℕ). line_test a.counts kind k 4 a.value) (get_or-take a.field a.earlier 2 0 (omega (arith, c.in-4.is))))

pub returns-in_default : goal.returns-in_default
returns-in_default c =
    let a = c.args in
    let before = take a.field a.earlier in
    let size = length-take a.field a.earlier in
    sym
    (line_tested a.counts before a.value
    ∙ line_any a.counts (get_or before 0 0) (get_or before 2 0) (length before) a.value
    (λ e. omega (arith, size, e, c.well_formed))
    (λ e. omega (arith, size, e, c.well_formed))
    (λ e. omega (arith, size, e, c.well_formed))
    (λ e. omega (arith, size, e, c.well_formed)))
