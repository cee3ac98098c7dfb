-- `records::segment::Segment::allows` meets its contract: each arm tests what the field at its index is tested for. Assumes nothing.
use Prim.Native.Nat.{ℕ}
use mathlib.Core.Path.{◌≡◌, sym, ap, ◌∙◌}
use native.Mathlib.Omega.{arith}
use lib.ListN.{length, take, get_or, length-take}
use lib.Seq.{get_or-take}
use Rattle.records.proofs.RecordFields.{segment_test, segment_tested, segment_any}
use Rattle.records.proofs.segment.Segment.allows.Goals as goal

pub returns-in-0 : goal.returns-in-0
returns-in-0 c =
    let s = c in
    let a = s.args in
    let before = take a.field a.earlier in
    let sized : length before ≡ 0 = omega (arith, length-take a.field a.earlier, c.in-0.is) in
    c.kind_allowed.ensures
    ∙ sym
    (segment_tested a.counts a.own before a.value
    ∙ ap (λ (n : ℕ). segment_test a.counts a.own (get_or before 0 0) n a.value) sized)

pub returns-in-2 : goal.returns-in-2
returns-in-2 c =
    let s = c in
    let a = s.args in
    let before = take a.field a.earlier in
    let sized : length before ≡ 2 = omega (arith, length-take a.field a.earlier, c.in-2.is, s.well_formed) in
    let kind : get_or before 0 0 ≡ get_or a.earlier 0 0 = get_or-take a.field a.earlier 0 0 (omega (arith, c.in-2.is)) in
    c.next_allowed.ensures
    ∙ sym
    (segment_tested a.counts a.own before a.value
    ∙ ap (λ (n : ℕ). segment_test a.counts a.own (get_or before 0 0) n a.value) sized
    ∙ ap (λ (k : ℕ). segment_test a.counts a.own k 2 a.value) kind)

pub returns-in_default : goal.returns-in_default
returns-in_default c =
    let s = c in
    let a = s.args in
    let before = take a.field a.earlier in
    let size = length-take a.field a.earlier in
    sym
    (segment_tested a.counts a.own before a.value
    ∙ segment_any a.counts a.own (get_or before 0 0) (length before) a.value
    (λ e. omega (arith, size, e, s.well_formed))
    (λ e. omega (arith, size, e, s.well_formed)))
