-- `records::header::Header::allows` meets its contract: each arm tests what the field at its index is tested for. Assumes nothing.
use Prim.Native.Nat.{ℕ}
use mathlib.Core.Path.{sym, ap, ◌∙◌}
use native.Mathlib.Omega.{arith}
use Rattle.records.proofs.FieldRanges.{eqb_sym}
use Rattle.records.proofs.HeaderFields.{header_test, header_tested, header_any}
use Rattle.records.proofs.header.Header.allows.Goals as goal

pub returns-in-0 : goal.returns-in-0
returns-in-0 c before sized =
    let v = c.args.value in
    eqb_sym v 1 ∙ sym (header_tested before v ∙ ap (λ (n : ℕ). header_test n v) (sized ∙ c.in-0.is))

pub returns-in-1 : goal.returns-in-1
returns-in-1 c before sized =
    let v = c.args.value in
    c.count_allowed.ensures ∙ sym (header_tested before v ∙ ap (λ (n : ℕ). header_test n v) (sized ∙ c.in-1.is))

pub returns-in-2 : goal.returns-in-2
returns-in-2 c before sized =
    let v = c.args.value in
    c.count_allowed-in-2.ensures ∙ sym (header_tested before v ∙ ap (λ (n : ℕ). header_test n v) (sized ∙ c.in-2.is))

pub returns-in-3 : goal.returns-in-3
returns-in-3 c before sized =
    let v = c.args.value in
    c.count_allowed-in-3.ensures ∙ sym (header_tested before v ∙ ap (λ (n : ℕ). header_test n v) (sized ∙ c.in-3.is))

pub returns-in_default : goal.returns-in_default
returns-in_default c before sized =
    let v = c.args.value in
    sym (header_tested before v ∙ ap (λ (n : ℕ). header_test n v) sized ∙ header_any c.args.field v (omega arith) (omega arith) (omega arith) (omega arith))
