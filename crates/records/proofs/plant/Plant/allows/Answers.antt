-- `records::plant::Plant::allows` meets its contract: each arm tests what the field at its index is tested for. Assumes nothing.
use Prim.Native.Nat.{ℕ}
use mathlib.Core.Path.{sym, ap, ◌∙◌}
use native.Mathlib.Omega.{arith}
use Rattle.records.proofs.RecordFields.{plant_test, plant_tested, plant_any}
use Rattle.records.proofs.plant.Plant.allows.Goals as goal

pub returns-in-1 : goal.returns-in-1
returns-in-1 c before sized =
    let a = c.args in
    c.first_allowed.ensures
    ∙ sym (plant_tested a.counts before a.value ∙ ap (λ (n : ℕ). plant_test a.counts n a.value) (sized ∙ c.in-1.is))

pub returns-in-2 : goal.returns-in-2
returns-in-2 c before sized =
    let a = c.args in
    c.fraction_allowed.ensures
    ∙ sym (plant_tested a.counts before a.value ∙ ap (λ (n : ℕ). plant_test a.counts n a.value) (sized ∙ c.in-2.is))

pub returns-in_default : goal.returns-in_default
returns-in_default c before sized =
    let a = c.args in
    sym
    (plant_tested a.counts before a.value
    ∙ ap (λ (n : ℕ). plant_test a.counts n a.value) sized
    ∙ plant_any a.counts a.field a.value (omega arith) (omega arith))
