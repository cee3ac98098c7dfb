-- No two outcomes meet a promise of this crate.
use Prim.Native.Nat.{ℕ}
use mathlib.Core.Path.{◌≡◌, sym, ap, ◌∙◌}
use mathlib.Core.List.{List}
use denote.Ref.{Bor}
use Rattle.number.specs.declared.Report.{Report}
use Rattle.std.specs.Prelude.{Option}
use Rattle.records.specs.declared.counts.Counts.{Counts}
use Rattle.number.proofs.Outcome.{finds_once, one_reading}
use Rattle.inspector.specs.declared.Inspector.{Inspector}
use Rattle.inspector.specs.declared.step.Step.{Step}
use Rattle.inspector.specs.declared.field.Field.{Field}
use Rattle.inspector.specs.Reader.{Stepped, stepped_by, InspectorNewPromise, InspectorAtPromise, StepPromise, StepAtPromise}
use Rattle.inspector.specs.FieldsAt.{FieldAtPromise}

-- `Inspector::new`, `Inspector::at` and `field_at`: their promises give the result itself
pub one_start : (file : Bor (List ℕ)) (r s : Inspector) → InspectorNewPromise file r → InspectorNewPromise file s → r ≡ s
one_start file r s p q = p ∙ sym q

pub one_place : (reader : Inspector) (r s : ℕ) → InspectorAtPromise reader r → InspectorAtPromise reader s → r ≡ s
one_place reader r s p q = p ∙ sym q

pub one_field : (header : Option Counts) (place : ℕ) (r s : Field) → FieldAtPromise header place r → FieldAtPromise header place s → r ≡ s
one_field header place r s p q = p ∙ sym q

-- `Inspector::step`: one report, and one reader afterwards
pub one_step :
    (reader : Inspector) (r s : Report) (reader₁ reader₂ : Inspector) →
    StepPromise reader r reader₁ → StepPromise reader s reader₂ → (r ≡ s) × (reader₁ ≡ reader₂)
one_step reader r s reader₁ reader₂ p q = (one_reading reader.file.now reader.at r s p.reported q.reported, p.moved ∙ sym q.moved)

-- `step_at`: what a step finds, and its byte, determine the step
stepped_once : (r s : Step) → stepped_by r ≡ stepped_by s → r ≡ s
stepped_once r s e =
    let number = finds_once r.report.number s.report.number (ap (λ (x : Stepped). x.found) e) in
    let offset = ap (λ (x : Stepped). x.offset) e in
    let at = ap (λ (x : Stepped). x.at) e in
    λ i. record { report = record { number = number i; offset = offset i }; at = at i }

pub one_step_at : (file : List ℕ) (at : ℕ) (r s : Step) → StepAtPromise file at r → StepAtPromise file at s → r ≡ s
one_step_at file at r s p q = stepped_once r s (p ∙ sym q)
