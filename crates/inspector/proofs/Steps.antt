-- What a caller of `step_at` uses: a step that finds a number moves on.
use Prim.Native.Nat.{ℕ}
use mathlib.Core.Path.{◌≡◌, sym, ap, ◌∙◌}
use mathlib.Core.List.{List}
use Rattle.std.specs.Prelude.{Ok}
use Rattle.number.specs.declared.Number.{Number}
use Rattle.number.specs.Reading.{read_at, number}
use Rattle.number.specs.Finding.{finds}
use Rattle.number.specs.Counting.{end_of}
use Rattle.number.proofs.Laws.{Bounds, bounds}
use Rattle.inspector.specs.declared.step.Step.{Step}
use Rattle.inspector.specs.Reader.{Stepped, step_at, stepped_by}

-- past the byte where it stood, by one byte to five, and no further than the file goes
pub moves_on :
    (file : List ℕ) (at : ℕ) (found : Number) (step : Step) → stepped_by step ≡ step_at file at → step.report.number ≡ Ok found →
    Bounds file at found.value step.at
moves_on file at found step e is =
    let here : read_at file at ≡ number found.value found.next = sym (ap (λ (s : Stepped). s.found) e) ∙ ap finds is in
    let stands : step.at ≡ found.next = ap (λ (s : Stepped). s.at) e ∙ ap (end_of at) here in
    rw stands (bounds file at found.value found.next here)
