-- What a C caller finds in its five figures: the result says exactly whether and why its sheet is refused; a refusal leaves the figures alone; and
-- if the sheet is accepted they are its figures, so that each theorem on accepted sheets holds of them (rule 12.9).
use Prim.Native.Nat.{ℕ, ◌<◌}
use mathlib.Core.Path.{◌≡◌, refl, sym, ap, ap₂, ◌∙◌}
use mathlib.Core.Logic.{◌↔◌}
use mathlib.Core.List.{List}
use native.Mathlib.Omega.{arith}
use Rattle.fields.specs.Answers.{Notice, notice, refusal_number, refusal_place, refusal_offset}
use Rattle.fields.specs.Tests.{FirstFails, NoneFails}
use Rattle.meter.specs.declared.figures.Figures.{Figures}
use Rattle.meter.specs.Days.{SheetAnswer, figures, refusal, sheet_verdict, meter_days}
use Rattle.meter.specs.SheetTests.{sheet_tests}
use Rattle.meter.proofs.Order.{refused_exactly, refusal_numbered, counted_is, counted_exactly}
use Rattle.historian.specs.Sheets.{figures_after, DaysOutcome, DaysEntryPromise}

-- a refusal by its number, which is not 0, its place and its offset
refusal_told :
    (answer : SheetAnswer) (told : Notice) → 0 < told.number → refusal_number (sheet_verdict answer) ≡ told.number →
    refusal_place (sheet_verdict answer) ≡ told.place → refusal_offset (sheet_verdict answer) ≡ told.offset → answer ≡ refusal told
refusal_told (figures found) told some is at byte = absurd (omega arith)
refusal_told (refusal other) told some is at byte =
    ap (λ (n : ℕ). refusal (notice n other.place other.offset)) is
    ∙ ap₂ (λ (p o : ℕ). refusal (notice told.number p o)) at byte

module _ (sheet : List ℕ) (before : Figures) (outcome : DaysOutcome) (promised : DaysEntryPromise sheet before outcome) where
  -- a result other than 0, with a place and an offset: that is the first test that fails
  pub sheet_refused_exactly :
      (told : Notice) → 0 < told.number →
      ((outcome.result ≡ told.number) × (outcome.place ≡ told.place) × (outcome.offset ≡ told.offset)) ↔ FirstFails (sheet_tests sheet) told
  sheet_refused_exactly told some =
      let exactly = refused_exactly sheet told in (
        λ (result, place, offset).
            exactly.0
            (refusal_told (meter_days sheet) told some (sym promised.result ∙ result) (sym promised.place ∙ place) (sym promised.offset ∙ offset)),
        λ first. (
          promised.result ∙ ap (λ (a : SheetAnswer). refusal_number (sheet_verdict a)) (exactly.1 first),
          promised.place ∙ ap (λ (a : SheetAnswer). refusal_place (sheet_verdict a)) (exactly.1 first),
          promised.offset ∙ ap (λ (a : SheetAnswer). refusal_offset (sheet_verdict a)) (exactly.1 first),
        ),
      )

  -- a refusal leaves the five figures as they were
  pub figures_untouched : (outcome.result ≡ 0 → ⊥) → outcome.figures ≡ before
  figures_untouched refused = promised.figures_after_is ∙ by_answer (meter_days sheet) (λ none. refused (promised.result ∙ none))
    where
      by_answer : (a : SheetAnswer) → (refusal_number (sheet_verdict a) ≡ 0 → ⊥) → figures_after a before ≡ before
      by_answer (refusal notice) some = refl
      by_answer (figures found) some = absurd (some refl)

  -- the result is 0 only if the sheet is accepted, and then the five are its figures
  pub sheet_figures_told : outcome.result ≡ 0 → meter_days sheet ≡ figures outcome.figures
  sheet_figures_told none = by_answer (meter_days sheet) refl (sym promised.result ∙ none) promised.figures_after_is
    where
      by_answer :
          (a : SheetAnswer) → meter_days sheet ≡ a → refusal_number (sheet_verdict a) ≡ 0 → outcome.figures ≡ figures_after a before →
          a ≡ figures outcome.figures
      by_answer (refusal notice) is zero_number left = absurd (omega (arith, refusal_numbered sheet notice is))
      by_answer (figures found) is zero_number left = ap figures (sym left)

  -- which is so exactly if no test fails
  pub sheet_accepted_exactly : (outcome.result ≡ 0) ↔ NoneFails (sheet_tests sheet)
  sheet_accepted_exactly = (
    λ none. counted_is sheet outcome.figures (sheet_figures_told none),
    λ none. promised.result ∙ ap (λ (a : SheetAnswer). refusal_number (sheet_verdict a)) ((counted_exactly sheet).1 none),
  )
