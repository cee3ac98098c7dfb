-- The promise of the call from C for a meter's sheet.
use Rattle.std.specs.Prelude.{ℕ, ◌≡◌, List}
use Rattle.fields.specs.Answers.{refusal_number, refusal_place, refusal_offset}
use Rattle.meter.specs.declared.figures.Figures.{Figures}
use Rattle.meter.specs.Days.{SheetAnswer, figures, refusal, sheet_verdict, meter_days}

-- The caller's figures afterwards: those of an accepted sheet; a refusal leaves what was there (rule 12.9).
abbrev pub figures_after : SheetAnswer → Figures → Figures
figures_after (figures found) before = found
figures_after (refusal notice) before = before

-- What a call leaves to its caller (rules 10.8 and 12.9).
pub record DaysOutcome : Type 0 where
  pub result : ℕ
  pub place : ℕ
  pub offset : ℕ
  pub figures : Figures

-- The five numbers that a caller lends, as figures, and below what it is left with, both in the order of the call.
abbrev pub five : (sum repeated zeros longest first : ℕ) → Figures
five sum repeated zeros longest first = record { sum = sum; repeated = repeated; repeated_zero = zeros; longest = longest; first = first }

abbrev pub leaves : (result place offset : ℕ) → Figures → DaysOutcome
leaves result place offset found = record { result = result; place = place; offset = offset; figures = found }

-- The promise of `steeplecuff_days`: number of refusal, place and offset, all 0 if the sheet is accepted, and the figures (rules 10.8 and 12.9).
pub record DaysEntryPromise (sheet : List ℕ) (before : Figures) (outcome : DaysOutcome) : Type 0 where
  pub result : outcome.result ≡ refusal_number (sheet_verdict (meter_days sheet))
  pub place : outcome.place ≡ refusal_place (sheet_verdict (meter_days sheet))
  pub offset : outcome.offset ≡ refusal_offset (sheet_verdict (meter_days sheet))
  pub figures_after_is : outcome.figures ≡ figures_after (meter_days sheet) before
