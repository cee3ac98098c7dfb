-- What is printed for a meter's sheet (rule 12.10).
use Rattle.std.specs.Prelude.{ℕ, ◌+◌, ◌*◌, List, [], ◌∷◌, ◌++◌}
use Rattle.meter.specs.declared.figures.Figures.{Figures}
use Rattle.meter.specs.Days.{SheetAnswer, figures, refusal, meter_days}
use Rattle.output.specs.Decimal.{decimal}
use Rattle.output.specs.Lines.{most_spaced, text_line, refusal_text}

-- The line of the five figures: the sum, and behind it those of days, in the order of rules 12.2 to 12.6.
abbrev pub figures_text : Figures → List ℕ
figures_text found =
    decimal found.sum
    ++ text_line [] (found.repeated ∷ found.repeated_zero ∷ found.longest ∷ found.first ∷ [])

-- By the answer to a sheet: the figures, or the line of a refused sheet.
abbrev pub answer_text : SheetAnswer → List ℕ
answer_text (figures found) = figures_text found
answer_text (refusal notice) = refusal_text notice

-- The text that is printed for a sheet (rule 12.10).
unfoldable pub printed_days : List ℕ → List ℕ
printed_days sheet = answer_text (meter_days sheet)

-- How many figures the line has.
abbrev pub figures_on_the_line : ℕ
figures_on_the_line = 5

-- The most bytes that are printed: these figures and the end of their line.
abbrev pub most_days_text : ℕ
most_days_text = most_spaced * figures_on_the_line + 1
