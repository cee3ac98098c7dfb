-- No two outcomes meet a promise of the calls from C.
use Prim.Native.Nat.{ℕ}
use mathlib.Core.Path.{◌≡◌, sym, ap, ◌∙◌}
use mathlib.Core.List.{List}
use Rattle.meter.specs.declared.figures.Figures.{Figures}
use Rattle.historian.specs.Tables.{Outcome, EntryPromise}
use Rattle.historian.specs.Lists.{WriteOutcome, WriteEntryPromise}
use Rattle.historian.specs.Sheets.{DaysOutcome, leaves, DaysEntryPromise}

-- an outcome by its parts
abbrev made : (result place offset : ℕ) (plants segments : List ℕ) → Outcome
made result place offset plants segments = record { result = result; place = place; offset = offset; plants = plants; segments = segments }

-- `steeplecuff_quantify`: two outcomes that meet its promise, of one file and the same tables, are the same
pub one_outcome : (file plants segments : List ℕ) (a b : Outcome) → EntryPromise file plants segments a → EntryPromise file plants segments b → a ≡ b
one_outcome file plants segments a b p q =
    ap (λ (x : ℕ). made x a.place a.offset a.plants a.segments) (p.result ∙ sym q.result)
    ∙ ap (λ (x : ℕ). made b.result x a.offset a.plants a.segments) (p.place ∙ sym q.place)
    ∙ ap (λ (x : ℕ). made b.result b.place x a.plants a.segments) (p.offset ∙ sym q.offset)
    ∙ ap (λ (x : List ℕ). made b.result b.place b.offset x a.segments) (p.plants_after ∙ sym q.plants_after)
    ∙ ap (made b.result b.place b.offset b.plants) (p.segments_after ∙ sym q.segments_after)

-- `steeplecuff_days`: so are two of one sheet and the same figures before
pub one_days_outcome :
    (sheet : List ℕ) (before : Figures) (a b : DaysOutcome) → DaysEntryPromise sheet before a → DaysEntryPromise sheet before b → a ≡ b
one_days_outcome sheet before a b p q =
    ap (λ (x : ℕ). leaves x a.place a.offset a.figures) (p.result ∙ sym q.result)
    ∙ ap (λ (x : ℕ). leaves b.result x a.offset a.figures) (p.place ∙ sym q.place)
    ∙ ap (λ (x : ℕ). leaves b.result b.place x a.figures) (p.offset ∙ sym q.offset)
    ∙ ap (leaves b.result b.place b.offset) (p.figures_after_is ∙ sym q.figures_after_is)

-- `steeplecuff_write`: so are two of one list and the same buffer
abbrev wrote : (result written place : ℕ) (buffer : List ℕ) → WriteOutcome
wrote result written place buffer = record { result = result; written = written; place = place; buffer = buffer }

pub one_write_outcome : (numbers buffer : List ℕ) (a b : WriteOutcome) → WriteEntryPromise numbers buffer a → WriteEntryPromise numbers buffer b → a ≡ b
one_write_outcome numbers buffer a b p q =
    ap (λ (x : ℕ). wrote x a.written a.place a.buffer) (p.result ∙ sym q.result)
    ∙ ap (λ (x : ℕ). wrote b.result x a.place a.buffer) (p.written ∙ sym q.written)
    ∙ ap (λ (x : ℕ). wrote b.result b.written x a.buffer) (p.place ∙ sym q.place)
    ∙ ap (wrote b.result b.written b.place) (p.buffer_after_is ∙ sym q.buffer_after_is)
