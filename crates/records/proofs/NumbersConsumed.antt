-- The numbers that the reading of a period consumes are the period's: its header's, and those of its records in the order of the file.
use Prim.Native.Nat.{ℕ}
use mathlib.Core.Path.{◌≡◌, refl, sym, ap, ◌∙◌}
use mathlib.Core.Bool.{true≢false}
use mathlib.Core.List.{List, [], ◌∷◌, ◌++◌, append-nil}
use borrow.Author.Tests.{eqb-true}
use Rattle.std.proofs.Common.{Some}
use Rattle.fields.specs.Readers.{each, Read, read, refused, reads, consumes}
use Rattle.fields.specs.Lists.{in_turn}
use Rattle.fields.proofs.FieldByField.{goes_over}
use Rattle.fields.proofs.EndOfFile.{after_read, after_refused}
use Rattle.fields.proofs.Along.{Came, came, comes_to}
use Rattle.fields.proofs.Consumed.{Gives, consumed_has, gives_on, gives_then, Consumes, consumes_each}
use Rattle.records.specs.declared.counts.Counts.{Counts}
use Rattle.records.specs.Headers.{edition, header, telling, header_of}
use Rattle.records.specs.Periods.{Period, plant, segment, line, records, period}
use Rattle.records.specs.Within.{counts_of}
use Rattle.records.specs.Numbers.{plant_numbers_of, segment_numbers_of, line_numbers_of, period_numbers, consumed}
use Rattle.records.proofs.PeriodAlong.{HeaderField, Placed, HeaderRead, header_along}

-- ---- those of a plant, a segment and a line
plant_takes : (counts : Counts) → Consumes plant_numbers_of (plant counts)
unfolding Gives plant
plant_takes counts = λ exported _ _ first _ _ fraction _ _. refl

segment_takes : (counts : Counts) (own : ℕ) → Consumes segment_numbers_of (segment counts own)
unfolding Gives segment
segment_takes counts own = λ kind _ _ outflow _ _ next _ _. refl

line_takes : (counts : Counts) → Consumes line_numbers_of (line counts)
unfolding Gives line
line_takes counts = λ owner_kind _ _ owner _ _ class _ _ quantity _ _ factor _ _. refl

-- of the header: the edition, and how many records it announces
header_takes : Consumes (λ h. edition ∷ h.plants ∷ h.segments ∷ h.lines ∷ []) header
unfolding Gives header
header_takes = λ first _ is plants _ _ segments _ _ lines _ _. rw (← eqb-true edition first is)

-- of all records: those of the plants, of the segments and of the lines, each as many as the header announces
record Announced (h : Counts) (all : List ℕ) (what : Period) : Type 0 where
  numbers : all ≡ in_turn plant_numbers_of what.plants ++ (in_turn segment_numbers_of what.segments ++ in_turn line_numbers_of what.lines)
  counted : counts_of what ≡ h

records_take : (h : Counts) → Gives (Announced h) (records h)
unfolding Gives records
records_take h =
    gives_then _ _ (each (λ own. plant h) 1 h.plants) _ (consumes_each plant_numbers_of _ (λ own. plant_takes h) 1 h.plants) (λ ps plants p.
    gives_then _ _ (each (segment h) 1 h.segments) _ (consumes_each segment_numbers_of _ (segment_takes h) 1 h.segments) (λ ss segments s.
    gives_then _ _ (each (λ own. line h) 1 h.lines) _ (consumes_each line_numbers_of _ (λ own. line_takes h) 1 h.lines) (λ ls lines l.
    record { numbers = rw (p.0, s.0, l.0) (simp append-nil); counted = rw (p.1, s.1, l.1) refl })))

-- of the whole period
period_takes : Consumes period_numbers period
unfolding period period_numbers
period_takes =
    gives_then _ _ header records header_takes (λ front h is.
    gives_on _ _ (records h) (λ all what are. rw (is, are.numbers, ← are.counted) refl) (records_take h))

-- so if reading gives a period, the numbers that it took are the period's
pub numbers_consumed :
    {what : Period} {place at : ℕ} (file : List ℕ) → reads period file 0 0 ≡ read what place at → consumed file ≡ period_numbers what
unfolding consumed
numbers_consumed file e =
    let all : consumed file ≡ consumes period file 0 = refl in
    all ∙ consumed_has _ period_takes (rw e at (goes_over file period 0 0))

-- and the header of a file that was read tells how many records its period has
pub header_told :
    {what : Period} {place at : ℕ} (file : List ℕ) → reads period file 0 0 ≡ read what place at → header_of file ≡ Some (counts_of what)
unfolding header_of period
header_told {what} file whole = by_header (reads header file 0 0) refl (comes_to (header_along file))
  where
    by_header :
        (outcome : Read Counts) → reads header file 0 0 ≡ outcome → Came file (Placed HeaderField) HeaderRead outcome →
        telling outcome ≡ Some (counts_of what)
    by_header (read h end at) e (came its) =
        let on = sym (after_read header records file 0 0 h end at e) ∙ whole in
        let are = consumed_has (Announced h) (records_take h) (rw on at (goes_over file (records h) end at)) in
        ap Some (sym are.counted)
    by_header (refused notice) e its =
        absurd (true≢false (cc (after_refused header records file 0 0 notice e, whole)))
