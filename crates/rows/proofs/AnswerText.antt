-- The text of the answer, by what the call hands back and leaves in its tables.
use Prim.Native.Nat.{ℕ, ◌≤◌}
use mathlib.Core.Path.{◌≡◌, refl, sym, ap, ◌∙◌}
use mathlib.Core.List.{List, ◌++◌}
use native.Mathlib.Omega.{arith}
use lib.ListN.{length, take, drop, length-append}
use lib.Seq.{take_at}
use Rattle.std.specs.Prelude.{Ok, Err}
use Rattle.fields.specs.declared.answer.Refusal.{Refusal}
use Rattle.fields.specs.Answers.{Notice}
use Rattle.accounts.specs.Order.{Ruling, refusal, accepted, plant_row_numbers, segment_row_numbers}
use Rattle.period.specs.declared.call.Quantified.{Quantified}
use Rattle.period.specs.Written.{Lent, ruling_on, plant_entries, segment_entries, overwritten, HandsBack, QuantifyPromise}
use Rattle.output.specs.Words.{ascii}
use Rattle.output.specs.Lines.{refusal_line, refusal_text, table_text}
use Rattle.rows.specs.Printed.{ruling_text}

-- ---- by what is handed back
-- a refusal is told in its line
refusal_told : (ruling : Ruling) (why : Refusal) → HandsBack (Err why) ruling → ruling_text ruling ≡ refusal_line why
refusal_told (refusal notice) why handed = ap (λ (n : Notice). refusal_text n) (sym handed)
refusal_told (accepted plants segments) why handed = absurd handed

-- an acceptance has so many numbers, and is told in the rows of both tables
record Rows (ruling : Ruling) (written : Quantified) : Type 0 where
  plants : written.plant_numbers ≡ length (plant_entries ruling)
  segments : written.segment_numbers ≡ length (segment_entries ruling)
  text :
      ruling_text ruling
      ≡ table_text (ascii "P") plant_row_numbers (plant_entries ruling) ++ table_text (ascii "S") segment_row_numbers (segment_entries ruling)

rows_told : (ruling : Ruling) (written : Quantified) → HandsBack (Ok written) ruling → Rows ruling written
rows_told (refusal notice) written handed = absurd handed
rows_told (accepted plants segments) written handed = record { plants = handed.0; segments = handed.1; text = refl }

-- numbers that are written over the start of a table are there
written_there : (numbers before after : List ℕ) → after ≡ overwritten numbers before → take (length numbers) after ≡ numbers
written_there numbers before after e = ap (λ (table : List ℕ). take (length numbers) table) e ∙ take_at numbers (drop (length numbers) before) (length numbers) refl

written_within : (numbers before after : List ℕ) → after ≡ overwritten numbers before → length numbers ≤ length after
written_within numbers before after e = omega (arith, ap length e ∙ length-append numbers (drop (length numbers) before))

-- ---- the call, lent two tables
-- what it refused for is the line
pub told_refused :
    {file : List ℕ} {tables tables' : Lent} (why : Refusal) → QuantifyPromise file tables (Err why) tables' → ruling_text (ruling_on file tables) ≡ refusal_line why
told_refused {file} {tables} why promised = refusal_told (ruling_on file tables) why promised.hands_back

module _ {file : List ℕ} {tables tables' : Lent} {written : Quantified} (promised : QuantifyPromise file tables (Ok written) tables') where
  -- what the call ruled
  abbrev ruling : Ruling
  ruling = ruling_on file tables

  rows : Rows ruling written
  rows = rows_told ruling written promised.hands_back

  plants_after : tables'.plants ≡ overwritten (plant_entries ruling) tables.plants
  plants_after = ap (λ (t : Lent). t.plants) promised.leaves

  segments_after : tables'.segments ≡ overwritten (segment_entries ruling) tables.segments
  segments_after = ap (λ (t : Lent). t.segments) promised.leaves

  -- the numbers that it says it wrote lie within either table
  pub plants_within : written.plant_numbers ≤ length tables'.plants
  plants_within = omega (arith, rows.plants, written_within (plant_entries ruling) tables.plants tables'.plants plants_after)

  pub segments_within : written.segment_numbers ≤ length tables'.segments
  segments_within = omega (arith, rows.segments, written_within (segment_entries ruling) tables.segments tables'.segments segments_after)

  -- what it wrote are the rows
  pub told_accepted :
      ruling_text ruling
      ≡ table_text (ascii "P") plant_row_numbers (take written.plant_numbers tables'.plants)
      ++ table_text (ascii "S") segment_row_numbers (take written.segment_numbers tables'.segments)
  told_accepted =
      rw (rows.plants, written_there (plant_entries ruling) tables.plants tables'.plants plants_after)
      (rw (rows.segments, written_there (segment_entries ruling) tables.segments tables'.segments segments_after) rows.text)
