-- How the answer to a long file is computed: over what is left of it at each number. `tools/definitions` compares with it.
use Prim.Native.Nat.{ℕ}
use mathlib.Core.Path.{◌≡◌, refl, ap, ◌∙◌}
use mathlib.Core.List.{List, ◌++◌}
use lib.ListN.{length}
use Rattle.fields.specs.Readers.{Read, read, refused}
use Rattle.fields.proofs.OverTheRest.{file_read_on, file_reads_on, start_on, starts_on}
use Rattle.records.specs.declared.counts.Counts.{Counts}
use Rattle.records.specs.Periods.{Period, period, period_file}
use Rattle.records.specs.Places.{line_place, line_start}
use Rattle.records.specs.Within.{counts_of}
use Rattle.accounts.specs.Order.{Ruling, refusal, tested, emission_tests, segment_tests, table_tests}
use Rattle.accounts.specs.Quantified.{accounts_of, rows, judged, after_reading, quantified}

-- where a line starts, and the ruling with that; reading first
abbrev line_start_on : List ℕ → Counts → ℕ → ℕ
line_start_on file counts index = start_on file 0 (line_place counts index)

abbrev judged_by : (starts : ℕ → ℕ) (file : List ℕ) → Period → (plant_table segment_table : ℕ) → Ruling
judged_by starts file what plant_table segment_table =
    tested
    (emission_tests starts (length file) (length what.plants) what.lines
    ++ (segment_tests (length file) (accounts_of what) ++ table_tests (length file) (counts_of what) plant_table segment_table))
    (rows what (accounts_of what))

abbrev pub after_reading_on : (file : List ℕ) → Read Period → (plant_table segment_table : ℕ) → Ruling
after_reading_on file (refused notice) plant_table segment_table = refusal notice
after_reading_on file (read what place at) plant_table segment_table = judged_by (line_start_on file (counts_of what)) file what plant_table segment_table

-- it is the same
same : (file : List ℕ) (outcome : Read Period) (plant_table segment_table : ℕ) → after_reading file outcome plant_table segment_table ≡ after_reading_on file outcome plant_table segment_table
unfolding judged
same file (refused notice) plant_table segment_table = refl
same file (read what place at) plant_table segment_table =
    let starts : line_start file (counts_of what) ≡ line_start_on file (counts_of what) = λ i index. starts_on file (line_place (counts_of what) index) i in
    ap (λ (starts : ℕ → ℕ). judged_by starts file what plant_table segment_table) starts

pub computed :
    (file : List ℕ) (plant_table segment_table : ℕ) {answer : Ruling} → after_reading_on file (file_read_on period file) plant_table segment_table ≡ answer →
    quantified file plant_table segment_table ≡ answer
unfolding quantified period_file
computed file plant_table segment_table e =
    ap (λ (outcome : Read Period). after_reading file outcome plant_table segment_table) (file_reads_on period file)
    ∙ same file (file_read_on period file) plant_table segment_table
    ∙ e
