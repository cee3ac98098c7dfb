-- If reading refuses a file for what a number says, or for bytes after the last one, the field that is named at that place is one of the
-- refused kind (rule 11.5).
use Prim.Native.Nat.{ℕ, ◌-◌, ◌*◌, ◌/◌, ◌≤◌, ◌<◌}
use mathlib.Core.Path.{◌≡◌, refl, sym, ap, ◌∙◌}
use mathlib.Core.List.{List}
use native.Mathlib.Omega.{arith}
use borrow.Author.Tests.{lt-ltb, le-ltb}
use Rattle.fields.specs.declared.reason.Reason.{Reason}
use Rattle.fields.specs.declared.reason.Reason.TheVariants.{WrongEdition}
use Rattle.fields.specs.Reasons.{number_of}
use Rattle.fields.specs.Answers.{Notice}
use Rattle.fields.specs.Readers.{Read, read, refused, reads}
use Rattle.fields.specs.Files.{ended}
use Rattle.fields.proofs.Along.{Came, came, not_allowed, has_fault, Ended, bytes_left, not_read, comes_to, at_end}
use Rattle.fields.proofs.EndOfFile.{after_read, after_refused}
use Rattle.records.specs.declared.counts.Counts.{Counts}
use Rattle.std.specs.Prelude.{Option, Some, None}
use Rattle.records.specs.Plants.{plant_fields}
use Rattle.records.specs.Segments.{segment_fields}
use Rattle.records.specs.Lines.{line_fields}
use Rattle.records.specs.Headers.{header, header_fields, telling, header_of}
use Rattle.records.specs.Periods.{records, period, period_file}
use Rattle.records.proofs.PeriodAlong.{HeaderField, edition_field, count_field, RecordField, plant_field, segment_field, line_field, lines_end, Placed, HeaderRead, RecordsRead, header_along, records_along}
use Rattle.inspector.specs.FieldsAt.{field_at}
use Rattle.inspector.specs.FieldsTold.{refusal_due}
use Rattle.inspector.proofs.FieldsNamed.{after_all}

-- ---- what is due at a place, by what the header tells
abbrev due : Option Counts → ℕ → ℕ
due told place = refusal_due (field_at told place)

-- the refusals of the header's own fields, whatever it tells
header_due : (told : Option Counts) {place : ℕ} {reason : Reason} → HeaderField place reason → due told place ≡ number_of reason
unfolding field_at
header_due told edition_field = refl
header_due told (count_field its) = simp lt-ltb

-- and those of the records that it announces
records_due : (counts : Counts) {place : ℕ} {reason : Reason} → RecordField counts place reason → due (Some counts) place ≡ number_of reason
unfolding field_at
records_due counts (plant_field {place} its) =
    let of_header : header_fields ≤ place = omega (arith, its) in
    let here : (place - header_fields) / plant_fields < counts.plants = omega (arith, its) in
    simp (le-ltb, lt-ltb) refl
records_due counts (segment_field {place} its) =
    let of_header : header_fields ≤ place = omega (arith, its) in
    let of_plants : counts.plants ≤ (place - header_fields) / plant_fields = omega (arith, its) in
    let here : (place - header_fields - plant_fields * counts.plants) / segment_fields < counts.segments = omega (arith, its) in
    simp (le-ltb, lt-ltb) refl
records_due counts (line_field {place} its) =
    let of_header : header_fields ≤ place = omega (arith, its) in
    let of_plants : counts.plants ≤ (place - header_fields) / plant_fields = omega (arith, its) in
    let of_segments : counts.segments ≤ (place - header_fields - plant_fields * counts.plants) / segment_fields = omega (arith, its) in
    let here : (place - header_fields - plant_fields * counts.plants - segment_fields * counts.segments) / line_fields < counts.lines = omega (arith, its) in
    simp (le-ltb, lt-ltb) refl

-- so the refusal of a field at which reading ended is due there, if it is not the fault of a number
field_due :
    {file : List ℕ} {Field : (place : ℕ) → Reason → Type 0} {A : Type 0} {P : A → (place at : ℕ) → Type 0} {notice : Notice} (told : Option Counts) →
    ((reason : Reason) → Field notice.place reason → due told notice.place ≡ number_of reason) → number_of WrongEdition ≤ notice.number →
    Came file (Placed Field) P (refused notice) → due told notice.place ≡ notice.number
field_due told its large (not_allowed {reason} (field, room)) = its reason field
field_due told its large (has_fault small) = absurd (omega arith)

-- and behind the records the refusal for bytes that follow is due
records_end_due :
    {file : List ℕ} {notice : Notice} (counts : Counts) → number_of WrongEdition ≤ notice.number →
    Ended file (Placed (RecordField counts)) (RecordsRead counts) (refused notice) → due (Some counts) notice.place ≡ notice.number
records_end_due counts large (bytes_left (its, (here, last))) = rw here (ap refusal_due (after_all counts (lines_end counts) (omega arith)))
records_end_due counts large (not_read its) = field_due (Some counts) (λ reason. records_due counts) large its

-- ---- so the refusal of a file is that of the field that is named at its place
pub refused_field :
    {notice : Notice} (file : List ℕ) → period_file file ≡ refused notice → number_of WrongEdition ≤ notice.number →
    refusal_due (field_at (header_of file) notice.place) ≡ notice.number
unfolding period_file period header_of
refused_field {notice} file e large = by_header (reads header file 0 0) refl (comes_to (header_along file))
  where
    by_header :
        (outcome : Read Counts) → reads header file 0 0 ≡ outcome → Came file (Placed HeaderField) HeaderRead outcome →
        due (telling outcome) notice.place ≡ notice.number
    by_header (read h end at) is (came (counts, (here, start))) =
        let on = ap (ended file) (sym (after_read header records file 0 0 h end at is)) ∙ e in
        records_end_due h large (rw (rw here at on) at (at_end (comes_to (records_along file h counts at start))))
    by_header (refused found) is its =
        let same = sym (ap (ended file) (after_refused header records file 0 0 found is)) ∙ e in
        let found_is : found ≡ notice = cc in
        field_due None (λ reason. header_due None) large (rw found_is at its)
