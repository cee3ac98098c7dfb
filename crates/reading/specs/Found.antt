-- What the code says that it found in a file, part by part: its header, or a record where one starts.
use Rattle.std.specs.Prelude.{ℕ, ◌≡◌, min, List, Option, Result, Ok, Err}
use Rattle.fields.specs.declared.answer.Refusal.{Refusal}
use Rattle.fields.specs.declared.spot.Spot.{Spot}
use Rattle.fields.specs.Answers.{Answer, said}
use Rattle.fields.specs.Spots.{first_spot}
use Rattle.fields.specs.Readers.{Reader, each}
use Rattle.fields.specs.Lists.{filled}
use Rattle.fields.specs.Reaching.{Reach, whole, stopped, reads_from, stopped_by}
use Rattle.records.specs.declared.counts.Counts.{Counts}
use Rattle.records.specs.declared.plant.Plant.{Plant}
use Rattle.records.specs.declared.segment.Segment.{Segment}
use Rattle.records.specs.declared.line.Line.{Line}
use Rattle.records.specs.declared.record.Among.{Among}
use Rattle.records.specs.Headers.{header, header_of}
use Rattle.records.specs.Periods as periods
use Rattle.records.specs.Periods.{period_verdict}

-- What the code found of a record: the record, with the spot of the next one; or a refusal.
abbrev pub RecordRead : Type 0 → Type 0
RecordRead A = Result (A × Spot) Refusal

-- What it says of it.
abbrev pub record_found : {A : Type 0} → RecordRead A → Reach A
record_found (Ok (record_read, next)) = whole record_read next
record_found (Err refusal) = stopped_by refusal

-- The readers of a kind of record by the records' own numbers.
abbrev pub numbered : {A : Type 0} → (Among → Reader A) → Counts → ℕ → Reader A
numbered reader counts own = reader (record { own = own; counts = counts })

-- Records that were read, in an array with a given room; the entries behind them are `none`.
abbrev pub in_array : {A : Type 0} → A → ℕ → Reach (List A) → Reach (List A)
in_array none room (whole records next) = whole (filled none room records) next
in_array none room (stopped notice) = stopped notice

-- ---- what the public functions promise
-- `read_record`: what the reader of that kind of record gives, from any spot of a file on (rules 2.2 and 8.3).
abbrev pub ReadRecordPromise : {A : Type 0} → Reader A → (file : List ℕ) → Spot → RecordRead A → Type 0
ReadRecordPromise reader file start r = record_found r ≡ reads_from reader file start

-- `read_records`: a count of records of a kind, numbered from 1, as many as there is room for (rules 2.2 and 8.3).
abbrev pub ReadRecordsPromise : {A : Type 0} → (ℕ → Reader A) → (none : A) (room count : ℕ) (file : List ℕ) → Spot → RecordRead (List A) → Type 0
ReadRecordsPromise one none room count file start r = record_found r ≡ in_array none room (reads_from (each one 1 (min count room)) file start)

-- `read_plant`: a plant, from any spot of a file on and by any counts (rules 2.4 and 8.3).
abbrev pub ReadPlantPromise : (file : List ℕ) → Spot → Counts → RecordRead Plant → Type 0
ReadPlantPromise file start counts = ReadRecordPromise (periods.plant counts) file start

-- `read_segment`: a segment, in the same way, and by any number of its own (rules 2.5 to 2.7 and 8.3).
abbrev pub ReadSegmentPromise : (file : List ℕ) → Spot → (own : ℕ) → Counts → RecordRead Segment → Type 0
ReadSegmentPromise file start own counts = ReadRecordPromise (periods.segment counts own) file start

-- `read_line`: a line, in the same way (rules 2.8, 3.2 and 8.3).
abbrev pub ReadLinePromise : (file : List ℕ) → Spot → Counts → RecordRead Line → Type 0
ReadLinePromise file start counts = ReadRecordPromise (periods.line counts) file start

-- `read_header`: the header, from the first spot on (rules 2.3 and 8.3).
abbrev pub ReadHeaderPromise : (file : List ℕ) → RecordRead Counts → Type 0
ReadHeaderPromise file = ReadRecordPromise header file first_spot

-- `header_of`: what the header tells (rules 2.3 and 11.5).
abbrev pub HeaderOfPromise : (file : List ℕ) → Option Counts → Type 0
HeaderOfPromise file r = r ≡ header_of file

-- `verdict`: what reading says of the file (rules 8.1 to 8.4 and 8.9).
abbrev pub VerdictPromise : (file : List ℕ) → Answer → Type 0
VerdictPromise file r = said r ≡ period_verdict file
