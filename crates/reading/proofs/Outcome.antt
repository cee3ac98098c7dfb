-- No two outcomes meet a promise of this crate.
use Rattle.std.proofs.Common.{◌≡◌, ℕ, List, Option, Ok, Err, sym, ap, ap₂, ◌∙◌, true≢false}
use Rattle.fields.specs.declared.spot.Spot.{Spot}
use Rattle.fields.specs.Answers.{Answer}
use Rattle.fields.specs.Readers.{Reader}
use Rattle.fields.proofs.Outcome.{refusal_once, said_once}
use Rattle.records.specs.declared.counts.Counts.{Counts}
use Rattle.records.specs.declared.plant.Plant.{Plant}
use Rattle.records.specs.declared.segment.Segment.{Segment}
use Rattle.records.specs.declared.line.Line.{Line}
use Rattle.reading.specs.Found.{RecordRead, record_found, ReadRecordPromise, ReadRecordsPromise, ReadHeaderPromise, HeaderOfPromise, ReadPlantPromise, ReadSegmentPromise, ReadLinePromise, VerdictPromise}

-- what was found, of the header or where a record starts, determines the answer
found_once : {A : Type 0} (a b : RecordRead A) → record_found a ≡ record_found b → a ≡ b
found_once {A} (Ok (one, next)) (Ok (other, next')) e = ap₂ (λ (o : A) (n : Spot). Ok (o, n)) (cc) (cc)
found_once (Ok (one, next)) (Err b) e = absurd (true≢false (cc))
found_once (Err a) (Ok (other, next')) e = absurd (true≢false (cc))
found_once (Err a) (Err b) e = ap Err (refusal_once a b (cc))

-- `read_record`: two answers that meet its promise, of one file at one spot and by one reader, are the same
pub one_record :
    {A : Type 0} (reader : Reader A) (file : List ℕ) (start : Spot) (r s : RecordRead A) → ReadRecordPromise reader file start r →
    ReadRecordPromise reader file start s → r ≡ s
one_record reader file start r s p q = found_once r s (p ∙ sym q)

-- `read_records`: so are two of its answers
pub one_records :
    {A : Type 0} (one : ℕ → Reader A) (none : A) (room count : ℕ) (file : List ℕ) (start : Spot) (r s : RecordRead (List A)) →
    ReadRecordsPromise one none room count file start r → ReadRecordsPromise one none room count file start s → r ≡ s
one_records one none room count file start r s p q = found_once r s (p ∙ sym q)

-- `read_header`: so are two of its answers, of one file
pub one_header_read : (file : List ℕ) (r s : RecordRead Counts) → ReadHeaderPromise file r → ReadHeaderPromise file s → r ≡ s
one_header_read file r s p q = found_once r s (p ∙ sym q)

-- `read_plant`, `read_segment`, `read_line`: so are two answers of each, of one file at one spot and by one header's counts
module _ (file : List ℕ) (start : Spot) (counts : Counts) where
  pub one_plant : (r s : RecordRead Plant) → ReadPlantPromise file start counts r → ReadPlantPromise file start counts s → r ≡ s
  one_plant r s p q = found_once r s (p ∙ sym q)

  pub one_segment : (own : ℕ) (r s : RecordRead Segment) → ReadSegmentPromise file start own counts r → ReadSegmentPromise file start own counts s → r ≡ s
  one_segment own r s p q = found_once r s (p ∙ sym q)

  pub one_line : (r s : RecordRead Line) → ReadLinePromise file start counts r → ReadLinePromise file start counts s → r ≡ s
  one_line r s p q = found_once r s (p ∙ sym q)

-- `verdict`: so are two of its answers, of one file
pub one_verdict : (file : List ℕ) (r s : Answer) → VerdictPromise file r → VerdictPromise file s → r ≡ s
one_verdict file r s p q = said_once r s (p ∙ sym q)

-- `header_of`: its promise gives the result itself
pub one_header : (file : List ℕ) (r s : Option Counts) → HeaderOfPromise file r → HeaderOfPromise file s → r ≡ s
one_header file r s p q = p ∙ sym q
