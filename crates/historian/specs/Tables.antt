-- The promise of the call from C for a period file, with tables of bytes.
use Rattle.std.specs.Prelude.{ℕ, ◌≡◌, List}
use Rattle.fields.specs.Answers.{Answer, said, refusal_number, refusal_place, refusal_offset}
use Rattle.accounts.specs.Order.{Ruling}
use Rattle.accounts.specs.Quantified.{quantified}
use Rattle.period.specs.Written.{ruling_verdict, plant_entries, segment_entries}
use Rattle.plain.specs.Bytes.{whole_numbers, bytes_overwritten}

-- The ruling on a file, with tables that have as many entries as whole numbers (rules 8.8 and 10.5).
abbrev pub entry_ruling : (file plants segments : List ℕ) → Ruling
entry_ruling file plants segments = quantified file (whole_numbers plants) (whole_numbers segments)

-- What is answered, and how the two tables of bytes are left: with the rows of the ruling at their start (rules 10.2 to 10.5).
pub record TablesAfter (file plants segments : List ℕ) (answer : Answer) (plants' segments' : List ℕ) : Type 0 where
  pub verdict : said answer ≡ ruling_verdict (entry_ruling file plants segments)
  pub plants_after : plants' ≡ bytes_overwritten (plant_entries (entry_ruling file plants segments)) plants
  pub segments_after : segments' ≡ bytes_overwritten (segment_entries (entry_ruling file plants segments)) segments

-- What a call leaves to its caller (rules 10.6 and 10.8).
pub record Outcome : Type 0 where
  pub result : ℕ
  pub place : ℕ
  pub offset : ℕ
  pub plants : List ℕ
  pub segments : List ℕ

-- The promise of `steeplecuff_quantify`: number of refusal, place and offset, all 0 if the file is accepted, and the tables (rules 10.5, 10.6
-- and 10.8).
pub record EntryPromise (file plants segments : List ℕ) (outcome : Outcome) : Type 0 where
  pub result : outcome.result ≡ refusal_number (ruling_verdict (entry_ruling file plants segments))
  pub place : outcome.place ≡ refusal_place (ruling_verdict (entry_ruling file plants segments))
  pub offset : outcome.offset ≡ refusal_offset (ruling_verdict (entry_ruling file plants segments))
  pub plants_after : outcome.plants ≡ bytes_overwritten (plant_entries (entry_ruling file plants segments)) plants
  pub segments_after : outcome.segments ≡ bytes_overwritten (segment_entries (entry_ruling file plants segments)) segments
