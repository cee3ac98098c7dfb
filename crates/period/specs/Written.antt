-- What the call answers and leaves in the two tables, by the ruling of the definitions; and its parts: a row, the room in the tables.
use Rattle.std.specs.Prelude.{ℕ, ◌≡◌, length, drop, Result, Ok, Err}
use mathlib.Core.List.{List, [], ◌++◌}
use Rattle.fields.specs.declared.answer.Refusal.{Refusal}
use Rattle.fields.specs.Answers.{Answer, notice_of, Verdict, accepts, refuses, refusing, said}
use Rattle.fields.specs.Tests.{tested_by}
use Rattle.records.specs.Headers.{announced}
use Rattle.accounts.specs.Rows.{plant_row, segment_row}
use Rattle.accounts.specs.Order.{Ruling, refusal, accepted, table_tests}
use Rattle.accounts.specs.Quantified.{quantified}
use Rattle.settling.specs.declared.account.PlantAccount.{PlantAccount}
use Rattle.settling.specs.declared.account.SegmentAccount.{SegmentAccount}
use Rattle.period.specs.declared.call.Quantified.{Quantified}

-- ---- the parts
-- The row of a plant's account, and below of a segment's (rules 7.1 and 7.2).
abbrev pub plant_row_of : PlantAccount → List ℕ
plant_row_of account = plant_row account.exported account.fraction account.stored account.associated

abbrev pub segment_row_of : SegmentAccount → List ℕ
segment_row_of account = segment_row account.inflow account.outflow account.emission account.plants

-- The verdict on a settled file, with these counts of plants and segments, tables of these lengths and this many bytes: 14 and 15 come last (rules 8.7
-- and 8.9).
abbrev pub with_tables : (plants segments plant_table segment_table bytes : ℕ) → Verdict → Verdict
with_tables plants segments plant_table segment_table bytes (refuses notice) = refuses notice
with_tables plants segments plant_table segment_table bytes accepts = tested_by refuses (table_tests bytes (announced plants segments 0) plant_table segment_table) accepts

-- What `plant_row`, `segment_row` and `answer_with_tables` promise (rules 7.1, 7.2, 8.7 and 8.9).
abbrev pub PlantRowPromise : PlantAccount → List ℕ → Type 0
PlantRowPromise account r = r ≡ plant_row_of account

abbrev pub SegmentRowPromise : SegmentAccount → List ℕ → Type 0
SegmentRowPromise account r = r ≡ segment_row_of account

abbrev pub AnswerWithTablesPromise : (settled : Answer) (plants segments plant_table segment_table bytes : ℕ) → Answer → Type 0
AnswerWithTablesPromise settled plants segments plant_table segment_table bytes r =
    said r ≡ with_tables plants segments plant_table segment_table bytes (said settled)

-- ---- the call
-- The two tables that a caller lends (rule 10.1).
pub record Lent : Type 0 where
  pub plants : List ℕ
  pub segments : List ℕ

abbrev pub lent : (plants segments : List ℕ) → Lent
lent plants segments = record { plants = plants; segments = segments }

-- The ruling on a file, with tables as long as these (rule 13.3).
abbrev pub ruling_on : List ℕ → Lent → Ruling
ruling_on file tables = quantified file (length tables.plants) (length tables.segments)

-- What a ruling says to the caller: that the file is accepted, or the notice of its refusal (rule 8.1).
abbrev pub ruling_verdict : Ruling → Verdict
ruling_verdict (refusal notice) = refuses notice
ruling_verdict (accepted plants segments) = accepts

-- The numbers that a ruling has for each table: none if it refuses (rules 10.2 and 10.3).
abbrev pub plant_entries : Ruling → List ℕ
plant_entries (refusal notice) = []
plant_entries (accepted plants segments) = plants

abbrev pub segment_entries : Ruling → List ℕ
segment_entries (refusal notice) = []
segment_entries (accepted plants segments) = segments

-- Numbers are written from the start of a table, and what stands behind them stays (rule 10.2).
abbrev pub overwritten : List ℕ → List ℕ → List ℕ
overwritten numbers table = numbers ++ drop (length numbers) table

-- What the tables hold after a ruling: a refusal writes nothing (rules 10.2, 10.3 and 13.2).
abbrev pub lent_after : Ruling → Lent → Lent
lent_after ruling tables = lent (overwritten (plant_entries ruling) tables.plants) (overwritten (segment_entries ruling) tables.segments)

-- What the call answers: how many numbers of each table are written, or a refusal; and below what that says (rules 8.1 and 10.1).
abbrev pub Told : Type 0
Told = Result Quantified Refusal

abbrev pub told : Told → Verdict
told (Ok written) = accepts
told (Err why) = refusing why

-- By the ruling: how many numbers each table then has, or the notice (rules 8.1 and 10.1).
abbrev pub HandsBack : Told → Ruling → Type 0
HandsBack (Ok written) (accepted plants segments) = (written.plant_numbers ≡ length plants) × (written.segment_numbers ≡ length segments)
HandsBack (Err why) (refusal notice) = notice_of why ≡ notice
HandsBack (Ok written) (refusal notice) = ⊥
HandsBack (Err why) (accepted plants segments) = ⊥

-- The promise of `quantify`: what it hands back and what it leaves in the two tables, for every file and all tables (rules 10.1 and 13.1).
pub record QuantifyPromise (file : List ℕ) (tables : Lent) (r : Told) (tables' : Lent) : Type 0 where
  pub hands_back : HandsBack r (ruling_on file tables)
  pub leaves : tables' ≡ lent_after (ruling_on file tables) tables

-- A call was lent some tables, accepted the file, and left these (rule 10.7).
pub record Left (file plants segments : List ℕ) : Type 0 where
  pub before : Lent
  pub written : Quantified
  pub promised : QuantifyPromise file before (Ok written) (lent plants segments)
