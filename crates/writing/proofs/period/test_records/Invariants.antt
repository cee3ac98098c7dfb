-- `writing::period::test_records` meets its contract: its loop passes one record after another and keeps none. Assumes nothing.
use Rattle.std.proofs.Common.{List}
use Rattle.fields.specs.Spots.{taking_at}
use Rattle.fields.specs.Written.{file_of}
use Rattle.fields.proofs.Stages.{Passed}
use Rattle.plain.specs.Bytes.{table_numbers}
use Rattle.writing.specs.Inside.{At, by_number}
use Rattle.writing.proofs.period.test_records.Given as goal

abbrev pub invariant-loop-n : goal.invariant-loop-n
invariant-loop-n g l = record {
  here : At (table_numbers l.numbers) l.at;
  passed : (done : List _) × Passed (by_number g.R.Record.reader l.counts) (taking_at (file_of (table_numbers l.numbers))) l.initial.at l.count done l.at l.n;
}
