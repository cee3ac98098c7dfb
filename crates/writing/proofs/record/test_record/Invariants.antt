-- `writing::record::test_record` meets its contract: its loop takes the numbers of one record from the list's file, whose laws hold for any kind. Assumes nothing.
use Rattle.std.proofs.Common.{◌≡◌, length, take}
use Rattle.fields.specs.Spots.{taking_at}
use Rattle.fields.specs.Written.{file_of}
use Rattle.fields.proofs.OneRecord.{Numbers}
use Rattle.plain.specs.Bytes.{table_numbers}
use Rattle.writing.specs.Inside.{At}
use Rattle.writing.proofs.record.test_record.Given as goal

abbrev pub invariant-loop-f : goal.invariant-loop-f
invariant-loop-f g l = record {
  here : At (table_numbers l.numbers) l.at;
  taken : Numbers (g.R.Record.reader l.by) (taking_at (file_of (table_numbers l.numbers))) l.initial.at g.R.Record.FIELDS (take g.R.Record.FIELDS l.values) l.at l.f;
}
