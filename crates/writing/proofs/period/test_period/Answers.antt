-- `writing::period::test_period` meets its contract: the header decides, then the plants, the segments, the lines and the end of the list. Assumes nothing.
use Rattle.std.proofs.Common.{◌≡◌, Err, ◌∙◌, rules, arith}
use Rattle.fields.specs.Written.{file_of}
use Rattle.plain.specs.Bytes.{table_numbers}
use Rattle.records.proofs.Parts.{refusal_says, header_stopped, plants_stopped, segments_stopped, lines_stopped, end_says}
use Rattle.writing.proofs.ListSpots.{listed_long, first_at}
use Rattle.writing.proofs.period.test_period.Goals as goal

pub test_record-requires : goal.test_record-requires
test_record-requires c = rw c.first.ensures (first_at (table_numbers c.args.numbers.now))

pub returns-in_err-counts : goal.returns-in_err-counts
returns-in_err-counts c =
    let table = c.args.numbers.now in
    let file = file_of (table_numbers table) in
    let refusal = c.in_err-counts.field-0.0 in
    let is : c.from_residual.result ≡ Err refusal = search rules in
    let came = rw c.first.ensures at c.in_err-counts.ensures in
    rw is (record { says = refusal_says file refusal (header_stopped file (listed_long table (omega arith)) _ came); counted = tt })

pub returns-in_err-first_segment : goal.returns-in_err-first_segment
returns-in_err-first_segment c =
    let table = c.args.numbers.now in
    let file = file_of (table_numbers table) in
    let refusal = c.in_err-first_segment.field-0.0 in
    let is : c.from_residual-in_err-first_segment.result ≡ Err refusal = search rules in
    let header_read = (rw c.first.ensures at c.in_ok-counts.ensures).1 in
    rw is
    (record {
      says =
          refusal_says file refusal
          (plants_stopped file (listed_long table (omega arith)) c.in_ok-counts.counts c.in_ok-counts.first_plant header_read _ c.in_err-first_segment.ensures);
      counted = tt;
    })

pub returns-in_err-first_line : goal.returns-in_err-first_line
returns-in_err-first_line c =
    let table = c.args.numbers.now in
    let file = file_of (table_numbers table) in
    let refusal = c.in_err-first_line.field-0.0 in
    let is : c.from_residual-in_err-first_line.result ≡ Err refusal = search rules in
    let header_read = (rw c.first.ensures at c.in_ok-counts.ensures).1 in
    let plants_read = c.in_ok-first_segment.ensures.1 in
    rw is
    (record {
      says =
          refusal_says file refusal
          (segments_stopped file (listed_long table (omega arith)) c.in_ok-counts.counts c.in_ok-counts.first_plant header_read
          plants_read.0 c.in_ok-first_segment.first_segment plants_read.1
          _ c.in_err-first_line.ensures);
      counted = tt;
    })

pub returns-in_err-end : goal.returns-in_err-end
returns-in_err-end c =
    let table = c.args.numbers.now in
    let file = file_of (table_numbers table) in
    let refusal = c.in_err-end.field-0.0 in
    let is : c.from_residual-in_err-end.result ≡ Err refusal = search rules in
    let header_read = (rw c.first.ensures at c.in_ok-counts.ensures).1 in
    let plants_read = c.in_ok-first_segment.ensures.1 in
    let segments_read = c.in_ok-first_line.ensures.1 in
    rw is
    (record {
      says =
          refusal_says file refusal
          (lines_stopped file (listed_long table (omega arith)) c.in_ok-counts.counts c.in_ok-counts.first_plant header_read
          plants_read.0 c.in_ok-first_segment.first_segment plants_read.1
          segments_read.0 c.in_ok-first_line.first_line segments_read.1
          _ c.in_err-end.ensures);
      counted = tt;
    })

pub returns : goal.returns
returns c =
    let table = c.args.numbers.now in
    let file = file_of (table_numbers table) in
    let header_read = (rw c.first.ensures at c.in_ok-counts.ensures).1 in
    let plants_read = c.in_ok-first_segment.ensures.1 in
    let segments_read = c.in_ok-first_line.ensures.1 in
    let lines_read = c.in_ok-end.ensures.1 in
    record {
      says =
          c.nothing_left.ensures.says
          ∙ end_says file (listed_long table (omega (arith, c.well_formed))) c.in_ok-counts.counts c.in_ok-counts.first_plant header_read
          plants_read.0 c.in_ok-first_segment.first_segment plants_read.1
          segments_read.0 c.in_ok-first_line.first_line segments_read.1
          lines_read.0 c.in_ok-end.end lines_read.1;
      counted = c.nothing_left.ensures.counted;
    }
