-- `gathering::gathering::gather` meets its contract: the header decides, then the plants, the segments and the lines behind it. Assumes nothing.
use Rattle.std.proofs.Common.{◌≡◌, Err, rules, arith, sym}
use Rattle.gathering.proofs.Answering.{header_out, within, plants_out, segments_out, first_line, lines_out, all_gathered}
use Rattle.gathering.proofs.gathering.gather.Goals as goal

pub returns-in_err-counts : goal.returns-in_err-counts
returns-in_err-counts c =
    let refusal = c.in_err-counts.field-0.0 in
    let is : c.from_residual.result ≡ Err refusal = search rules in
    rw is (header_out c.args.file.now (omega arith) refusal (sym c.in_err-counts.ensures))

pub returns-in_err-plants : goal.returns-in_err-plants
returns-in_err-plants c =
    let refusal = c.in_err-plants.field-0.0 in
    let is : c.from_residual-in_err-plants.result ≡ Err refusal = search rules in
    rw is (plants_out c.args.file.now (omega arith) c.in_ok-counts.ensures refusal c.in_err-plants.ensures)

pub returns-in_err-segments : goal.returns-in_err-segments
returns-in_err-segments c =
    let refusal = c.in_err-segments.field-0.0 in
    let is : c.from_residual-in_err-segments.result ≡ Err refusal = search rules in
    rw is (segments_out c.args.file.now (omega arith) c.in_ok-counts.ensures c.in_ok-plants.ensures refusal c.in_err-segments.ensures)

pub add_up-requires-clause-counts_within : goal.add_up-requires-clause-counts_within
add_up-requires-clause-counts_within c = within c.args.file.now (omega arith) c.in_ok-counts.ensures

pub add_up-requires-clause-byte_value : goal.add_up-requires-clause-byte_value
add_up-requires-clause-byte_value c = first_line c.args.file.now (omega arith) c.in_ok-counts.ensures c.in_ok-plants.ensures c.in_ok-segments.ensures

pub returns-in_err-emissions : goal.returns-in_err-emissions
returns-in_err-emissions c =
    let refusal = c.in_err-emissions.field-0.0 in
    let is : c.from_residual-in_err-emissions.result ≡ Err refusal = search rules in
    rw is (lines_out c.args.file.now (omega arith) c.in_ok-counts.ensures c.in_ok-plants.ensures c.in_ok-segments.ensures refusal c.in_err-emissions.ensures)

pub returns : goal.returns
returns c =
    all_gathered c.args.file.now (omega arith) c.in_ok-counts.ensures c.in_ok-plants.ensures c.in_ok-segments.ensures
    c.in_ok-emissions.emissions c.in_ok-emissions.ensures
