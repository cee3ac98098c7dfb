-- `gathering::emissions::add_up` meets its contract: reading, 10 or 16 refuses, or the totals of plants and segments are put in kg. Assumes nothing.
use Rattle.std.proofs.Common.{◌≡◌, refl, Err, rules}
use Rattle.gathering.proofs.OwnersEmit.{ten_out, sixteen_out, all_emitted}
use Rattle.gathering.proofs.emissions.add_up.Goals as goal

pub returns-in_err-add_lines : goal.returns-in_err-add_lines
returns-in_err-add_lines c =
    let refusal = c.in_err-add_lines.field-0.0 in
    let is : c.from_residual.result ≡ Err refusal = search rules in
    rw is (ten_out _ _ _ refusal c.in_err-add_lines.ensures)

pub returns-in_err-test_captured : goal.returns-in_err-test_captured
returns-in_err-test_captured c =
    let refusal = c.in_err-test_captured.field-0.0 in
    let is : c.from_residual-in_err-test_captured.result ≡ Err refusal = search rules in
    rw is (sixteen_out _ _ _ c.in_ok-add_lines.ensures c.requires.counts_within refusal c.in_err-test_captured.ensures)

pub returns : goal.returns
returns c =
    all_emitted _ _ _ c.in_ok-add_lines.ensures c.requires.counts_within c.in_ok-test_captured.ensures _ refl c.in_kg.ensures c.in_kg-2.ensures
