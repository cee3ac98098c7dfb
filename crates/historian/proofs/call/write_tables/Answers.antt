-- `historian::call::write_tables` meets its contract: the file is settled, the room in the historian's tables is tested, and the rows are
-- written as bytes. Assumes nothing.
use Rattle.std.proofs.Common.{◌≡◌, Ok, Err, ◌∙◌, rules, arith}
use Rattle.settling.proofs.HowMany.{few_settled}
use Rattle.period.proofs.Answering.{settled_refused, verdict_is}
use Rattle.historian.proofs.Tables.{tables_stay, tables_written}
use Rattle.historian.proofs.call.write_tables.Goals as goal

pub returns-in_err-settle_into : goal.returns-in_err-settle_into
returns-in_err-settle_into c =
    let why = c.in_err-settle_into.field-0.0 in
    let was : c.settle_into.result ≡ Err why = search rules in
    let is : c.from_residual.result ≡ Err why = search rules in
    rw is (tables_stay c.args.file.now _ _ why (settled_refused c.args.file.now _ _ why (rw was at c.settle_into.ensures.settles)))

pub returns-in_err-answer_with_tables : goal.returns-in_err-answer_with_tables
returns-in_err-answer_with_tables c =
    let why = c.in_err-answer_with_tables.field-0.0 in
    let was : c.settle_into.result ≡ Ok tt = search rules in
    let is : c.from_residual-in_err-answer_with_tables.result ≡ Err why = search rules in
    rw is
    (tables_stay c.args.file.now _ _ why
    ((rw (c.room.ensures, c.room-2.ensures) at c.in_err-answer_with_tables.ensures) ∙ verdict_is c.args.file.now _ _ _ (rw was at c.settle_into.ensures.settles)))

pub shared_ref_as_front-plant_accounts : goal.shared_ref_as_front-plant_accounts
shared_ref_as_front-plant_accounts c =
    let was : c.settle_into.result ≡ Ok tt = search rules in
    let settled = rw was at c.settle_into.ensures.settles in rw settled.plant_count_is (few_settled c.args.file.now).plants

-- there is room for as many segments as plants, too, so that only `returns` tells which count is right
pub shared_ref_as_front-segment_accounts : goal.shared_ref_as_front-segment_accounts
shared_ref_as_front-segment_accounts c =
    let was : c.settle_into.result ≡ Ok tt = search rules in
    let settled = rw was at c.settle_into.ensures.settles in
    let few = few_settled c.args.file.now in
    omega (arith, settled.plant_count_is, settled.segment_count_is, few.plants, few.segments)

pub returns : goal.returns
returns c =
    let was : c.settle_into.result ≡ Ok tt = search rules in
    tables_written c.args.file.now _ _ _ (rw was at c.settle_into.ensures.settles)
    (rw (c.room.ensures, c.room-2.ensures) at c.in_ok-answer_with_tables.ensures)
    _ _ c.write_plants.ensures c.write_segments.ensures
