-- `period::call::quantify` meets its contract: the file is settled, the room in the tables is tested, and the rows are written. Assumes nothing.
use Rattle.std.proofs.Common.{◌≡◌, Err, ◌∙◌, rules}
use Rattle.settling.proofs.HowMany.{few_settled}
use Rattle.period.specs.Written.{lent}
use Rattle.period.proofs.Answering.{settled_refused, verdict_is, rows_are, room_is, call_refuses, call_accepts}
use Rattle.period.proofs.call.quantify.Goals as goal

pub returns-in_err-settled : goal.returns-in_err-settled
returns-in_err-settled c =
    let why = c.in_err-settled.field-0.0 in
    let is : c.from_residual.result ≡ Err why = search rules in
    rw is (call_refuses c.args.file.now _ why (settled_refused c.args.file.now _ _ why c.in_err-settled.ensures))

pub returns-in_err-answer_with_tables : goal.returns-in_err-answer_with_tables
returns-in_err-answer_with_tables c =
    let why = c.in_err-answer_with_tables.field-0.0 in
    let is : c.from_residual-in_err-answer_with_tables.result ≡ Err why = search rules in
    rw is (call_refuses c.args.file.now _ why (c.in_err-answer_with_tables.ensures ∙ verdict_is c.args.file.now _ _ c.in_ok-settled.settled c.in_ok-settled.ensures))

pub shared_ref_as_front-plants : goal.shared_ref_as_front-plants
shared_ref_as_front-plants c = rw c.in_ok-settled.ensures.plant_count_is (few_settled c.args.file.now).plants

pub shared_ref_as_front-segments : goal.shared_ref_as_front-segments
shared_ref_as_front-segments c = rw c.in_ok-settled.ensures.segment_count_is (few_settled c.args.file.now).segments

pub write_rows-requires : goal.write_rows-requires
write_rows-requires c = (room_is c.args.file.now _ _ c.in_ok-settled.settled c.in_ok-settled.ensures c.in_ok-answer_with_tables.ensures).0

pub write_rows-requires-2 : goal.write_rows-requires-2
write_rows-requires-2 c = (room_is c.args.file.now _ _ c.in_ok-settled.settled c.in_ok-settled.ensures c.in_ok-answer_with_tables.ensures).1

pub returns : goal.returns
returns c =
    call_accepts c.args.file.now (lent c.args.plant_table.now c.args.segment_table.now) _ _
    (rows_are c.args.file.now _ _ c.in_ok-settled.settled c.in_ok-settled.ensures c.in_ok-answer_with_tables.ensures)
    _ c.write_rows.ensures c.write_rows-2.ensures
