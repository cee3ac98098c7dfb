-- `settling::settling::settle` meets its contract: what it lends is settled. Assumes nothing.
use Rattle.std.proofs.Common.{◌≡◌, Ok, Err, rules}
use Rattle.settling.proofs.settling.settle.Goals as goal

pub returns-in_err-settle_into : goal.returns-in_err-settle_into
returns-in_err-settle_into c =
    let refusal = c.in_err-settle_into.field-0.0 in
    let was : c.settle_into.result ≡ Err refusal = search rules in
    let is : c.from_residual.result ≡ Err refusal = search rules in
    rw is (rw was at c.settle_into.ensures.settles)

pub returns : goal.returns
returns c =
    let was : c.settle_into.result ≡ Ok tt = search rules in
    rw was at c.settle_into.ensures.settles
