-- `settling::settling::settle_into` meets its contract: the file is gathered, and its segments are worked. Assumes nothing.
use Rattle.std.proofs.Common.{◌≡◌, Ok, Err, refl, rules}
use Rattle.settling.specs.Settled.{outcome}
use Rattle.settling.proofs.Answering.{file_out, settle_fits, settled_whole}
use Rattle.settling.proofs.settling.settle_into.Goals as goal

pub returns-in_err-gathered : goal.returns-in_err-gathered
returns-in_err-gathered c =
    let refusal = c.in_err-gathered.field-0.0 in
    let was : c.gather-gathered.result ≡ Err refusal = search rules in
    let is : c.from_residual.result ≡ Err refusal = search rules in
    rw is (record { settles = file_out c.args.file.now refusal (rw was at c.gather-gathered.ensures); kept = λ why e. refl })

pub settle_period-requires : goal.settle_period-requires
settle_period-requires c =
    let was : c.gather-gathered.result ≡ Ok c.in_ok-gathered.gathered.now = search rules in
    settle_fits c.args.file.now c.in_ok-gathered.gathered.now (rw was at c.gather-gathered.ensures)

pub returns : goal.returns
returns c =
    let was : c.gather-gathered.result ≡ Ok c.in_ok-gathered.gathered.now = search rules in
    record {
      settles =
          settled_whole c.args.file.now c.in_ok-gathered.gathered.now (rw was at c.gather-gathered.ensures)
          (outcome c.settle_period.result c.settle_period.new.settled) c.settle_period.ensures.settles;
      kept = c.settle_period.ensures.kept;
    }
