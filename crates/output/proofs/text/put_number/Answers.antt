-- `output::text::put_number` meets its contract: the digits that the kit makes are the number's decimal ones. Assumes nothing.
use mathlib.Core.Path.{◌∙◌}
use native.Mathlib.Omega.{arith}
use Rattle.output.proofs.Decimals.{as_made}
use Rattle.output.proofs.text.put_number.Goals as goal

pub returns : goal.returns
returns c =
    let made = c.decimal-count.ensures in
    let text = made.digits ∙ as_made c.args.number c.decimal-count.result (omega arith) made.len in
    rw text at c.put_words.ensures
