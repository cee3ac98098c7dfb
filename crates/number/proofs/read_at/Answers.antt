-- `number::read_at` meets its contract: past the end is fault 1, and the offset is the file's length; else what is at the byte. Assumes nothing.
use native.Mathlib.Omega.{arith}
use mathlib.Core.Path.{sym}
use Rattle.number.proofs.Laws.{past_end}
use Rattle.number.proofs.read_at.Goals as goal

pub returns-then-file-at : goal.returns-then-file-at
returns-then-file-at c = record { number = sym (past_end _ _ (omega arith)); offset = omega arith }

pub returns : goal.returns
returns c = record { number = c.number_at.ensures; offset = omega arith }
