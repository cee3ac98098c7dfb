-- `records::limits::Limits::new` meets its contract: the code's limits and the definitions' are the same numbers. Assumes nothing.
use mathlib.Core.Path.{refl}
use Rattle.records.specs.Classes.{classes}
use Rattle.records.specs.Limits.{limits}
use Rattle.records.proofs.limits.Limits.new.Goals as goal

pub returns : goal.returns
unfolding classes limits
returns c = refl
