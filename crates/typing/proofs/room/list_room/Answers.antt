-- `typing::room::list_room` meets its contract: the length is the one that the definitions compute. Assumes nothing.
use mathlib.Core.Path.{refl}
use Rattle.typing.proofs.room.list_room.Goals as goal

pub returns : goal.returns
returns c = refl
