-- What is printed for a text of any length: as much of it as there is room to read decides.
use Prim.Native.Nat.{ℕ, ◌<◌}
use mathlib.Core.Path.{◌≡◌}
use mathlib.Core.List.{List}
use lib.ListN.{take}
use Rattle.records.specs.Periods.{period}
use Rattle.typing.specs.Printed.{most_text}
use Rattle.typing.proofs.AnyText.{any_text}
use Rattle.write.specs.Printed.{printed_write}

pub any_typed : (text : List ℕ) (room : ℕ) → most_text < room → printed_write (take room text) ≡ printed_write text
unfolding printed_write
any_typed text room more = any_text period text room more
