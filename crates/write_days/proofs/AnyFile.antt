-- What is printed for a text of any length: as much of it as there is room to read decides.
use Prim.Native.Nat.{ℕ, ◌<◌}
use mathlib.Core.Path.{◌≡◌}
use mathlib.Core.List.{List}
use lib.ListN.{take}
use Rattle.meter.specs.Sheets.{sheet}
use Rattle.typing.specs.Printed.{most_text}
use Rattle.typing.proofs.AnyText.{any_text}
use Rattle.write_days.specs.Printed.{printed_write_days}

pub any_typed : (text : List ℕ) (room : ℕ) → most_text < room → printed_write_days (take room text) ≡ printed_write_days text
unfolding printed_write_days
any_typed text room more = any_text sheet text room more
