-- What is printed for a sheet of any length: as much of it as there is room to read decides the text.
use Prim.Native.Nat.{ℕ, ◌<◌}
use mathlib.Core.Path.{◌≡◌, ap}
use mathlib.Core.List.{List}
use lib.ListN.{take}
use Rattle.meter.specs.Sheets.{most_sheet_bytes}
use Rattle.meter.proofs.Longest.{longer}
use Rattle.days.specs.Printed.{answer_text, printed_days}

pub any_sheet : (sheet : List ℕ) (room : ℕ) → most_sheet_bytes < room → printed_days (take room sheet) ≡ printed_days sheet
unfolding printed_days
any_sheet sheet room more = ap answer_text (longer sheet room more)
