-- What is printed for a file of any length: as much of it as there is room to read decides the text.
use Prim.Native.Nat.{ℕ, ◌*◌, ◌<◌}
use mathlib.Core.Path.{◌≡◌, ap}
use mathlib.Core.List.{List}
use lib.ListN.{take}
use Rattle.records.specs.Plants.{most_plants}
use Rattle.records.specs.Segments.{most_segments}
use Rattle.records.specs.Periods.{most_bytes}
use Rattle.accounts.specs.Order.{plant_row_numbers, segment_row_numbers}
use Rattle.accounts.proofs.Longer.{longer}
use Rattle.rows.specs.Printed.{ruling_text, printed_rows}

pub any_file : (file : List ℕ) (room : ℕ) → most_bytes < room → printed_rows (take room file) ≡ printed_rows file
unfolding printed_rows
any_file file room more = ap ruling_text (longer file room (plant_row_numbers * most_plants) (segment_row_numbers * most_segments) more)
