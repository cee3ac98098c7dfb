-- The sheet of every list that is accepted has room: so there is no 14.
use Prim.Native.Nat.{ℕ, ◌≤◌}
use mathlib.Core.List.{List}
use native.Mathlib.Nat.{le_trans}
use Rattle.fields.specs.Written.{file_of}
use Rattle.meter.specs.Sheets.{sheet, sheet_file, most_sheet_bytes}
use Rattle.meter.proofs.Longest.{no_longer}
use Rattle.typed.specs.Text.{numbers_in}
use Rattle.typing.proofs.TextHeld.{Fits}

pub sheet_fits : (text : List ℕ) (room : ℕ) → most_sheet_bytes ≤ room → Fits sheet text room
unfolding sheet_file
sheet_fits text room enough what place at e = le_trans (no_longer (file_of (numbers_in text)) what place at e) enough
