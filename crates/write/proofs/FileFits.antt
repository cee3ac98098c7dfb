-- The file of every list that is accepted has room: so there is no 14.
use Prim.Native.Nat.{ℕ, ◌≤◌}
use mathlib.Core.List.{List}
use native.Mathlib.Nat.{le_trans}
use Rattle.fields.specs.Written.{file_of}
use Rattle.records.specs.Periods.{period, period_file, most_bytes}
use Rattle.records.proofs.Longest.{no_longer}
use Rattle.typed.specs.Text.{numbers_in}
use Rattle.typing.proofs.TextHeld.{Fits}

pub period_fits : (text : List ℕ) (room : ℕ) → most_bytes ≤ room → Fits period text room
unfolding period_file
period_fits text room enough what place at e = le_trans (no_longer (file_of (numbers_in text)) what place at e) enough
