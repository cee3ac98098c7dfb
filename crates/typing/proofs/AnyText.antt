-- What is printed for a text of any length: as much of it as there is room to read decides.
use Prim.Native.Nat.{ℕ, ◌≤◌, ◌<◌}
use mathlib.Core.Path.{◌≡◌, refl, sym, ap, ◌∙◌}
use mathlib.Core.List.{List}
use native.Mathlib.Decide.{dec_le}
use native.Mathlib.Omega.{arith}
use lib.ListN.{length, take}
use lib.Seq.{take_all, length-take-le}
use borrow.Author.Tests.{lt-ltb}
use Rattle.fields.specs.Readers.{Reader}
use Rattle.typing.specs.Printed.{most_text, long_line, printed_for}

-- a text that is too long
long_printed : {A : Type 0} (reader : Reader A) (text : List ℕ) → most_text < length text → printed_for reader text ≡ long_line
unfolding printed_for
long_printed reader text long = rw (lt-ltb most_text (length text) long) refl

pub any_text : {A : Type 0} (reader : Reader A) (text : List ℕ) (room : ℕ) → most_text < room → printed_for reader (take room text) ≡ printed_for reader text
any_text reader text room more = by_length (dec_le (length text) room)
  where
    by_length : Dec (length text ≤ room) → printed_for reader (take room text) ≡ printed_for reader text
    by_length (yes all) = ap (printed_for reader) (take_all room text all)
    by_length (no longer) =
        let full : length (take room text) ≡ room = length-take-le room text (omega (arith, longer)) in
        long_printed reader (take room text) (omega (arith, full, more)) ∙ sym (long_printed reader text (omega (arith, longer, more)))
