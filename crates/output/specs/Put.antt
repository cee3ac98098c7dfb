-- Text that is put into a buffer.
use Rattle.std.specs.Prelude.{ℕ, suc, ◌+◌, ◌-◌, ◌≤◌, cond, leb, Option, Some, None, min, ◌≡◌, List, length, replicate, take}
use Rattle.std.proofs.lemmas.List.Edits.{sets}

-- The byte behind `bytes` bytes of text that start at `at`; if the buffer is too short, one past its end.
abbrev pub behind : (at bytes room : ℕ) → ℕ
behind at bytes room = min (at + bytes) (suc room)

-- What putting text promises: the byte behind it, and the text in the buffer, as far as there is room, with all else as it was.
pub record Put (text : List ℕ) (at : ℕ) (buffer : List ℕ) (end : ℕ) (buffer' : List ℕ) : Type 0 where
  pub ends : end ≡ behind at (length text) (length buffer)
  pub stands : buffer' ≡ sets buffer at text

-- A buffer holds a text: its bytes up to `end` are all of the text.
pub record Holds (text : List ℕ) (end : ℕ) (buffer : List ℕ) : Type 0 where
  pub within : end ≤ length buffer
  pub stands : take end buffer ≡ text

-- `Text::new`: a room of so many zeros, and no text yet.
pub record NoTextPromise (bytes : ℕ) (room : List ℕ) (end : ℕ) : Type 0 where
  pub zeros : room ≡ replicate bytes 0
  pub none : end ≡ 0

-- `Text::whole`: the bytes up to its end, if that is within the room.
abbrev pub WholePromise : (end : ℕ) (room : List ℕ) → Option (List ℕ) → Type 0
WholePromise end room r = r ≡ cond (leb end (length room)) (Some (take end room)) None

-- `Text::left`: what is behind the end.
abbrev pub LeftPromise : (end : ℕ) (room : List ℕ) (r : ℕ) → Type 0
LeftPromise end room r = r ≡ length room - end
