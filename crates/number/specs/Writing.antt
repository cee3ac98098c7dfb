-- The shortest form of a number, as bytes.
use Rattle.std.specs.Prelude.{ℕ, zero, suc, ◌+◌, ◌*◌, ◌/◌, ◌<◌, ◌≡◌, List, [], ◌∷◌, cond, length, get_or, leb, ltb}
use Rattle.std.proofs.lemmas.List.Edits.{sets}
use Rattle.number.specs.Groups.{most_groups, radix, group}

-- A number in at most a given number of groups: below 128 it is one byte; else a byte of 128 or more has its first group, and the rest follows.
unfoldable pub writing : ℕ → ℕ → List ℕ
writing zero v = []
writing (suc allowed) v = cond (ltb v radix) (v ∷ []) ((radix + group v) ∷ writing allowed (v / radix))

-- The shortest form of a number that fits into five groups (rule 1.3).
unfoldable pub written : ℕ → List ℕ
written v = writing most_groups v

-- Each is a byte: below 256.
abbrev pub AreBytes : List ℕ → Type 0
AreBytes bytes = (i : ℕ) → get_or bytes i 0 < 2 * radix

-- ---- what the public functions promise
-- `size_of`: how many bytes are written for a value (rule 1.3).
abbrev pub SizeOfPromise : (value r : ℕ) → Type 0
SizeOfPromise value r = r ≡ length (written value)

-- What is written of a value at a byte of a buffer: all of its bytes, or none if there is no room for them (rule 1.3).
abbrev pub fitted : (value at : ℕ) (buffer : List ℕ) → List ℕ
fitted value at buffer = cond (leb (at + length (written value)) (length buffer)) (written value) []

-- `write_at`: these bytes stand from that byte on, and all else stays; how many they are (rule 1.3).
pub record WriteAtPromise (value at : ℕ) (buffer : List ℕ) (r : ℕ) (buffer' : List ℕ) : Type 0 where
  pub counted : r ≡ length (fitted value at buffer)
  pub stands : buffer' ≡ sets buffer at (fitted value at buffer)
