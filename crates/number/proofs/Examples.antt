-- The numbers that rules 1.3 and 1.4 name, and the faults of rule 1.5 at their edges, in one statement: bytes, the index of one, what is there; then its
-- offset (rule 1.7) and its bytes (rule 1.8).
use mathlib.Core.Path.{◌≡◌, refl}
use mathlib.Core.List.{[], ◌∷◌}
use Rattle.number.specs.Groups.{gather, value, padded, own_bytes}
use Rattle.number.specs.Reading.{reading, read_at, offset_at, bytes_at, formed, ends, not_shortest, too_large}
use Rattle.number.specs.Reading.Found.{number, fault}
use Rattle.number.specs.Writing.{writing, written}

pub examples :
    -- the numbers that the rules name, read
    (read_at (0x7F ∷ []) 0 ≡ number 127 1)
    × (read_at (0x80 ∷ 0x01 ∷ []) 0 ≡ number 128 2)
    × (read_at (0xAC ∷ 0x02 ∷ []) 0 ≡ number 300 2)
    × (read_at (0x80 ∷ 0xD0 ∷ 0xAC ∷ 0xF3 ∷ 0x0E ∷ []) 0 ≡ number 4_000_000_000 5)
    -- and written
    × (written 127 ≡ 0x7F ∷ [])
    × (written 128 ≡ 0x80 ∷ 0x01 ∷ [])
    × (written 300 ≡ 0xAC ∷ 0x02 ∷ [])
    × (written 4_000_000_000 ≡ 0x80 ∷ 0xD0 ∷ 0xAC ∷ 0xF3 ∷ 0x0E ∷ [])
    -- zero is a number of one group; a byte in the middle of a number is one like any other; what follows does not matter
    × (read_at (0x00 ∷ []) 0 ≡ number 0 1)
    × (read_at (0x80 ∷ 0x01 ∷ []) 1 ≡ number 1 2)
    × (read_at (0xAC ∷ 0x02 ∷ 0x80 ∷ []) 0 ≡ number 300 2)
    -- 1: no byte, at the end and past it; a group that says another follows, and no more bytes
    × (read_at [] 0 ≡ fault ends)
    × (read_at (0x7F ∷ []) 1 ≡ fault ends)
    × (read_at (0x7F ∷ []) 2 ≡ fault ends)
    × (read_at (0x80 ∷ []) 0 ≡ fault ends)
    × (read_at (0x80 ∷ 0x80 ∷ 0x80 ∷ 0x80 ∷ []) 0 ≡ fault ends)
    -- 2: a last group that is zero, after one group and after four
    × (read_at (0x80 ∷ 0x00 ∷ []) 0 ≡ fault not_shortest)
    × (read_at (0x80 ∷ 0x80 ∷ 0x80 ∷ 0x80 ∷ 0x00 ∷ []) 0 ≡ fault not_shortest)
    -- 3: a sixth group is announced, whatever comes then; one over the limit; the largest of five groups
    × (read_at (0x80 ∷ 0x80 ∷ 0x80 ∷ 0x80 ∷ 0x80 ∷ []) 0 ≡ fault too_large)
    × (read_at (0x80 ∷ 0x80 ∷ 0x80 ∷ 0x80 ∷ 0x80 ∷ 0x00 ∷ []) 0 ≡ fault too_large)
    × (read_at (0x81 ∷ 0xD0 ∷ 0xAC ∷ 0xF3 ∷ 0x0E ∷ []) 0 ≡ fault too_large)
    × (read_at (0xFF ∷ 0xFF ∷ 0xFF ∷ 0xFF ∷ 0x7F ∷ []) 0 ≡ fault too_large)
    -- the offset is the byte that was asked for, also at the end; past it, the end
    × (offset_at (0x01 ∷ 0x80 ∷ 0x00 ∷ []) 1 ≡ 1)
    × (offset_at (0x01 ∷ 0x80 ∷ 0x00 ∷ []) 3 ≡ 3)
    × (offset_at (0x01 ∷ 0x80 ∷ 0x00 ∷ []) 4 ≡ 3)
    -- the bytes of a number; of one that is not in its shortest form; of one that is cut; five of one that goes on; none
    × (bytes_at (0xAC ∷ 0x02 ∷ 0x80 ∷ []) 0 ≡ 0xAC ∷ 0x02 ∷ [])
    × (bytes_at (0x01 ∷ 0x80 ∷ 0x00 ∷ 0x05 ∷ []) 1 ≡ 0x80 ∷ 0x00 ∷ [])
    × (bytes_at (0x01 ∷ 0x80 ∷ []) 1 ≡ 0x80 ∷ [])
    × (bytes_at (0x80 ∷ 0x80 ∷ 0x80 ∷ 0x80 ∷ 0x80 ∷ 0x00 ∷ []) 0 ≡ 0x80 ∷ 0x80 ∷ 0x80 ∷ 0x80 ∷ 0x80 ∷ [])
    × (bytes_at (0x01 ∷ []) 1 ≡ [])
unfolding gather value padded own_bytes reading read_at formed writing written
examples =
    (refl, refl, refl, refl, refl, refl, refl, refl, refl, refl, refl, refl, refl, refl, refl, refl, refl, refl, refl, refl, refl, refl, refl, refl, refl, refl, refl, refl, refl, refl)
