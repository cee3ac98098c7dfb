-- The groups of a number, and their value.
use Rattle.std.specs.Prelude.{ℕ, zero, suc, ◌+◌, ◌-◌, ◌*◌, ◌%◌, ◌^◌, List, [], ◌∷◌, Bool, cond, ◌&&◌, length, get_or, leb, ltb, eqb}

-- The most groups of a number (rule 1.4).
abbrev pub most_groups : ℕ
most_groups = 5

-- The largest value of a number (rule 1.4).
abbrev pub largest : ℕ
largest = 4_000_000_000

-- How many bits a group has (rule 1.1).
abbrev pub group_bits : ℕ
group_bits = 7

-- 128: every group is below it (rule 1.1).
abbrev pub radix : ℕ
radix = 2 ^ group_bits

-- Whether a byte says that another group follows: it is 128 or more (rule 1.1).
abbrev pub follows : ℕ → Bool
follows byte = leb radix byte

-- The group of a byte: the byte, less 128 if it is 128 or more (rule 1.1).
abbrev pub group : ℕ → ℕ
group byte = byte % radix

-- What gathering finds: all groups of a number; or that the bytes end first; or that the last group allowed says that another follows.
pub data Gathering : Type 0 where
  whole : (groups : List ℕ) → Gathering
  cut : Gathering
  long : Gathering

-- A group in front of what is gathered from the bytes behind it.
abbrev pub before : ℕ → Gathering → Gathering
before g (whole gs) = whole (g ∷ gs)
before g cut = cut
before g long = long

-- The groups at the front of the bytes, with a given number still allowed: up to the first after which none follows (rule 1.1).
unfoldable pub gather : ℕ → List ℕ → Gathering
gather zero bytes = long
gather (suc allowed) [] = cut
gather (suc allowed) (byte ∷ bytes) = cond (follows byte) (before (group byte) (gather allowed bytes)) (whole (group byte ∷ []))

-- The value of groups, of which the first counts least (rule 1.2).
unfoldable pub value : List ℕ → ℕ
value [] = 0
value (g ∷ gs) = value gs * radix + g

-- Not the shortest form: more than one group, and the last is zero (rule 1.3).
unfoldable pub padded : List ℕ → Bool
padded groups = ltb 1 (length groups) && eqb (get_or groups (length groups - 1) 0) 0

-- The bytes that belong to a number, with a given number of groups still allowed: up to and with the first after which none follows (rule 1.8).
unfoldable pub own_bytes : ℕ → List ℕ → List ℕ
own_bytes zero bytes = []
own_bytes (suc allowed) [] = []
own_bytes (suc allowed) (byte ∷ bytes) = byte ∷ cond (follows byte) (own_bytes allowed bytes) []
