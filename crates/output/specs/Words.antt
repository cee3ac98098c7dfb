-- Quoted text as the bytes that are written for it.
use Rattle.std.specs.Prelude.{ℕ, List, [], ◌∷◌}
use Prim.Native.Char.{code}
use Prim.Native.String.{String}
use Prim.Native.String as quoted

-- The codes of its characters, in order. All text here is ASCII, so a character is one byte.
abbrev pub ascii : String → List ℕ
ascii quoted.[] = []
ascii (quoted.◌∷◌ character rest) = code character ∷ ascii rest
