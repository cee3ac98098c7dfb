-- What reading standard input promises of the room that it was lent.
use Rattle.std.specs.Prelude.{ℕ, List, Option, Some, None}
use Rattle.io.specs.Counts.{IsPrefixLen}

-- The count of a file's bytes is at most the length of the room. After a fault nothing is promised.
abbrev pub Received : Option ℕ → List ℕ → Type 0
Received (Some bytes) room = IsPrefixLen bytes room
Received None room = Unit
