-- The bytes of a file that was read lie within the room.
use Rattle.std.proofs.Common.{◌≡◌, ℕ, ◌≤◌, List, length, Option, Some}
use Rattle.input.specs.Received.{Received}

pub bytes_within : (room : List ℕ) {input : Option ℕ} {bytes : ℕ} → input ≡ Some bytes → Received input room → bytes ≤ length room
bytes_within room {input} {bytes} file received =
    let counted : Received (Some bytes) room = rw file at received in
    counted.0
