-- `plain::plain_at` meets its contract: the number of its own eight bytes, or none. Assumes nothing.
use Prim.Native.Nat.{ℕ, ◌*◌, ◌<◌}
use mathlib.Core.Path.{◌≡◌, sym, ap, ◌∙◌}
use mathlib.Core.List.{List}
use native.Mathlib.Omega.{arith}
use lib.ListN.{take, drop, length, get_or, length-drop}
use lib.Seq.{length-take-le}
use Rattle.std.specs.Int.{w64, from_le_bytes}
use Rattle.plain.specs.Bytes.{number_bytes, whole_numbers, value_of, table_numbers}
use Rattle.plain.proofs.EightBytes.{chunk_at, library_value, table_at, table_behind}
use Rattle.plain.proofs.plain_at.Goals as goal

pub returns-in-Some : goal.returns-in-Some
returns-in-Some c =
    let table = c.args.table.now in
    let index = c.args.index in
    let bytes = c.in-Some.bytes.now in
    let (below, same) = c.in-Some.ensures.lookup.3 in
    let inside : index < whole_numbers table = omega (arith, below, c.as_chunks.ensures.front_len) in
    let bytes_are : bytes ≡ take number_bytes (drop (number_bytes * index) table) =
    same bytes ∙ ap (λ (l : List (List ℕ)). get_or l index bytes) c.as_chunks.ensures.front ∙ chunk_at (whole_numbers table) index table bytes inside in
    let eight : length bytes ≡ number_bytes =
    ap (λ (l : List ℕ). length l) bytes_are ∙ length-take-le number_bytes (drop (number_bytes * index) table) (omega (arith, length-drop (number_bytes * index) table)) in
    let read : from_le_bytes w64 bytes ≡ get_or (table_numbers table) index 0 = library_value bytes eight ∙ ap value_of bytes_are ∙ sym (table_at table index inside) in
    omega (arith, read)

pub returns-in-None : goal.returns-in-None
returns-in-None c = sym (table_behind c.args.table.now c.args.index (omega (arith, c.in-None.ensures.lookup.3, c.as_chunks.ensures.front_len)))
