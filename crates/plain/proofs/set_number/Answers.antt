-- `plain::set_number` meets its contract: the eight bytes stand at their place. Assumes nothing.
use Prim.Native.Nat.{◌+◌, ◌-◌}
use mathlib.Core.Path.{◌≡◌, sym, ap, ◌∙◌}
use mathlib.Core.List.{append_assoc}
use native.Mathlib.Omega.{arith}
use lib.ListN.{take, drop}
use lib.Seq.{drop-drop}
use Rattle.std.specs.Int.{w64, to_le_bytes}
use Rattle.plain.specs.Bytes.{number_bytes, eight_bytes}
use Rattle.plain.proofs.EightBytes.{library_bytes, set_between}
use Rattle.plain.proofs.set_number.Goals as goal

pub returns : goal.returns
returns c =
    let table = c.args.table.now in
    let at = c.args.at in
    let written : c.copy_from_slice.new.self ≡ eight_bytes c.args.number =
    c.copy_from_slice.ensures.after ∙ c.to_le_bytes.ensures ∙ ap (to_le_bytes w64) (omega arith) ∙ library_bytes c.args.number in
    let eight : at + 8 - at ≡ number_bytes = omega arith in
    rw (eight, written, drop-drop number_bytes at table)
    (sym (append_assoc (take at table) (eight_bytes c.args.number) (drop (at + number_bytes) table)) ∙ sym (set_between table at c.args.number c.requires))
