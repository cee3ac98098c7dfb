-- `writing::list::nothing_left` meets its contract: the list ends there if and only if its file does. Assumes nothing.
use Prim.Native.Nat.{◌≤◌}
use mathlib.Core.Path.{ap, ◌∙◌}
use native.Mathlib.Omega.{arith}
use lib.ListN.{length}
use Rattle.plain.specs.Bytes.{table_numbers}
use Rattle.fields.specs.declared.answer.Refusal.{Refusal}
use Rattle.fields.specs.Answers.{refusing}
use Rattle.writing.proofs.ListSpots.{listed_length, end_byte, ended_there, left_there}
use Rattle.writing.proofs.list.nothing_left.Goals as goal

pub returns-then-index-room : goal.returns-then-index-room
returns-then-index-room c =
    let s = c in
    let ns = table_numbers s.args.numbers.now in
    record {
      says =
          ap (λ (r : Refusal). refusing r) c.refusal.ensures
          ∙ left_there ns s.args.at s.requires (omega (arith, listed_length s.args.numbers.now));
      counted = tt;
    }

pub returns : goal.returns
returns c =
    let s = c in
    let ns = table_numbers s.args.numbers.now in
    let all : length ns ≤ s.args.at.place = omega (arith, listed_length s.args.numbers.now) in
    record { says = ended_there ns s.args.at s.requires all; counted = end_byte ns s.args.at s.requires all }
