-- `writing::list::take_listed` meets its contract: what the list has at a place is what its file has at that spot. Assumes nothing.
use Prim.Native.Nat.{ℕ, ◌≤◌, ◌<◌}
use mathlib.Core.Path.{◌≡◌, ap, ◌∙◌}
use native.Mathlib.Omega.{arith}
use lib.ListN.{length, get_or}
use Rattle.number.specs.Groups.{most_groups, largest}
use Rattle.number.specs.Writing.{written}
use Rattle.number.proofs.WrittenSizes.{five_bytes}
use Rattle.plain.specs.Bytes.{table_numbers}
use Rattle.fields.specs.declared.answer.Refusal.{Refusal}
use Rattle.fields.specs.Answers.{notice_of}
use Rattle.fields.specs.Spots.Take.{refusal as no_value}
use Rattle.writing.proofs.ListSpots.{listed_length, near, listed_ends, listed_over, listed_value, next_at}
use Rattle.writing.proofs.list.take_listed.Goals as goal

pub returns-then-room-index : goal.returns-then-room-index
returns-then-room-index c =
    let a = c.args in
    let ns = table_numbers a.numbers.now in
    record {
      is =
          ap (λ (r : Refusal). no_value (notice_of r)) c.refusal.ensures
          ∙ listed_ends ns a.at c.requires (omega (arith, listed_length a.numbers.now));
      next_at = tt;
    }

pub returns-then-value-gt-LARGEST : goal.returns-then-value-gt-LARGEST
returns-then-value-gt-LARGEST c =
    let a = c.args in
    let ns = table_numbers a.numbers.now in
    let more : a.at.place < length ns = omega (arith, listed_length a.numbers.now) in
    let value-is = c.plain_at-value.ensures in
    let over : largest < c.plain_at-value.result = omega arith in
    record {
      is =
          ap (λ (r : Refusal). no_value (notice_of r)) c.refusal-then-value-gt-LARGEST.ensures
          ∙ listed_over ns a.at c.requires more (rw value-is at over);
      next_at = tt;
    }

pub overflow_add-next : goal.overflow_add-next
overflow_add-next c =
    let s = c in
    let table = s.args.numbers.now in
    let size : c.size_of.result ≤ most_groups = rw c.size_of.ensures (five_bytes c.plain_at-value.result) in
    omega (arith, size, near (table_numbers table) s.args.at s.requires, listed_length table)

pub returns : goal.returns
returns c =
    let s = c in
    let ns = table_numbers s.args.numbers.now in
    let more : s.args.at.place < length ns = omega (arith, listed_length s.args.numbers.now) in
    let value-is = c.plain_at-value.ensures in
    let size_is : c.size_of.result ≡ length (written (get_or ns s.args.at.place 0)) = c.size_of.ensures ∙ ap (λ (v : ℕ). length (written v)) value-is in
    let small : c.plain_at-value.result ≤ largest = omega arith in
    rw (size_is, value-is)
    (record {
      is = listed_value ns s.args.at s.requires more (omega arith) (rw value-is at small);
      next_at = next_at ns s.args.at s.requires more;
    })
