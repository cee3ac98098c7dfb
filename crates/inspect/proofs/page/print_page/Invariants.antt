-- `inspect::page::print_page` is safe and ends: each number that a step finds leaves fewer bytes, a place is never past its byte, and behind the
-- lines that wait there is room for the longest text. Assumes nothing.
use Prim.Native.Nat.{◌+◌, ◌-◌, ◌≤◌}
use lib.ListN.{length}
use Rattle.inspect.specs.Page.{most_page_text}
use Rattle.inspect.proofs.page.print_page.Given as goal

abbrev pub invariant-loop-number : goal.invariant-loop-number
invariant-loop-number l = (l.place ≤ l.byte) × (l.byte ≤ length l.file) × (l.text.end + most_page_text ≤ length l.text.room)

abbrev pub decreases-loop-number : goal.decreases-loop-number
decreases-loop-number l = length l.file - l.byte
