-- No owner's grams pass the limit in a file that the call accepts. The test is put to each line, with the total of its owner up to that
-- line, so the last line of an owner answers for all its lines.
use Prim.Native.Nat.{ℕ, ◌≤◌}
use mathlib.Core.List.{List}
use Rattle.records.specs.Lines.{most_grams}
use Rattle.accounts.specs.Emissions.{added_grams}
use Rattle.accounts.specs.Accepted.{Accepted, held}
use Rattle.accounts.proofs.Accepting.{accepted_means}

pub grams_within :
    {file plants segments : List ℕ} → Accepted file plants segments → (owner_kind owner : ℕ) →
    added_grams owner_kind owner (held file).lines ≤ most_grams
grams_within given = (accepted_means given).grams
