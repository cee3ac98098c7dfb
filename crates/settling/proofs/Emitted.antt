-- The column of what the owners of a kind emit, and records at the front of an array.
use Rattle.std.proofs.Common.{◌≡◌, ℕ, suc, ◌-◌, ◌≤◌, ◌<◌, List, length, take, replicate, get_or, ap, ◌∙◌, arith}
use lib.Seq.{take-append_seam}
use Rattle.number.specs.Groups.{largest}
use Rattle.fields.specs.Lists.{filled}
use Rattle.fields.specs.Tests.{listed}
use Rattle.fields.proofs.Testing.{listed_each}
use Rattle.records.specs.declared.line.Line.{Line}
use Rattle.records.specs.Segments.{most_segments}
use Rattle.accounts.specs.Emissions.{emission}
use Rattle.gathering.specs.Gathered.{owner_column}
use Rattle.gathering.proofs.Listing.{listed_at, filled_at}
use Rattle.settling.specs.Inside.{Small}

-- ---- the records of an array are those that it was filled with
pub front : {A : Type 0} (none : A) (room count : ℕ) (held array : List A) → array ≡ filled none room held → count ≡ length held → take count array ≡ held
unfolding filled
front none room count held array is counted = rw (is, counted) (take-append_seam held (replicate (room - length held) none))

-- ---- the column of what the owners of a kind emit by some lines
module _ (owner_kind count : ℕ) (lines : List Line) (column : List ℕ) (is : column ≡ owner_column owner_kind count lines) where
  abbrev of_owner : ℕ → ℕ
  of_owner index = emission owner_kind (suc index) lines

  has : (i : ℕ) → get_or column i 0 ≡ get_or (listed of_owner 0 count) i 0
  has i = ap (λ (l : List ℕ). get_or l i 0) is ∙ filled_at 0 most_segments (listed of_owner 0 count) i

  -- what stands at the index of an owner
  pub emission_at : (i : ℕ) → i < count → get_or column i 0 ≡ emission owner_kind (suc i) lines
  emission_at i below = has i ∙ listed_at of_owner 0 count i below

  -- none is over the largest number if no owner's is
  pub small_column : ((owner : ℕ) → emission owner_kind owner lines ≤ largest) → Small column
  small_column most i = rw (has i) (listed_each (λ (n : ℕ). n ≤ largest) of_owner 0 (omega arith) (λ index. most (suc index)) 0 count i)
