-- Bytes past the longest file and one byte more cannot change what reading gives.
use Prim.Native.Nat.{ℕ, ◌+◌, ◌≤◌, ◌<◌}
use mathlib.Core.Path.{◌≡◌, refl}
use mathlib.Core.List.{List}
use native.Mathlib.Omega.{arith}
use lib.ListN.{length, take}
use Rattle.number.specs.Groups.{largest}
use Rattle.number.specs.Writing.{writing, written}
use Rattle.fields.specs.Readers.{Read, read}
use Rattle.fields.proofs.Along.{Ended, none_left, comes_to, at_end}
use Rattle.fields.proofs.Fronts.{Same, both_read, both_refused, alike, read_alike}
use Rattle.records.specs.declared.counts.Counts.{Counts}
use Rattle.records.specs.Plants.{most_plants, plant_bytes, millionths}
use Rattle.records.specs.Segments.{most_segments, segment_bytes, store}
use Rattle.records.specs.Classes.{classes, segment_owner, largest_factor}
use Rattle.records.specs.Lines.{most_lines, line_bytes}
use Rattle.records.specs.Headers.{edition, header_bytes, telling, header_of}
use Rattle.records.specs.Periods.{Period, period_file, most_bytes}
use Rattle.records.proofs.PeriodAlong.{Placed, PeriodField, PeriodRead, header_along, period_along}

pub cut : (file : List ℕ) (n : ℕ) → most_bytes < n → period_file (take n file) ≡ period_file file
unfolding period_file
cut file n longer = read_alike file most_bytes n longer (λ _ _ _ (field, room). room) (λ _ _ _ (holds, end). end) (period_along file)

-- nor what its header tells
pub header_cut : (file : List ℕ) (n : ℕ) → most_bytes < n → header_of (take n file) ≡ header_of file
unfolding header_of
header_cut file n longer =
    told_alike
    (alike file most_bytes n longer (λ _ _ _ (field, room). room) (λ _ _ _ (counts, (place, end)). omega (arith, end)) (header_along file))
  where
    told_alike : {r s : Read Counts} → Same file most_bytes n longer r s → telling r ≡ telling s
    told_alike both_refused = refl
    told_alike (both_read h) = refl

-- a file that is read is no longer than the longest
pub no_longer : (file : List ℕ) (what : Period) (place at : ℕ) → period_file file ≡ read what place at → length file ≤ most_bytes
unfolding period_file
no_longer file what place at e = by_end (rw e at (at_end (comes_to (period_along file))))
  where
    by_end : {what : Period} {place at : ℕ} → Ended file (Placed PeriodField) PeriodRead (read what place at) → length file ≤ most_bytes
    by_end (none_left (holds, last) all) = omega (arith, last, all)

-- each field of the longest file takes the bytes of its largest value
abbrev width : ℕ → ℕ
width v = length (written v)

pub widths :
    (header_bytes ≡ width edition + width most_plants + width most_segments + width most_lines)
    × (plant_bytes ≡ width largest + width most_segments + width millionths)
    × (segment_bytes ≡ width store + width largest + width most_segments)
    × (line_bytes ≡ width segment_owner + width most_segments + width (length classes) + width largest + width largest_factor)
unfolding written writing classes
widths = (refl, refl, refl, refl)
