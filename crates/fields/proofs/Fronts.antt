-- A file and its front, which is longer than the longest file of its kind: reading gives the same for both.
use Rattle.std.proofs.Common.{◌≡◌, ℕ, ◌+◌, ◌<◌, ◌≤◌, List, length, take, sym, refl, ap, ◌∙◌, arith, length-take, take-take}
use native.Mathlib.Decide.{dec_le}
use Rattle.number.specs.Groups.{most_groups}
use Rattle.number.specs.Reading.{read_at, offset_at}
use Rattle.number.proofs.Laws.{only_five_bytes}
use Rattle.fields.specs.declared.reason.Reason.{Reason}
use Rattle.fields.specs.Answers.{Notice}
use Rattle.fields.specs.Readers.{Reader, Read, read, refused, reads}
use Rattle.fields.specs.Files.{ended, file_read}
use Rattle.fields.proofs.FieldByField.{Comes, done as all_read, goes, fails, stops, comes, goes_over}
use Rattle.fields.proofs.EndOfFile.{more_left, none_left}
use Rattle.fields.proofs.Along.{Along, done, needed}

module _ (file : List ℕ) (most n : ℕ) (longer : most < n) where
  abbrev front : List ℕ
  front = take n file

  -- if there is room for the most groups, the same number is in both
  same_number : (at : ℕ) → at + most_groups ≤ most → read_at front at ≡ read_at file at
  same_number at enough =
      sym (only_five_bytes front at)
      ∙ ap (λ (s : List ℕ). read_at s at) (take-take (at + most_groups) n file (omega arith))
      ∙ only_five_bytes file at

  -- and it has the same offset
  same_offset : (at : ℕ) → at + most_groups ≤ most → offset_at front at ≡ offset_at file at
  same_offset at enough = omega (arith, length-take n file)

  -- both are read, to the same place and byte, or both are refused
  pub data Same {A : Type 0} : Read A → Read A → Type 0 where
    both_read : {what : A} {place at : ℕ} → at ≤ most → Same (read what place at) (read what place at)
    both_refused : {notice : Notice} → Same (refused notice) (refused notice)

  -- one byte more than the longest file has shows whether bytes follow
  ended_alike : {A : Type 0} {r s : Read A} → Same r s → ended front r ≡ ended file s
  ended_alike both_refused = refl
  ended_alike (both_read {what} {place} {at} h) = by_end (dec_le (length file) at)
    where
      by_end : Dec (length file ≤ at) → ended front (read what place at) ≡ ended file (read what place at)
      by_end (yes q) = none_left what place front at (omega (arith, length-take n file)) ∙ sym (none_left what place file at q)
      by_end (no q) = more_left what place front at (omega (arith, length-take n file)) ∙ sym (more_left what place file at (omega arith))

  -- a reader that finds room for each number that it needs, and ends within the longest file
  module _
      {A : Type 0} {May : (place at : ℕ) → Reason → Type 0} {P : A → (place at : ℕ) → Type 0}
      (room : (place at : ℕ) (reason : Reason) → May place at reason → at + most_groups ≤ most)
      (inside : (what : A) (place at : ℕ) → P what place at → at ≤ most)
    where
      by_way :
          {reader : Reader A} {place at : ℕ} {outcome : Read A} → Along file May P reader place at → Comes file reader place at outcome →
          Same (reads reader front place at) outcome
      unfolding reads
      by_way (done {what} {place} {at} p) all_read = both_read (inside what place at p)
      by_way (needed {reason} {place} {at} may more) (goes {v} {n} e h later) =
          rw (same_number at (room place at reason may) ∙ e, h) (by_way (more v n e h) later)
      by_way (needed {reason} {place} {at} may more) (fails e h) =
          let enough = room place at reason may in
          rw (comes front (fails (same_number at enough ∙ e) h), same_offset at enough) both_refused
      by_way (needed {reason} {place} {at} may more) (stops e) =
          let enough = room place at reason may in
          rw (comes front (stops (same_number at enough ∙ e)), same_offset at enough) both_refused

      -- gives the same for both
      pub alike : {reader : Reader A} → Along file May P reader 0 0 → Same (reads reader front 0 0) (reads reader file 0 0)
      alike {reader} along = by_way along (goes_over file reader 0 0)

      -- also with the end of the file
      pub read_alike : {reader : Reader A} → Along file May P reader 0 0 → file_read reader front ≡ file_read reader file
      read_alike along = ended_alike (alike along)
