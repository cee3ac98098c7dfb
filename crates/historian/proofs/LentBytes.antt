-- The tables of the C caller, read as numbers, are left as the call below promises for tables of numbers (rule 10.7). So the theorems about an
-- accepting call's tables hold of the caller's bytes. The result, the place and the offset tell the first reason that holds, and a refusal
-- leaves the bytes as they were.
use Prim.Native.Nat.{ℕ, ◌<◌}
use mathlib.Core.Path.{◌≡◌, refl, sym, ap, ap₂, ◌∙◌}
use mathlib.Core.List.{List, flat_map}
use mathlib.Core.Logic.{◌↔◌}
use native.Mathlib.Omega.{arith}
use lib.ListN.{length}
use Rattle.std.specs.Prelude.{Ok}
use Rattle.fields.specs.Answers.{Notice, notice, accepts, refusal_number, refusal_place, refusal_offset}
use Rattle.fields.specs.Tests.{Test, FirstFails, NoneFails}
use Rattle.fields.proofs.Answers.{refuses_not_accepts}
use Rattle.accounts.specs.Order.{Ruling, refusal, accepted}
use Rattle.accounts.specs.Quantified.{rows, quantified}
use Rattle.accounts.specs.AllTests.{all_tests}
use Rattle.accounts.specs.Accepted.{Accepted}
use Rattle.accounts.proofs.Room.{accepted_room}
use Rattle.accounts.proofs.Fits.{rows_fit}
use Rattle.accounts.proofs.Order.{refused_exactly, accepted_is, accepted_exactly}
use Rattle.accounts.proofs.Numbered.{refusal_numbered}
use Rattle.period.specs.declared.call.Quantified.{Quantified}
use Rattle.period.specs.Written.{Lent, lent, Told, ruling_verdict, plant_entries, segment_entries, overwritten, HandsBack, QuantifyPromise, Left}
use Rattle.plain.specs.Bytes.{whole_numbers, table_numbers, bytes_overwritten}
use Rattle.plain.proofs.EightBytes.{first_length}
use Rattle.tables.proofs.ReadBack.{numbers_overwritten}
use Rattle.historian.specs.Tables.{entry_ruling, Outcome, EntryPromise}

-- ---- a result other than 0, a place and an offset tell the ruling
refusal_told :
    (ruling : Ruling) (told : Notice) → 0 < told.number → refusal_number (ruling_verdict ruling) ≡ told.number →
    refusal_place (ruling_verdict ruling) ≡ told.place → refusal_offset (ruling_verdict ruling) ≡ told.offset → ruling ≡ refusal told
refusal_told (refusal other) told some is at byte =
    ap (λ (n : ℕ). refusal (notice n other.place other.offset)) is
    ∙ ap₂ (λ (p o : ℕ). refusal (notice told.number p o)) at byte
refusal_told (accepted plants segments) told some is at byte = absurd (omega (arith, some, is))

-- ---- the caller's tables, before and after
module _ {file plants segments : List ℕ} {outcome : Outcome} (promised : EntryPromise file plants segments outcome) where
  -- the ruling on the file, with the caller's tables
  abbrev ruling : Ruling
  ruling = entry_ruling file plants segments

  -- all tests of the file and of the tables' whole numbers
  abbrev tests : List Test
  tests = all_tests file (whole_numbers plants) (whole_numbers segments)

  -- with tables of as many numbers it is the same
  same_ruling : quantified file (length (table_numbers plants)) (length (table_numbers segments)) ≡ ruling
  same_ruling = ap₂ (quantified file) (first_length (whole_numbers plants) plants) (first_length (whole_numbers segments) segments)

  -- the numbers of an accepted file are 64-bit numbers, and each table has room for them; a refusal has none
  tables_read :
      (a : Ruling) → ruling ≡ a →
      (table_numbers (bytes_overwritten (plant_entries a) plants) ≡ overwritten (plant_entries a) (table_numbers plants))
      × (table_numbers (bytes_overwritten (segment_entries a) segments) ≡ overwritten (segment_entries a) (table_numbers segments))
  unfolding flat_map
  tables_read (refusal notice) is = (refl, refl)
  tables_read (accepted plants_told segments_told) is =
      let given : Accepted file plants_told segments_told =
      record { plant_table = whole_numbers plants; segment_table = whole_numbers segments; answer = is } in
      let fit = rows_fit given in
      let room = accepted_room given in
      (numbers_overwritten plants_told plants fit.0 room.0, numbers_overwritten segments_told segments fit.1 room.1)

  -- the tables as numbers, before and after
  abbrev before : Lent
  before = lent (table_numbers plants) (table_numbers segments)

  abbrev after : Lent
  after = lent (table_numbers outcome.plants) (table_numbers outcome.segments)

  -- they meet the promise of the call below, with whatever it hands back for this ruling
  pub numbers_promised : (told : Told) → HandsBack told ruling → QuantifyPromise file before told after
  numbers_promised told hands_back =
      let read = tables_read ruling refl in
      record {
        hands_back = rw same_ruling hands_back;
        leaves = rw same_ruling (ap₂ lent (ap table_numbers promised.plants_after ∙ read.0) (ap table_numbers promised.segments_after ∙ read.1));
      }

  -- a result other than 0, with a place and an offset: that is the first test that fails
  pub refused_exactly_bytes :
      (told : Notice) → 0 < told.number →
      ((outcome.result ≡ told.number) × (outcome.place ≡ told.place) × (outcome.offset ≡ told.offset)) ↔ FirstFails tests told
  refused_exactly_bytes told some =
      let exactly = refused_exactly file (whole_numbers plants) (whole_numbers segments) told in (
        λ (result, place, offset).
            exactly.0 (refusal_told ruling told some (sym promised.result ∙ result) (sym promised.place ∙ place) (sym promised.offset ∙ offset)),
        λ first. (
          promised.result ∙ ap (λ (a : Ruling). refusal_number (ruling_verdict a)) (exactly.1 first),
          promised.place ∙ ap (λ (a : Ruling). refusal_place (ruling_verdict a)) (exactly.1 first),
          promised.offset ∙ ap (λ (a : Ruling). refusal_offset (ruling_verdict a)) (exactly.1 first),
        ),
      )

  -- a refusal leaves the bytes of both tables alone
  pub untouched_bytes : (outcome.result ≡ 0 → ⊥) → (outcome.plants ≡ plants) × (outcome.segments ≡ segments)
  unfolding flat_map
  untouched_bytes refused =
      let same = by_ruling ruling (λ none. refused (promised.result ∙ none)) in
      (promised.plants_after ∙ same.0, promised.segments_after ∙ same.1)
    where
      by_ruling :
          (a : Ruling) → (refusal_number (ruling_verdict a) ≡ 0 → ⊥) →
          (bytes_overwritten (plant_entries a) plants ≡ plants) × (bytes_overwritten (segment_entries a) segments ≡ segments)
      by_ruling (refusal notice) some = (refl, refl)
      by_ruling (accepted plants_told segments_told) some = absurd (some refl)

  -- if no test fails the ruling is an acceptance
  passed_accepts : NoneFails tests → ruling_verdict ruling ≡ accepts
  unfolding rows
  passed_accepts none = ap ruling_verdict ((accepted_exactly file (whole_numbers plants) (whole_numbers segments)).1 none)

  -- the result is 0 exactly if none fails
  pub accepted_exactly_bytes : (outcome.result ≡ 0) ↔ NoneFails tests
  accepted_exactly_bytes = (
    λ none. by_ruling ruling refl (sym promised.result ∙ none),
    λ none. promised.result ∙ ap refusal_number (passed_accepts none),
  )
    where
      by_ruling : (a : Ruling) → ruling ≡ a → refusal_number (ruling_verdict a) ≡ 0 → NoneFails tests
      by_ruling (refusal notice) is none =
          absurd (omega (arith, refusal_numbered file (whole_numbers plants) (whole_numbers segments) notice is, none))
      by_ruling (accepted plants_told segments_told) is none =
          accepted_is file (whole_numbers plants) (whole_numbers segments) plants_told segments_told is

  -- so it is 0 only if the file is accepted
  pub accepted_told : outcome.result ≡ 0 → ruling_verdict ruling ≡ accepts
  accepted_told none = passed_accepts (accepted_exactly_bytes.0 none)

  -- and then they are left as an accepting call leaves tables of numbers, so that all its theorems hold of them
  pub left_in_bytes : outcome.result ≡ 0 → Left file after.plants after.segments
  left_in_bytes none =
      let counts : Quantified = record { plant_numbers = length (plant_entries ruling); segment_numbers = length (segment_entries ruling) } in
      record { before = before; written = counts; promised = numbers_promised (Ok counts) (handed_back ruling (accepted_told none)) }
    where
      handed_back :
          (a : Ruling) → ruling_verdict a ≡ accepts →
          HandsBack (Ok (record { plant_numbers = length (plant_entries a); segment_numbers = length (segment_entries a) })) a
      handed_back (refusal notice) e = absurd (refuses_not_accepts e)
      handed_back (accepted plants_told segments_told) e = (refl, refl)
