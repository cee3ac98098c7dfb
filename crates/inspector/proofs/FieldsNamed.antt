-- The field that is named at a place is the one whose number stands there: of a period, and of the accepted file that holds it.
use Prim.Native.Nat.{ℕ, zero, suc, ◌+◌, ◌-◌, ◌*◌, ◌/◌, ◌%◌, ◌≤◌, ◌<◌}
use mathlib.Core.Path.{◌≡◌, refl, sym, ap, ◌∙◌}
use mathlib.Core.Bool.{Bool, true, false, cond}
use mathlib.Core.List.{List, [], ◌∷◌, ◌++◌, append_assoc, append-nil}
use native.Mathlib.Nat.{div-add-mod, mod-lt, le-div_iff_mul-le}
use native.Mathlib.Decide.{dec_lt}
use native.Mathlib.Omega.{arith}
use lib.Dec.{ltb}
use lib.ListN.{length, get_or, length-append, get_or-append}
use lib.Seq.{get_or-append-add}
use denote.Ref.{Bor}
use borrow.Author.Tests.{lt-ltb, le-ltb}
use Rattle.number.specs.Counting.{value_at}
use Rattle.fields.specs.Lists.{in_turn}
use Rattle.records.specs.declared.counts.Counts.{Counts}
use Rattle.std.specs.Prelude.{Option, Some}
use Rattle.records.specs.Plants.{plant_fields, no_plant}
use Rattle.records.specs.Segments.{segment_fields, no_segment}
use Rattle.records.specs.Lines.{line_fields, no_line}
use Rattle.records.specs.Periods.{Period}
use Rattle.records.specs.Headers.{header_fields, header_of}
use Rattle.records.specs.Within.{counts_of}
use Rattle.records.specs.Numbers.{plant_numbers_of, segment_numbers_of, line_numbers_of, period_numbers}
use Rattle.accounts.specs.Accepted.{Accepted, held}
use Rattle.inspector.specs.declared.field.Field.{Field}
use Rattle.inspector.specs.FieldsAt.{field_at}
use Rattle.inspector.specs.FieldsTold.{stands_in}
use Rattle.inspector.proofs.AcceptedNumbers.{accepted_header}
use Rattle.inspector.proofs.WalkOverFile.{walked_value, accepted_numbers}

-- ---- records that each have as many numbers as the others, one after another, and other numbers behind them
module _ {A : Type 0} (numbers : A → List ℕ) (fields : ℕ) (sized : (one : A) → length (numbers one) ≡ fields) where
  -- how many numbers all records have
  of_each_length : (all : List A) → length (in_turn numbers all) ≡ fields * length all
  unfolding in_turn
  of_each_length [] = omega arith
  of_each_length (one ∷ rest) = simp (length-append, sized, of_each_length rest) (omega arith)

  -- a number of them is a field of a record
  in_record :
      (all : List A) (none : A) (behind : List ℕ) (n f : ℕ) → n < length all → f < fields →
      get_or (in_turn numbers all ++ behind) (fields * n + f) 0 ≡ get_or (numbers (get_or all n none)) f 0
  unfolding in_turn
  in_record [] none behind n f before small = absurd (omega arith)
  in_record (one ∷ rest) none behind zero f before small =
      let first : fields * 0 + f ≡ f = omega arith in
      rw (first, append_assoc) (get_or-append (numbers one) (in_turn numbers rest ++ behind) 0 f (rw sized small))
  in_record (one ∷ rest) none behind (suc n) f before small =
      let next : fields * suc n + f ≡ length (numbers one) + (fields * n + f) = omega (arith, sized one) in
      rw (next, append_assoc)
      (get_or-append-add (numbers one) (in_turn numbers rest ++ behind) (fields * n + f) 0 ∙ in_record rest none behind n f (omega arith) small)

  -- the number at an index: a field of one of the records, or a number behind them
  abbrev standing : (all : List A) (none : A) (behind : List ℕ) → ℕ → ℕ
  standing all none behind index =
      cond (ltb (index / fields) (length all)) (get_or (numbers (get_or all (index / fields) none)) (index % fields) 0)
      (get_or behind (index - fields * length all) 0)

  -- the index divided by the fields of a record tells which it is
  at_index :
      0 < fields → (all : List A) (none : A) (behind : List ℕ) (index : ℕ) →
      get_or (in_turn numbers all ++ behind) index 0 ≡ standing all none behind index
  at_index some all none behind index = by_place (dec_lt (index / fields) (length all))
    where
      by_place : Dec (index / fields < length all) → get_or (in_turn numbers all ++ behind) index 0 ≡ standing all none behind index
      by_place (yes h) =
          rw lt-ltb
          (ap (λ (k : ℕ). get_or (in_turn numbers all ++ behind) k 0) (sym (div-add-mod index fields))
          ∙ in_record all none behind (index / fields) (index % fields) h (mod-lt index some))
      by_place (no h) =
          let past : length all ≤ index / fields = omega arith in
          let fits = (le-div_iff_mul-le some).0 past in
          let after : index ≡ length (in_turn numbers all) + (index - fields * length all) = omega (arith, of_each_length all) in
          rw le-ltb
          (ap (λ (k : ℕ). get_or (in_turn numbers all ++ behind) k 0) after
          ∙ get_or-append-add (in_turn numbers all) behind (index - fields * length all) 0)

-- ---- behind all records no field is named
pub after_all :
    (counts : Counts) (place : ℕ) →
    header_fields + plant_fields * counts.plants + segment_fields * counts.segments + line_fields * counts.lines ≤ place →
    field_at (Some counts) place ≡ Field.After
unfolding field_at
after_all counts place h =
    let of_header : header_fields ≤ place = omega arith in
    let of_plants : counts.plants ≤ (place - header_fields) / plant_fields = omega arith in
    let of_segments : counts.segments ≤ (place - header_fields - plant_fields * counts.plants) / segment_fields = omega arith in
    let of_lines : counts.lines ≤ (place - header_fields - plant_fields * counts.plants - segment_fields * counts.segments) / line_fields = omega arith in
    simp le-ltb

-- ---- the number at a place of a period is that of the field that is named there
module _ (period : Period) where
  -- what the header of its file tells
  abbrev tells : Option Counts
  tells = Some (counts_of period)

  -- the value of the one field or the other
  of_either : (t : Bool) (a b : Field) → stands_in (cond t a b) period ≡ cond t (stands_in a period) (stands_in b period)
  of_either true a b = refl
  of_either false a b = refl

  -- at every place: behind the last number no field is named, and both sides are 0
  pub number_of_field : (k : ℕ) → get_or (period_numbers period) k 0 ≡ stands_in (field_at tells k) period
  unfolding period_numbers field_at
  number_of_field zero = refl
  number_of_field (suc zero) = refl
  number_of_field (suc (suc zero)) = refl
  number_of_field (suc (suc (suc zero))) = refl
  number_of_field (suc (suc (suc (suc index)))) =
      let behind : suc (suc (suc (suc index))) - header_fields ≡ index = omega arith in
      let own : (n : ℕ) → suc n - 1 ≡ n = λ n. omega arith in
      rw (le-ltb (suc (suc (suc (suc index)))) header_fields (omega arith), behind, ← append-nil (in_turn line_numbers_of period.lines))
      (simp (
        at_index plant_numbers_of plant_fields (λ _. refl) (omega arith) period.plants no_plant,
        at_index segment_numbers_of segment_fields (λ _. refl) (omega arith) period.segments no_segment,
        at_index line_numbers_of line_fields (λ _. refl) (omega arith) period.lines no_line,
        of_either,
        own,
      ))

  -- how many numbers it has
  numbers_length :
      length (period_numbers period)
      ≡ header_fields + plant_fields * length period.plants + segment_fields * length period.segments + line_fields * length period.lines
  unfolding period_numbers
  numbers_length =
      simp (
        length-append,
        of_each_length plant_numbers_of plant_fields (λ _. refl),
        of_each_length segment_numbers_of segment_fields (λ _. refl),
        of_each_length line_numbers_of line_fields (λ _. refl),
      ) (omega arith)

  -- and no field is named behind its last number
  pub after_last : (k : ℕ) → length (period_numbers period) ≤ k → field_at tells k ≡ Field.After
  after_last k h = after_all (counts_of period) k (omega (arith, numbers_length))

-- ---- an accepted file: a number has the value of the field that is named at its place
pub field_named :
    {plants segments : List ℕ} (file : Bor (List ℕ)) → Accepted file.now plants segments → (k : ℕ) → k < length (period_numbers (held file.now)) →
    value_at file.now k ≡ stands_in (field_at (header_of file.now) k) (held file.now)
field_named file given k h =
    rw (accepted_header given) (walked_value (accepted_numbers file given).walks k h ∙ number_of_field (held file.now) k)

-- and behind its last number no field is named
pub none_named :
    {file plants segments : List ℕ} → Accepted file plants segments → (k : ℕ) → length (period_numbers (held file)) ≤ k →
    field_at (header_of file) k ≡ Field.After
none_named {file} given k h = rw (accepted_header given) (after_last (held file) k h)
