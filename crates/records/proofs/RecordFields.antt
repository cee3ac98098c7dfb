-- The fields of each kind of record by their index: what each is tested for, what the numbers make that an array for the longest record
-- has in front, and that they fit it.
use Prim.Native.Nat.{ℕ, zero, suc, ◌≤◌}
use mathlib.Core.Path.{◌≡◌, refl, ap}
use mathlib.Core.Bool.{Bool, true}
use mathlib.Core.List.{List, [], ◌∷◌}
use lib.ListN.{length, take}
use borrow.Author.Tests.{leb-true}
use Rattle.number.specs.Groups.{largest}
use Rattle.fields.specs.Ranges.{any_amount}
use Rattle.fields.specs.Readers.{return, onward, allows_next}
use Rattle.fields.proofs.ByIndex.{number, spelt, spelt_out}
use Rattle.fields.specs.Wanting.{Allowed}
use Rattle.fields.proofs.Ranges.{at_most}
use Rattle.records.specs.declared.counts.Counts.{Counts}
use Rattle.records.specs.Plants.{plant_fields, millionths, first_allowed, fraction_allowed, plant_of}
use Rattle.records.specs.Segments.{segment_fields, pipeline, store, kind_allowed, next_allowed, segment_of}
use Rattle.records.specs.Classes.{classes, segment_owner, largest_factor, class_allowed, factor_allowed}
use Rattle.records.specs.Lines.{line_fields, owner_kind_allowed, owner_allowed, line_of}
use Rattle.records.specs.Periods.{plant, segment, line}
use Rattle.records.proofs.Classes.{code_within, factor_at_most}

module _ (counts : Counts) where
  -- ---- a plant
  -- what each field is tested for
  abbrev pub plant_test : ℕ → ℕ → Bool
  plant_test zero = any_amount
  plant_test (suc zero) = first_allowed counts
  plant_test (suc (suc zero)) = fraction_allowed
  plant_test (suc (suc (suc behind))) = any_amount

  pub plant_tested : (before : List ℕ) (v : ℕ) → allows_next (onward (plant counts) before) v ≡ plant_test (length before) v
  unfolding onward plant
  plant_tested [] v = refl
  plant_tested (a ∷ []) v = refl
  plant_tested (a ∷ b ∷ []) v = refl
  plant_tested (a ∷ b ∷ c ∷ []) v = refl
  plant_tested (a ∷ b ∷ c ∷ d ∷ behind) v = refl

  -- the others, and behind the last, nothing
  pub plant_any : (field v : ℕ) → (field ≡ 1 → ⊥) → (field ≡ 2 → ⊥) → plant_test field v ≡ true
  plant_any zero v b c = refl
  plant_any (suc zero) v b c = absurd (b refl)
  plant_any (suc (suc zero)) v b c = absurd (c refl)
  plant_any (suc (suc (suc behind))) v b c = refl

  module _ (values : List ℕ) (sized : length values ≡ line_fields) where
    -- the plant that it makes
    pub plant_made : onward (plant counts) (take plant_fields values) ≡ return (plant_of (number values 0) (number values 1) (number values 2))
    unfolding spelt onward plant
    plant_made = ap (λ (l : List ℕ). onward (plant counts) (take plant_fields l)) (spelt_out values line_fields sized)

    -- whose fields fit it
    pub plant_fits :
        Allowed (plant counts) (take plant_fields values) → (number values 0 ≤ largest) × (number values 1 ≤ largest) × (number values 2 ≤ millionths)
    unfolding spelt Allowed plant
    plant_fits passed =
        let (exported, _, (first, _, (_, fraction, _))) = rw (spelt_out values line_fields sized) at passed in
        (exported, first, leb-true (number values 2) millionths fraction)

  -- ---- the segment with its own number
  module _ (own : ℕ) where
    -- what each field is tested for; the kind is the first number
    abbrev pub segment_test : (kind field : ℕ) → ℕ → Bool
    segment_test kind zero = kind_allowed
    segment_test kind (suc zero) = any_amount
    segment_test kind (suc (suc zero)) = next_allowed counts own kind
    segment_test kind (suc (suc (suc behind))) = any_amount

    pub segment_tested :
        (before : List ℕ) (v : ℕ) → allows_next (onward (segment counts own) before) v ≡ segment_test (number before 0) (length before) v
    unfolding onward segment
    segment_tested [] v = refl
    segment_tested (a ∷ []) v = refl
    segment_tested (a ∷ b ∷ []) v = refl
    segment_tested (a ∷ b ∷ c ∷ []) v = refl
    segment_tested (a ∷ b ∷ c ∷ d ∷ behind) v = refl

    -- the others, and behind the last, nothing
    pub segment_any : (kind field v : ℕ) → (field ≡ 0 → ⊥) → (field ≡ 2 → ⊥) → segment_test kind field v ≡ true
    segment_any kind zero v a c = absurd (a refl)
    segment_any kind (suc zero) v a c = refl
    segment_any kind (suc (suc zero)) v a c = absurd (c refl)
    segment_any kind (suc (suc (suc behind))) v a c = refl

    module _ (values : List ℕ) (sized : length values ≡ line_fields) where
      -- the segment that it makes
      pub segment_made : onward (segment counts own) (take segment_fields values) ≡ return (segment_of (number values 0) (number values 1) (number values 2))
      unfolding spelt onward segment
      segment_made = ap (λ (l : List ℕ). onward (segment counts own) (take segment_fields l)) (spelt_out values line_fields sized)

      -- whose fields fit it
      pub segment_fits :
          Allowed (segment counts own) (take segment_fields values) → (number values 0 ≤ store) × (number values 1 ≤ largest) × (number values 2 ≤ largest)
      unfolding spelt Allowed segment
      segment_fits passed =
          let (_, kind, (outflow, _, (next, _, _))) = rw (spelt_out values line_fields sized) at passed in
          (at_most pipeline store (number values 0) kind, outflow, next)

  -- ---- a line
  -- what each field is tested for; the owner's kind is the first number, the class the third
  abbrev pub line_test : (owner_kind class field : ℕ) → ℕ → Bool
  line_test owner_kind class zero = owner_kind_allowed
  line_test owner_kind class (suc zero) = owner_allowed counts owner_kind
  line_test owner_kind class (suc (suc zero)) = class_allowed owner_kind
  line_test owner_kind class (suc (suc (suc zero))) = any_amount
  line_test owner_kind class (suc (suc (suc (suc zero)))) = factor_allowed class
  line_test owner_kind class (suc (suc (suc (suc (suc behind))))) = any_amount

  pub line_tested : (before : List ℕ) (v : ℕ) → allows_next (onward (line counts) before) v ≡ line_test (number before 0) (number before 2) (length before) v
  unfolding onward line
  line_tested [] v = refl
  line_tested (a ∷ []) v = refl
  line_tested (a ∷ b ∷ []) v = refl
  line_tested (a ∷ b ∷ c ∷ []) v = refl
  line_tested (a ∷ b ∷ c ∷ d ∷ []) v = refl
  line_tested (a ∷ b ∷ c ∷ d ∷ e ∷ []) v = refl
  line_tested (a ∷ b ∷ c ∷ d ∷ e ∷ f ∷ behind) v = refl

  -- the others, and behind the last, nothing
  pub line_any :
      (owner_kind class field v : ℕ) → (field ≡ 0 → ⊥) → (field ≡ 1 → ⊥) → (field ≡ 2 → ⊥) → (field ≡ 4 → ⊥) → line_test owner_kind class field v ≡ true
  line_any owner_kind class zero v a b c e = absurd (a refl)
  line_any owner_kind class (suc zero) v a b c e = absurd (b refl)
  line_any owner_kind class (suc (suc zero)) v a b c e = absurd (c refl)
  line_any owner_kind class (suc (suc (suc zero))) v a b c e = refl
  line_any owner_kind class (suc (suc (suc (suc zero)))) v a b c e = absurd (e refl)
  line_any owner_kind class (suc (suc (suc (suc (suc behind))))) v a b c e = refl

  module _ (values : List ℕ) (sized : length values ≡ line_fields) where
    -- the line that it makes
    pub line_made :
        onward (line counts) (take line_fields values)
        ≡ return (line_of (number values 0) (number values 1) (number values 2) (number values 3) (number values 4))
    unfolding spelt onward line
    line_made = ap (λ (l : List ℕ). onward (line counts) (take line_fields l)) (spelt_out values line_fields sized)

    -- whose fields fit it
    pub line_fits :
        Allowed (line counts) (take line_fields values) →
        (number values 0 ≤ segment_owner)
        × (number values 1 ≤ largest)
        × (number values 2 ≤ length classes)
        × (number values 3 ≤ largest)
        × (number values 4 ≤ largest_factor)
    unfolding spelt Allowed line
    line_fits passed =
        let (_, kind, (owner, _, (_, class, (quantity, _, (_, factor, _))))) = rw (spelt_out values line_fields sized) at passed in (
          leb-true (number values 0) segment_owner kind,
          owner,
          (code_within (number values 0) (number values 2) class).1,
          quantity,
          factor_at_most (number values 2) (number values 4) factor,
        )
