-- The fields of the header by their index: with which reason each is refused, what each is tested for, and the counts that the numbers make that an array has in front.
use Prim.Native.Nat.{ℕ, zero, suc, ◌<◌}
use mathlib.Core.Path.{◌≡◌, refl, ap}
use mathlib.Core.Bool.{Bool, true}
use mathlib.Core.List.{List, [], ◌∷◌}
use native.Mathlib.Omega.{arith}
use lib.Dec.{eqb}
use lib.ListN.{length, get_or, take}
use Rattle.fields.specs.declared.reason.Reason.TheVariants.{Ends}
use Rattle.fields.specs.Ranges.{any_amount}
use Rattle.fields.specs.Readers.{return, onward, allows_next}
use Rattle.fields.proofs.ByIndex.{number, spelt, spelt_out}
use Rattle.records.specs.declared.counts.Counts.{Counts}
use Rattle.records.specs.Plants.{plants_allowed}
use Rattle.records.specs.Segments.{segments_allowed}
use Rattle.records.specs.Lines.{line_fields, lines_allowed}
use Rattle.records.specs.Headers.{edition, announced, header, header_fields}
use Rattle.records.specs.FieldTests.{header_reason}
use Rattle.records.specs.Kinds.{header_reasons}

-- the reason of each is the one that it is refused for
pub header_reason_lem : (field : ℕ) → field < header_fields → get_or header_reasons field Ends ≡ header_reason field
header_reason_lem zero here = refl
header_reason_lem (suc zero) here = refl
header_reason_lem (suc (suc zero)) here = refl
header_reason_lem (suc (suc (suc zero))) here = refl
header_reason_lem (suc (suc (suc (suc behind)))) here = absurd (omega (arith, here))

-- what each field is tested for
abbrev pub header_test : ℕ → ℕ → Bool
header_test zero = eqb edition
header_test (suc zero) = plants_allowed
header_test (suc (suc zero)) = segments_allowed
header_test (suc (suc (suc zero))) = lines_allowed
header_test (suc (suc (suc (suc behind)))) = any_amount

pub header_tested : (before : List ℕ) (v : ℕ) → allows_next (onward header before) v ≡ header_test (length before) v
unfolding onward header
header_tested [] v = refl
header_tested (a ∷ []) v = refl
header_tested (a ∷ b ∷ []) v = refl
header_tested (a ∷ b ∷ c ∷ []) v = refl
header_tested (a ∷ b ∷ c ∷ d ∷ []) v = refl
header_tested (a ∷ b ∷ c ∷ d ∷ e ∷ behind) v = refl

-- behind the last nothing
pub header_any :
    (field v : ℕ) → (field ≡ 0 → ⊥) → (field ≡ 1 → ⊥) → (field ≡ 2 → ⊥) → (field ≡ 3 → ⊥) → header_test field v ≡ true
header_any zero v a b c d = absurd (a refl)
header_any (suc zero) v a b c d = absurd (b refl)
header_any (suc (suc zero)) v a b c d = absurd (c refl)
header_any (suc (suc (suc zero))) v a b c d = absurd (d refl)
header_any (suc (suc (suc (suc behind)))) v a b c d = refl

module _ (values : List ℕ) (sized : length values ≡ line_fields) where
  abbrev counted : Counts
  counted = announced (number values 1) (number values 2) (number values 3)

  -- the counts that it makes
  pub header_made : onward header (take header_fields values) ≡ return counted
  unfolding spelt onward header
  header_made = ap (λ (l : List ℕ). onward header (take header_fields l)) (spelt_out values line_fields sized)
