-- What the tests of fields give, each by the facts that decide it.
use Prim.Native.Nat.{ℕ, suc, ◌≤◌, ◌<◌}
use mathlib.Core.Path.{◌≡◌, refl, sym, ◌∙◌}
use mathlib.Core.Bool.{Bool, true, false, ◌&&◌, or-false}
use mathlib.Core.Logic.{◌⊎◌, inl, inr, ⊎_elim}
use native.Mathlib.Decide.{dec_le}
use native.Mathlib.Omega.{arith}
use lib.Dec.{eqb}
use borrow.Author.Tests.{eq-eqb, ne_eqb, eqb-true, eqb-false}
use Rattle.fields.specs.Ranges.{within}
use Rattle.fields.proofs.Ranges.{in_range, above_range, either, second, at_most, at_least}
use Rattle.records.specs.declared.counts.Counts.{Counts}
use Rattle.records.specs.Segments.{kind_allowed, next_allowed, pipeline, intermediate_storage, store}
use Rattle.records.specs.Classes.{plant_owner, segment_owner}
use Rattle.records.specs.Lines.{owner_allowed}

-- ---- which of two numbers is named first does not matter
pub eqb_sym : (a b : ℕ) → eqb a b ≡ eqb b a
eqb_sym a b = by_test (eqb b a) refl
  where
    by_test : (t : Bool) → eqb b a ≡ t → eqb a b ≡ t
    by_test true e = eq-eqb a b (sym (eqb-true b a e))
    by_test false e = ne_eqb a b (λ same. eqb-false b a e (sym same))

-- ---- what a test that passed says
-- a next segment is one of the period's, or none
pub next_at_most : (counts : Counts) (own kind next : ℕ) → next_allowed counts own kind next ≡ true → next ≤ counts.segments
next_at_most counts own kind next h =
    let segments = counts.segments in
    ⊎_elim
    (λ a. at_most (suc own) segments next (second (within pipeline intermediate_storage kind) (within (suc own) segments next) a))
    (λ b. let none : next ≡ 0 = eqb-true next 0 (second (eqb kind store) (eqb next 0) b) in omega arith)
    (either (within pipeline intermediate_storage kind && within (suc own) segments next) (eqb kind store && eqb next 0) h)

-- an owner's number is no more than the most of either kind
pub owner_at_most :
    (counts : Counts) (owner_kind owner most : ℕ) → counts.plants ≤ most → counts.segments ≤ most → owner_allowed counts owner_kind owner ≡ true → owner ≤ most
owner_at_most counts owner_kind owner most p q h =
    let plants = counts.plants in
    let segments = counts.segments in
    ⊎_elim
    (λ a. let k = at_most 1 plants owner (second (eqb owner_kind plant_owner) (within 1 plants owner) a) in omega arith)
    (λ b. let k = at_most 1 segments owner (second (eqb owner_kind segment_owner) (within 1 segments owner) b) in omega arith)
    (either (eqb owner_kind plant_owner && within 1 plants owner) (eqb owner_kind segment_owner && within 1 segments owner) h)

-- ---- the next segment, by the kind
module _ (counts : Counts) (own kind next : ℕ) where
  -- kinds 1 to 5
  pub next_after : pipeline ≤ kind → kind ≤ intermediate_storage → next_allowed counts own kind next ≡ within (suc own) counts.segments next
  next_after p q =
      rw (in_range pipeline intermediate_storage kind p q, ne_eqb kind store (λ e. omega arith)) (or-false (within (suc own) counts.segments next))

  -- a store
  pub next_none : kind ≡ store → next_allowed counts own kind next ≡ eqb next 0
  next_none e = rw (above_range pipeline intermediate_storage kind (omega arith), eq-eqb kind store e) refl

-- ---- the owner, by its kind
module _ (counts : Counts) (owner_kind owner : ℕ) where
  -- a plant
  pub owner_plant : owner_kind ≡ plant_owner → owner_allowed counts owner_kind owner ≡ within 1 counts.plants owner
  owner_plant e = rw (eq-eqb owner_kind plant_owner e, ne_eqb owner_kind segment_owner (λ h. omega arith)) (or-false (within 1 counts.plants owner))

  -- a segment
  pub owner_segment : owner_kind ≡ segment_owner → owner_allowed counts owner_kind owner ≡ within 1 counts.segments owner
  owner_segment e = rw (ne_eqb owner_kind plant_owner (λ h. omega arith), eq-eqb owner_kind segment_owner e) refl

-- ---- what they are if the test passed: the next segment, by the kind
pub next_is :
    (counts : Counts) (own kind next : ℕ) → kind_allowed kind ≡ true → next_allowed counts own kind next ≡ true →
    (next ≡ 0) ⊎ ((own < next) × (next ≤ counts.segments))
next_is counts own kind next k h = by_kind (dec_le kind intermediate_storage)
  where
    by_kind : Dec (kind ≤ intermediate_storage) → (next ≡ 0) ⊎ ((own < next) × (next ≤ counts.segments))
    by_kind (yes p) =
        let e : within (suc own) counts.segments next ≡ true = sym (next_after counts own kind next (at_least pipeline store kind k) p) ∙ h in
        inr (at_least (suc own) counts.segments next e, at_most (suc own) counts.segments next e)
    by_kind (no p) =
        let last : kind ≡ store = omega (arith, at_most pipeline store kind k) in
        inl (eqb-true next 0 (sym (next_none counts own kind next last) ∙ h))

-- an owner of either kind has a number
pub some_owner : (counts : Counts) (owner_kind owner : ℕ) → owner_kind ≤ segment_owner → owner_allowed counts owner_kind owner ≡ true → 1 ≤ owner
some_owner counts owner_kind owner k h = by_kind (dec_le owner_kind plant_owner)
  where
    by_kind : Dec (owner_kind ≤ plant_owner) → 1 ≤ owner
    by_kind (yes p) = at_least 1 counts.plants owner (sym (owner_plant counts owner_kind owner (omega arith)) ∙ h)
    by_kind (no p) = at_least 1 counts.segments owner (sym (owner_segment counts owner_kind owner (omega arith)) ∙ h)
