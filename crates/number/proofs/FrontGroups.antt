-- The groups of a whole number at the front of some bytes, as a relation: what gathering finds, in a form for induction.
use Prim.Native.Nat.{ℕ, zero, suc, ◌%◌, ◌≤◌, ◌<◌}
use mathlib.Core.Path.{◌≡◌, refl, sym, ap, ◌∙◌}
use mathlib.Core.List.{List, [], ◌∷◌, ◌++◌}
use mathlib.Core.Logic.{⊎_elim}
use mathlib.Core.Bool.{true≢false}
use native.Mathlib.Nat.{mod-lt}
use native.Mathlib.Omega.{arith}
use lib.ListN.{length, take}
use lib.Dec.{lit<}
use Rattle.number.specs.Groups.{Gathering, before, gather, radix}
use Rattle.number.specs.Inside.{AreGroups}
use Rattle.number.specs.Groups.Gathering.{whole, cut, long}
use Rattle.number.specs.Inside.AreGroups.{none, more}
use Rattle.number.proofs.Gathering.{gather_more, gather_last, last_or_more}

-- `Fronts k s gs`: a number of at most k groups is at the front of s, and gs are its groups
pub data Fronts : ℕ → List ℕ → List ℕ → Type 0 where
  last_group : {k b : ℕ} {s : List ℕ} → b < radix → Fronts (suc k) (b ∷ s) (b % radix ∷ [])
  group_before : {k b : ℕ} {s gs : List ℕ} → radix ≤ b → Fronts k s gs → Fronts (suc k) (b ∷ s) (b % radix ∷ gs)

-- what is there is gathered
pub gathers : {k : ℕ} {s gs : List ℕ} → Fronts k s gs → gather k s ≡ whole gs
gathers (last_group {k} {b} {s} h) = gather_last k b s h
gathers (group_before {k} {b} {s} h r) = gather_more k b s h ∙ ap (before (b % radix)) (gathers r)

-- a group before what was gathered is whole only before a whole
before_whole : (g : ℕ) (r : Gathering) (gs : List ℕ) → before g r ≡ whole gs → (hs : List ℕ) × (r ≡ whole hs) × (gs ≡ g ∷ hs)
before_whole g (whole hs) gs e = (hs, refl, cc)
before_whole g cut gs e = absurd (true≢false (cc))
before_whole g long gs e = absurd (true≢false (cc))

-- and what is gathered as a whole number is there
pub fronts : (k : ℕ) (s gs : List ℕ) → gather k s ≡ whole gs → Fronts k s gs
unfolding gather
fronts zero s gs e = absurd (true≢false (cc))
fronts (suc k) [] gs e = absurd (true≢false (cc))
fronts (suc k) (b ∷ s) gs e =
    ⊎_elim
    (λ h. let q : gs ≡ b % radix ∷ [] = cc (gather_last k b s h) in rw q (last_group h))
    (λ h.
    let (hs, r, q) = before_whole (b % radix) (gather k s) gs (sym (gather_more k b s h) ∙ e) in
    rw q (group_before h (fronts k s hs r)))
    (last_or_more b)

-- ---- these are groups, at least one, no more than there may be, and no more than there are bytes
pub are_groups : {k : ℕ} {s gs : List ℕ} → Fronts k s gs → AreGroups gs
are_groups (last_group {b = b} h) = more (mod-lt b (lit< tt)) none
are_groups (group_before {b = b} h r) = more (mod-lt b (lit< tt)) (are_groups r)

pub some : {k : ℕ} {s gs : List ℕ} → Fronts k s gs → 0 < length gs
some (last_group h) = omega arith
some (group_before h r) = omega arith

pub most : {k : ℕ} {s gs : List ℕ} → Fronts k s gs → length gs ≤ k
most (last_group h) = omega arith
most (group_before h r) = let i = most r in omega arith

pub within : {k : ℕ} {s gs : List ℕ} → Fronts k s gs → length gs ≤ length s
within (last_group h) = omega arith
within (group_before h r) = let i = within r in omega arith

-- ---- what comes after the number does not matter
pub alone : {k : ℕ} {s gs : List ℕ} (t : List ℕ) → Fronts k s gs → Fronts k (take (length gs) s ++ t) gs
alone t (last_group h) = last_group h
alone t (group_before h r) = group_before h (alone t r)
