-- The plants at their start, put there one after another.
use Rattle.std.proofs.Common.{◌≡◌, ℕ, zero, suc, ◌+◌, ◌*◌, ◌%◌, ◌^◌, ◌≤◌, ◌<◌, Bool, true, false, cond, eqb, List, [], ◌∷◌, ◌++◌, map, length, get_or, take, replicate, bit_or, refl, sym, ap, ◌∙◌, add-one, arith}
use mathlib.Core.List.{map-append}
use lib.ListN.{length-map, get_or-map}
use lib.Seq.{take-suc, take-length, length-take-le}
use Rattle.fields.specs.Lists.{Each}
use Rattle.records.specs.declared.plant.Plant.{Plant}
use Rattle.records.specs.Plants.{most_plants, no_plant}
use Rattle.records.specs.Segments.{most_segments}
use Rattle.records.specs.Within.{PlantWithin, most_counts}
use Rattle.records.proofs.Within.{each_at}
use Rattle.accounts.specs.Flow.{Standing, at_first, passes, brings}
use Rattle.accounts.specs.Accounts.{set_of}
use Rattle.accounts.proofs.Sets.{set_with, set_without}
use Rattle.settling.specs.declared.flow.Books.{Books}
use Rattle.settling.specs.Books.{brought, SetsHold, Blank, Brought, Started}
use Rattle.settling.proofs.Cells.{UpTo, none_yet, brought_on}
use Rattle.settling.proofs.Joining.{with_members, members_join, bit}
use Rattle.settling.proofs.OnePlantsTurn.{eqb_sym}

-- every plant's first segment has its place in the books
pub within : (plants : List Plant) (p : ℕ) → p < length plants → Each (PlantWithin most_counts) 1 plants → PlantWithin most_counts (suc p) (get_or plants p no_plant)
within plants p more each = each_at (PlantWithin most_counts) 1 plants p no_plant (suc p) (omega arith) more each

pub first_least : (plants : List Plant) (p : ℕ) → Each (PlantWithin most_counts) 1 plants → p < length plants → 1 ≤ (get_or plants p no_plant).first
first_least plants p each more = (within plants p more each).some_first

pub first_most : (plants : List Plant) (p : ℕ) → Each (PlantWithin most_counts) 1 plants → p < length plants → (get_or plants p no_plant).first ≤ most_segments
first_most plants p each more = (within plants p more each).first

-- one plant more goes into the set of its first segment
joins :
    (standings : List Standing) (plant : Plant) (p : ℕ) (sets : List ℕ) →
    length standings ≡ p → p < most_plants → 1 ≤ plant.first → plant.first ≤ length sets → SetsHold standings 0 sets →
    SetsHold (standings ++ (at_first plant ∷ [])) 0 (with_members sets plant.first (1 * 2 ^ p % 2 ^ 32))
joins standings plant p sets so_many few some fits hold s low high =
    members_join sets plant.first (1 * 2 ^ p % 2 ^ 32) some fits s
    ∙ rw (bit p few, hold s low high, eqb_sym (suc s) plant.first, ← so_many) (by_test (passes (suc s) (at_first plant)) refl)
  where
    by_test :
        (t : Bool) → passes (suc s) (at_first plant) ≡ t →
        cond t (bit_or (set_of (suc s) 0 standings) (2 ^ length standings)) (set_of (suc s) 0 standings) ≡ set_of (suc s) 0 (standings ++ (at_first plant ∷ []))
    by_test true e = set_with (suc s) standings (at_first plant) e
    by_test false e = sym (set_without (suc s) standings (at_first plant) e)

-- a plant brings to its first segment what it exported, and nothing to others
placed : (plant : Plant) (n : ℕ) → cond (eqb n plant.first) plant.exported 0 ≡ brings n (at_first plant)
placed plant n = ap (λ (t : Bool). cond t plant.exported 0) (eqb_sym n plant.first)

-- ---- in books in which nothing is written yet, nobody brings anything
abbrev pub zeros : ℕ → List ℕ
zeros count = replicate count 0

pub no_amount : (count i : ℕ) → get_or (zeros count) i 0 ≡ 0
no_amount zero i = refl
no_amount (suc count) zero = refl
no_amount (suc count) (suc i) = no_amount count i

no_cell : (plants segments p s : ℕ) → get_or (get_or (replicate plants (zeros segments)) p []) s 0 ≡ 0
no_cell zero segments p s = refl
no_cell (suc plants) segments zero s = no_amount segments s
no_cell (suc plants) segments (suc p) s = no_cell plants segments p s

pub none_brought : (p n : ℕ) → get_or (get_or (zeros most_plants) p 0 ∷ get_or (replicate most_plants (zeros most_segments)) p []) n 0 ≡ 0
none_brought p zero = no_amount most_plants p
none_brought p (suc s) = no_cell most_plants most_segments p s

-- ---- the loop: p plants are at their start, and the others nowhere
pub record AtStart (plants : List Plant) (p : ℕ) (books : Books) : Type 0 where
  pub plants_are : books.plants ≡ length plants
  pub amounts : (n : ℕ) → UpTo p (λ q. brings n (at_first (get_or plants q no_plant))) (λ q. 0) (λ q. brought books q n)
  pub members : SetsHold (map at_first (take p plants)) 0 books.sets

-- none, before the first turn
pub none_started : {plants : List Plant} {books : Books} → Blank (length plants) books → AtStart plants 0 books
unfolding set_of
none_started blank =
    record { plants_are = blank.plants_are; amounts = λ n. none_yet (λ q. blank.amounts q n); members = λ s low high. blank.members s }

module _ {plants : List Plant} {p : ℕ} {books : Books} (so_far : AtStart plants p books) where
  -- one more is at its start, and in the set of its first segment
  pub one_placed :
      {books' : Books} → let plant = get_or plants p no_plant in Brought p plant.first plant.exported books books' →
      (n : ℕ) → UpTo (p + 1) (λ q. brings n (at_first (get_or plants q no_plant))) (λ q. 0) (λ q. brought books' q n)
  one_placed put n = brought_on put n (so_far.amounts n) (placed (get_or plants p no_plant) n)

  pub one_joined :
      let plant = get_or plants p no_plant in p < length plants → PlantWithin most_counts (suc p) plant →
      (sets : List ℕ) → sets ≡ books.sets → SetsHold (map at_first (take (p + 1) plants)) 0 (with_members sets plant.first (1 * 2 ^ p % 2 ^ 32))
  one_joined more w sets same =
      rw (same, add-one, take-suc plants p no_plant more, map-append at_first (take p plants) (get_or plants p no_plant ∷ []))
      (joins (map at_first (take p plants)) (get_or plants p no_plant) p books.sets
      (length-map (take p plants) at_first ∙ length-take-le p plants (omega (arith, more)))
      (omega (arith, more, so_far.plants_are, books.few)) w.some_first (omega (arith, w, books.sets_sized)) so_far.members)

-- all, after the last turn
pub all_started : {plants : List Plant} {p : ℕ} {books : Books} → AtStart plants p books → p ≡ length plants → Started plants books
all_started {plants} {p} {books} now all = record {
  plants_are = now.plants_are;
  amounts = λ q n here ahead.
      (now.amounts n).done q (omega (arith, here, all, length-map plants at_first)) ∙ ap (brings n) (sym (get_or-map at_first plants q no_plant));
  members = rw (all, take-length) at now.members;
}
