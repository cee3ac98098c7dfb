-- Records in an array: they were read, and stand in front of what fills the rest; or one is refused.
use Rattle.std.proofs.Common.{◌≡◌, ℕ, ◌-◌, ◌≤◌, min, List, [], replicate, refl, sym, ap, ◌∙◌, true≢false, arith}
use Rattle.fields.specs.declared.spot.Spot.{Spot}
use Rattle.fields.specs.Answers.{Notice}
use Rattle.fields.specs.Lists.{filled}
use Rattle.fields.specs.Spots.{taking_at}
use Rattle.fields.specs.Readers.{Reader, each}
use Rattle.fields.specs.Reaching.{Reach, whole, stopped, reads_from}
use Rattle.fields.proofs.Stages.{Passed, none_passed}
use Rattle.records.specs.declared.counts.Counts.{Counts}
use Rattle.records.specs.declared.plant.Plant.{Plant}
use Rattle.records.specs.Plants.{most_plants, no_plant}
use Rattle.records.specs.Periods.{plant}
use Rattle.reading.specs.Found.{in_array}

module _ {A : Type 0} (none : A) (room : ℕ) where
  -- the records that an array holds, of all that are read up to a spot
  pub record Kept (outcome : Reach (List A)) (array : List A) (next : Spot) : Type 0 where
    pub held : List A
    pub came : outcome ≡ whole held next
    pub filled_so : array ≡ filled none room held

  kept_of : (outcome : Reach (List A)) (array : List A) (next : Spot) → whole array next ≡ in_array none room outcome → Kept outcome array next
  kept_of (whole held to) array next e = record { held = held; came = let same : next ≡ to = cc in rw same refl; filled_so = cc }
  kept_of (stopped notice) array next e = absurd (true≢false (cc))

  stopped_of : (outcome : Reach (List A)) (notice : Notice) → stopped notice ≡ in_array none room outcome → outcome ≡ stopped notice
  stopped_of (whole held to) notice e = absurd (true≢false (cc))
  stopped_of (stopped notice') notice e = sym e

  -- the same of a count of records for which there is room
  module _ (one : ℕ → Reader A) (count : ℕ) (file : List ℕ) (start : Spot) (fits : count ≤ room) where
    abbrev found : Reach (List A)
    found = in_array none room (reads_from (each one 1 (min count room)) file start)

    all_fit : min count room ≡ count
    all_fit = omega arith

    pub all_kept : (array : List A) (next : Spot) → whole array next ≡ found → Kept (reads_from (each one 1 count) file start) array next
    all_kept array next e = kept_of _ array next (rw all_fit at e)

    pub one_stopped : (notice : Notice) → stopped notice ≡ found → reads_from (each one 1 count) file start ≡ stopped notice
    one_stopped notice e = stopped_of _ notice (rw all_fit at e)

-- ---- plants on the way: so many are read, and stand in an array in front of entries without a plant
pub record KeepingPlants (file : List ℕ) (start : Spot) (counts : Counts) (plants : List Plant) (at : Spot) (p : ℕ) : Type 0 where
  pub done : List Plant
  pub passed : Passed (λ (own : ℕ). plant counts) (taking_at file) start counts.plants done at p
  pub kept : plants ≡ filled no_plant most_plants done

-- none is read yet
pub no_plant_kept :
    (file : List ℕ) (start : Spot) (counts : Counts) (plants : List Plant) → plants ≡ replicate most_plants no_plant →
    KeepingPlants file start counts plants start 0
unfolding filled
no_plant_kept file start counts plants none = record {
  done = [];
  passed = none_passed (λ (own : ℕ). plant counts) (taking_at file) start counts.plants;
  kept = let all : most_plants ≡ most_plants - 0 = omega arith in none ∙ ap (λ (n : ℕ). replicate n no_plant) all;
}
