-- The CO2 is shared as it was exported, whatever its origin: plants that export the same and have the same first segments start alike.
use Prim.Native.Nat.{ℕ}
use mathlib.Core.Path.{◌≡◌, sym, ◌∙◌}
use mathlib.Core.List.{List, map}
use lib.ListN.{length, length-map, get_or, get_or-map}
use lib.Seq.{ext_get_or}
use Rattle.records.specs.declared.plant.Plant.{Plant}
use Rattle.records.specs.Plants.{no_plant}
use Rattle.accounts.specs.Flow.{nowhere, at_first}

pub same_starts :
    (one two : List Plant) → length two ≡ length one →
    ((index : ℕ) → (get_or two index no_plant).exported ≡ (get_or one index no_plant).exported) →
    ((index : ℕ) → (get_or two index no_plant).first ≡ (get_or one index no_plant).first) →
    map at_first two ≡ map at_first one
same_starts one two count exported first =
    ext_get_or
    nowhere (map at_first two) (map at_first one) (length-map two at_first ∙ count ∙ sym (length-map one at_first))
    (λ index below. get_or-map at_first two index no_plant ∙ same_start index ∙ sym (get_or-map at_first one index no_plant))
  where
    same_start : (index : ℕ) → at_first (get_or two index no_plant) ≡ at_first (get_or one index no_plant)
    same_start index = cc (exported index, first index)
