-- What the private functions say to each other of the groups of a number. No promise of a public function rests on it.
use Rattle.std.specs.Prelude.{ℕ, Bool, nat_lt, Result, Ok, Err, ◌-◌, ◌≤◌, ◌<◌, ◌≡◌, List, [], ◌∷◌, length, get_or, take}
use Rattle.number.specs.declared.Fault.{Fault}
use Rattle.number.specs.declared.Fault.TheVariants.{Ends, NotShortest, TooLarge}
use Rattle.number.specs.Groups.{gather, most_groups, radix}
use Rattle.number.specs.Groups.Gathering.{whole, cut, long}

-- Each is a group: below 128.
pub data AreGroups : List ℕ → Type 0 where
  none : AreGroups []
  more : {g : ℕ} {gs : List ℕ} → g < radix → AreGroups gs → AreGroups (g ∷ gs)

-- How the code keeps groups: the first count of the array, and the last of these by itself.
pub record Kept (all : List ℕ) (count last : ℕ) : Type 0 where
  pub room : length all ≡ most_groups
  pub some : 0 < count
  pub within : count ≤ most_groups
  pub are_groups : AreGroups (take count all)
  pub at_last : get_or all (count - 1) 0 ≡ last

-- What gathering says of the bytes: the groups at their front; or that they end first; or that there are more groups than a number may have.
abbrev pub Gathered : (bytes : List ℕ) → Result (List ℕ) Fault → Type 0
Gathered bytes (Ok groups) = gather most_groups bytes ≡ whole groups
Gathered bytes (Err Ends) = gather most_groups bytes ≡ cut
Gathered bytes (Err NotShortest) = ⊥
Gathered bytes (Err TooLarge) = gather most_groups bytes ≡ long

-- Whether none follows a byte (rule 1.1).
abbrev pub is_last : ℕ → Bool
is_last byte = nat_lt byte radix
