-- Texts worked out by hand.
use Prim.Native.Nat.{ℕ}
use Prim.Native.Char.{code}
use Prim.Native.String.{String}
use Prim.Native.String as quoted
use mathlib.Core.Path.{◌≡◌, refl}
use mathlib.Core.List.{List, [], ◌∷◌}
use Rattle.std.specs.Prelude.{Ok, Err}
use Rattle.typed.specs.Text.{after, numbers_from, numbers_in, is_stray, before_stray, starts_number, starts_from, starts_in}
use Rattle.typed.specs.Promises.{answer_to}

-- quoted text as bytes
abbrev bytes : String → List ℕ
bytes quoted.[] = []
bytes (quoted.◌∷◌ character rest) = code character ∷ bytes rest

-- ---- two lines with a remark, whose digits do not count
abbrev two_lines : List ℕ
two_lines = bytes "12 7# 5, five\r\n\t300"

pub numbers_of_two_lines : numbers_in two_lines ≡ 12 ∷ 7 ∷ 300 ∷ []
unfolding numbers_from after
numbers_of_two_lines = refl

pub answer_to_two_lines : answer_to two_lines ≡ Ok 3
unfolding numbers_from before_stray is_stray after
answer_to_two_lines = refl

pub starts_of_two_lines : starts_in two_lines ≡ 0 ∷ 3 ∷ 16 ∷ []
unfolding starts_from starts_number after
starts_of_two_lines = refl

-- ---- a comma outside a remark is stray
pub answer_to_a_comma : answer_to (bytes "1 2,3") ≡ Err (record { offset = 3; byte = code "," })
unfolding numbers_from before_stray is_stray after
answer_to_a_comma = refl

-- ---- the limit itself; past it a value is not counted on
pub numbers_at_the_limit : numbers_in (bytes "4000000000 4000000001 400000000100") ≡ 4_000_000_000 ∷ 4_000_000_001 ∷ 4_000_000_001 ∷ []
unfolding numbers_from after
numbers_at_the_limit = refl

-- ---- a text without numbers
pub answer_to_nothing : answer_to [] ≡ Ok 0
unfolding numbers_from before_stray
answer_to_nothing = refl
