-- Laws of the bytes that belong to a number: how many they are, counted on from one to the next; and that they are those from its first on.
use Prim.Native.Nat.{ℕ, zero, suc, ◌+◌, ◌-◌, ◌≤◌, ◌<◌}
use mathlib.Core.Path.{◌≡◌, refl, ap, ◌∙◌}
use mathlib.Core.Logic.{⊎_elim}
use mathlib.Core.Bool.{Bool, true, false, cond}
use mathlib.Core.List.{List, [], ◌∷◌}
use native.Mathlib.Omega.{arith}
use lib.ListN.{length, take, drop, length-drop}
use lib.Dec.{ltb}
use lib.Seq.{take_all}
use Rattle.std.specs.Prelude.{min, position, Some, None, slice_range}
use Rattle.std.proofs.lemmas.List.{take_min}
use Rattle.std.specs.List.{position_or_len}
use borrow.Author.Tests.{le-leb, lt-leb, le-ltb, lt-ltb, ltb-true, ltb-false}
use Rattle.number.specs.Groups.{follows, own_bytes, most_groups, radix}
use Rattle.number.specs.Reading.{bytes_at}
use Rattle.number.specs.Inside.{is_last}
use Rattle.number.proofs.Gathering.{last_or_more}

-- they are the first bytes, as many as they are
pub own_front : (k : ℕ) (bytes : List ℕ) → take (length (own_bytes k bytes)) bytes ≡ own_bytes k bytes
unfolding own_bytes
own_front zero bytes = refl
own_front (suc k) [] = refl
own_front (suc k) (b ∷ bytes) = by_byte (follows b) (own_front k bytes)
  where
    by_byte :
        (t : Bool) → take (length (own_bytes k bytes)) bytes ≡ own_bytes k bytes →
        take (length (b ∷ cond t (own_bytes k bytes) [])) (b ∷ bytes) ≡ b ∷ cond t (own_bytes k bytes) []
    by_byte true e = ap (λ (s : List ℕ). b ∷ s) e
    by_byte false e = refl

-- no more than there may be, and no more than there are
pub own_most : (k : ℕ) (bytes : List ℕ) → (length (own_bytes k bytes) ≤ k) × (length (own_bytes k bytes) ≤ length bytes)
unfolding own_bytes
own_most zero bytes = (omega arith, omega arith)
own_most (suc k) [] = (omega arith, omega arith)
own_most (suc k) (b ∷ bytes) = by_byte (follows b) (own_most k bytes)
  where
    by_byte :
        (t : Bool) → (length (own_bytes k bytes) ≤ k) × (length (own_bytes k bytes) ≤ length bytes) →
        (length (b ∷ cond t (own_bytes k bytes) []) ≤ suc k) × (length (b ∷ cond t (own_bytes k bytes) []) ≤ suc (length bytes))
    by_byte true (few, inside) = (omega (arith, few), omega (arith, inside))
    by_byte false e = (omega arith, omega arith)

-- ---- how many they are: up to the first byte after which none follows, or all that a number may have, or all that there are
count_is : (k : ℕ) (bytes : List ℕ) → length (own_bytes k bytes) ≡ min (position_or_len is_last (take k bytes) + 1) (length (take k bytes))
unfolding own_bytes
count_is zero bytes = omega arith
count_is (suc k) [] = omega arith
count_is (suc k) (b ∷ bytes) =
    ⊎_elim
    (λ last. rw (lt-leb radix b last, lt-ltb b radix last) (omega arith))
    (λ more. rw (le-leb radix b more, le-ltb b radix more) (omega (arith, count_is k bytes)))
    (last_or_more b)

module _ (file : List ℕ) (at : ℕ) where
  -- the bytes that a number at a byte of the file may have
  abbrev pub most : List ℕ
  most = take most_groups (drop at file)

  -- as the code takes them
  pub most_taken : (bytes : List ℕ) (n : ℕ) → bytes ≡ slice_range file at (length file) → n ≡ min most_groups (length bytes) → take n bytes ≡ most
  most_taken bytes n bytes_are n_is =
      rw n_is (take_min most_groups bytes)
      ∙ ap (take most_groups) (bytes_are ∙ take_all (length file - at) (drop at file) (omega (arith, length-drop at file)))

  -- there is such a byte
  pub up_to_last : (i : ℕ) → position is_last most ≡ Some i → length (bytes_at file at) ≡ i + 1
  up_to_last i found = by_place (ltb (position_or_len is_last most) (length most)) refl found
    where
      by_place :
          (t : Bool) → ltb (position_or_len is_last most) (length most) ≡ t → cond t (Some (position_or_len is_last most)) None ≡ Some i →
          length (bytes_at file at) ≡ i + 1
      by_place true inside found =
          let i_is : position_or_len is_last most ≡ i = cc in
          omega (arith, count_is most_groups (drop at file), ltb-true _ _ inside, i_is)
      by_place false inside found = cc

  -- there is none
  pub all_of_them : position is_last most ≡ None → length (bytes_at file at) ≡ length most
  all_of_them none = by_place (ltb (position_or_len is_last most) (length most)) refl none
    where
      by_place :
          (t : Bool) → ltb (position_or_len is_last most) (length most) ≡ t → cond t (Some (position_or_len is_last most)) None ≡ None →
          length (bytes_at file at) ≡ length most
      by_place true inside none = cc
      by_place false inside none = omega (arith, count_is most_groups (drop at file), ltb-false _ _ inside)

  -- past the end there are none
  pub past_own : length file ≤ at → length (bytes_at file at) ≡ 0
  past_own h = omega (arith, (own_most most_groups (drop at file)).1, length-drop at file)

-- ---- where they are in the file
-- if there are some, they lie within it
pub own_inside : (file : List ℕ) (at count : ℕ) → count ≡ length (bytes_at file at) → 0 < count → at + count ≤ length file
own_inside file at count is some = omega (arith, is, some, (own_most most_groups (drop at file)).1, length-drop at file)

-- and are that part of it
pub own_part : (file : List ℕ) (at count : ℕ) → count ≡ length (bytes_at file at) → take count (drop at file) ≡ bytes_at file at
own_part file at count is = ap (λ (n : ℕ). take n (drop at file)) is ∙ own_front most_groups (drop at file)

-- if there are none, that is no part
pub no_own : (file : List ℕ) (at : ℕ) → length (bytes_at file at) ≡ 0 → bytes_at file at ≡ []
no_own file at none = by_bytes (bytes_at file at) none
  where
    by_bytes : (bytes : List ℕ) → length bytes ≡ 0 → bytes ≡ []
    by_bytes [] none = refl
    by_bytes (byte ∷ bytes) none = absurd (omega (arith, none))
