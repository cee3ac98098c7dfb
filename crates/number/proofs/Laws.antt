-- The laws of number reading that the layers above cite, in place of its definition.
use Prim.Native.Nat.{ℕ, zero, suc, ◌+◌, ◌≤◌, ◌<◌}
use mathlib.Core.Path.{◌≡◌, refl, sym, ap, ◌∙◌}
use mathlib.Core.List.{List, [], ◌∷◌, ◌++◌}
use native.Mathlib.Nat.{add_assoc, zero-add, suc-add}
use native.Mathlib.Decide.{dec_le}
use native.Mathlib.Omega.{arith}
use lib.ListN.{length, take, drop, length-take, length-drop, drop_of_length-le}
use lib.Seq.{drop-append-le, drop-append-add, take-nil}
use Rattle.number.specs.Groups.{Gathering, gather, most_groups, largest}
use Rattle.number.specs.Reading.{Found, from, found_of, reading, read_at, offset_at, ends, too_large}
use Rattle.number.specs.Reading.Found.{number, fault}
use Rattle.number.proofs.Gathering.{gather_after, gather_take}
use Rattle.number.proofs.FrontGroups.{Fronts, some, most, within, alone}
use Rattle.number.proofs.Findings.{reads, front_reads, at_front, found_fault, from_fault}

-- ---- what is at a byte is what is at the front of the bytes from there on
pub at_byte : (file : List ℕ) (at : ℕ) → read_at file at ≡ from at (reading (drop at file))
unfolding read_at
at_byte file at = refl

-- ---- at the end of the file, and past it, is fault 1
pub nothing_left : reading [] ≡ fault ends
unfolding reading gather
nothing_left = refl

pub past_end : (file : List ℕ) (at : ℕ) → length file ≤ at → read_at file at ≡ fault ends
past_end file at h = at_byte file at ∙ ap (λ (s : List ℕ). from at (reading s)) (drop_of_length-le file h) ∙ ap (from at) nothing_left

-- ---- bounds: a number takes one byte to five, all of them there, and its value is within the limit
pub record Size (bytes : List ℕ) (v n : ℕ) : Type 0 where
  pub one : 0 < n
  pub five : n ≤ most_groups
  pub inside : n ≤ length bytes
  pub small : v ≤ largest

-- every number at the front of some bytes has that size
pub size : (bytes : List ℕ) (v n : ℕ) → reading bytes ≡ number v n → Size bytes v n
size bytes v n e =
    let r = reads bytes v n e in
    let is = r.formed_so.size_is in
    record {
      one = rw is at (some r.front);
      five = rw is at (most r.front);
      inside = rw is at (within r.front);
      small = r.formed_so.small;
    }

-- the same of a number at a byte, counted from the start of the file
pub record Bounds (file : List ℕ) (at v n : ℕ) : Type 0 where
  pub later : at < n
  pub near : n ≤ at + most_groups
  pub inside : n ≤ length file
  pub small : v ≤ largest

-- every number at a byte has these bounds
pub bounds : (file : List ℕ) (at v n : ℕ) → read_at file at ≡ number v n → Bounds file at v n
bounds file at v n e =
    let (m, q, next_is) = at_front file at v n e in
    let s = size (drop at file) v m q in
    let left = length-drop at file in
    record { later = omega arith; near = omega arith; inside = omega arith; small = s.small }

-- ---- the offset of what is at a byte of the file is that byte, and it never lies past the end
pub offset_inside : (file : List ℕ) (at : ℕ) → at ≤ length file → offset_at file at ≡ at
offset_inside file at inside = omega (arith, inside)

pub offset_most : (file : List ℕ) (at : ℕ) → offset_at file at ≤ length file
offset_most file at = omega arith

-- a number that is there starts at it
pub offset_of_number : (file : List ℕ) (at v n : ℕ) → read_at file at ≡ number v n → offset_at file at ≡ at
offset_of_number file at v n e = let b = bounds file at v n e in omega (arith, b.later, b.inside)

-- ---- a fault is one of three
pub front_faults : (bytes : List ℕ) (k : ℕ) → reading bytes ≡ fault k → (ends ≤ k) × (k ≤ too_large)
unfolding reading
front_faults bytes k e = found_fault (gather most_groups bytes) k e

pub faults : (file : List ℕ) (at k : ℕ) → read_at file at ≡ fault k → (ends ≤ k) × (k ≤ too_large)
faults file at k e = front_faults (drop at file) k (from_fault at (reading (drop at file)) k (sym (at_byte file at) ∙ e))

-- ---- what comes before the number does not matter
-- counting on from n and then from m is counting on from m + n
from_from : (m n : ℕ) (a : Found) → from m (from n a) ≡ from (m + n) a
from_from m n (number v k) = ap (number v) (sym (add_assoc m n k))
from_from m n (fault k) = refl

-- so behind other bytes there is the same, further on by as many bytes
pub what_precedes : (p file : List ℕ) (at : ℕ) → read_at (p ++ file) (length p + at) ≡ from (length p) (read_at file at)
unfolding read_at
what_precedes p file at =
    ap (λ (s : List ℕ). from (length p + at) (reading s)) (drop-append-add p file at)
    ∙ sym (from_from (length p) at (reading (drop at file)))

-- ---- nor what comes after it, unless the bytes end in it
pub front_follows : (bytes t : List ℕ) → (reading bytes ≡ fault ends → ⊥) → reading (bytes ++ t) ≡ reading bytes
unfolding reading
front_follows bytes t h = ap found_of (gather_after most_groups bytes t (λ e. h (ap found_of e)))

pub what_follows : (file t : List ℕ) (at : ℕ) → (read_at file at ≡ fault ends → ⊥) → read_at (file ++ t) at ≡ read_at file at
unfolding read_at
what_follows file t at h = by_end (dec_le at (length file))
  where
    by_end : Dec (at ≤ length file) → read_at (file ++ t) at ≡ read_at file at
    by_end (yes q) =
        ap (λ (s : List ℕ). from at (reading s)) (drop-append-le at file t q)
        ∙ ap (from at) (front_follows (drop at file) t (λ e. h (ap (from at) e)))
    by_end (no q) = absurd (h (past_end file at (omega arith)))

-- ---- which bytes are looked at
-- the first n + m elements, from the n-th on
drop_take : (n m : ℕ) (l : List ℕ) → drop n (take (n + m) l) ≡ take m (drop n l)
drop_take zero m l = rw (zero-add m)
drop_take (suc n) m [] = rw (suc-add n m) (sym (take-nil m))
drop_take (suc n) m (x ∷ l) = rw (suc-add n m) (drop_take n m l)

-- no more than five bytes from there on are looked at
pub only_five_bytes : (file : List ℕ) (at : ℕ) → read_at (take (at + most_groups) file) at ≡ read_at file at
unfolding read_at reading
only_five_bytes file at =
    ap (λ (g : Gathering). from at (found_of g))
    (ap (gather most_groups) (drop_take at most_groups file) ∙ gather_take most_groups (drop at file))

-- a number that was read is read as well if its last byte is the file's last, and if anything else follows
pub only_its_bytes : (file t : List ℕ) (at v n : ℕ) → read_at file at ≡ number v n → read_at (take n file ++ t) at ≡ number v n
unfolding read_at
only_its_bytes file t at v n e =
    let (m, q, next_is) = at_front file at v n e in
    let r = reads (drop at file) v m q in
    let b = bounds file at v n e in
    let here : at ≤ length (take n file) = omega (arith, length-take n file) in
    let from_there : drop at (take n file) ≡ take m (drop at file) =
    ap (λ (x : ℕ). drop at (take x file)) next_is ∙ drop_take at m file in
    let part : drop at (take n file ++ t) ≡ take m (drop at file) ++ t = drop-append-le at (take n file) t here ∙ rw from_there in
    let front : Fronts most_groups (take m (drop at file) ++ t) r.groups = rw r.formed_so.size_is at (alone t r.front) in
    ap (λ (s : List ℕ). from at (reading s)) part
    ∙ ap (from at) (front_reads (take m (drop at file) ++ t) r.groups v m front r.formed_so)
    ∙ ap (number v) (sym next_is)
