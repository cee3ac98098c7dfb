-- Text in a buffer: piece after piece is the whole, and text that has room is in the buffer.
use Prim.Native.Nat.{ℕ, suc, ◌+◌, ◌≤◌, ◌<◌, min}
use mathlib.Core.Path.{◌≡◌, refl, sym, ap, ◌∙◌}
use mathlib.Core.List.{List, [], ◌∷◌, ◌++◌}
use native.Mathlib.Nat.{add-zero}
use native.Mathlib.Decide.{dec_le}
use native.Mathlib.Numerals.{add-one}
use native.Mathlib.Omega.{arith}
use lib.ListN.{length, take, drop, get_or, set, length-append}
use lib.Seq.{sets, sets-eq, length-sets, set_out, take-suc, take_all, take_at}
use mathlib.Core.Bool.{Bool}
use borrow.Author.Tests.{le-leb}
use Rattle.std.proofs.Common.{Bor, true≢false}
use Rattle.std.specs.Prelude.{Option, Some, None, IsSome, cond, option_copied}
use Rattle.output.specs.Put.{Put, Holds, WholePromise}
use Rattle.output.specs.HandedOver.{HandedOver}

-- ---- bytes stored one after another
-- one list after another
sets_append : (buffer : List ℕ) (at : ℕ) (front back : List ℕ) → sets buffer at (front ++ back) ≡ sets (sets buffer at front) (at + length front) back
sets_append buffer at [] back = rw (add-zero at) refl
sets_append buffer at (byte ∷ front) back =
    let one_on : suc at + length front ≡ at + suc (length front) = omega arith in
    sets_append (set buffer at byte) (suc at) front back
    ∙ ap (λ (end : ℕ). sets (sets (set buffer at byte) (suc at) front) end back) one_on

-- past the buffer nothing is stored
sets_out : (buffer : List ℕ) (at : ℕ) (text : List ℕ) → length buffer ≤ at → sets buffer at text ≡ buffer
sets_out buffer at [] past = refl
sets_out buffer at (byte ∷ text) past = rw (set_out buffer at byte past) (sets_out buffer (suc at) text (omega arith))

-- ---- pieces of text
-- from the byte past the buffer on, one byte is like another
sets_past :
    (buffer : List ℕ) (at : ℕ) (text : List ℕ) → sets buffer (min at (suc (length buffer))) text ≡ sets buffer at text
sets_past buffer at text = by_room (dec_le at (suc (length buffer)))
  where
    by_room : Dec (at ≤ suc (length buffer)) → sets buffer (min at (suc (length buffer))) text ≡ sets buffer at text
    by_room (yes near) = let same : min at (suc (length buffer)) ≡ at = omega arith in rw same refl
    by_room (no far) =
        sets_out buffer (min at (suc (length buffer))) text (omega (arith, far)) ∙ sym (sets_out buffer at text (omega (arith, far)))

-- a buffer keeps its length
pub put_length :
    {text : List ℕ} {at : ℕ} {buffer : List ℕ} {end : ℕ} {buffer' : List ℕ} → Put text at buffer end buffer' → length buffer' ≡ length buffer
put_length {text} {at} {buffer} put = ap length put.stands ∙ length-sets buffer at text

-- behind what was put, no text leaves all as it is
pub put_nothing :
    {text : List ℕ} {at : ℕ} {buffer : List ℕ} {end : ℕ} {buffer' : List ℕ} → Put text at buffer end buffer' → Put [] end buffer' end buffer'
put_nothing {text} {at} {buffer} {end} {buffer'} put =
    record { ends = omega (arith, put.ends, put_length put); stands = refl }

-- text behind text is one text
pub put_then :
    {front back : List ℕ} {at : ℕ} {buffer : List ℕ} {middle : ℕ} {buffer' : List ℕ} {end : ℕ} {buffer'' : List ℕ} →
    Put front at buffer middle buffer' → Put back middle buffer' end buffer'' → Put (front ++ back) at buffer end buffer''
put_then {front} {back} {at} {buffer} {middle} {buffer'} {end} {buffer''} first second =
    let as_long = put_length first in
    let between : middle ≡ min (at + length front) (suc (length buffer')) = omega (arith, first.ends) in
    record {
      ends = omega (arith, length-append front back, first.ends, second.ends);
      stands =
          second.stands
          ∙ ap (λ (start : ℕ). sets buffer' start back) between
          ∙ sets_past buffer' (at + length front) back
          ∙ ap (λ (before : List ℕ). sets before (at + length front) back) first.stands
          ∙ sym (sets_append buffer at front back);
    }

-- ---- words put byte by byte
module _ {at : ℕ} {buffer : List ℕ} {end : ℕ} {buffer' : List ℕ} where
  -- one byte more
  pub byte_more :
      (words : List ℕ) (i : ℕ) {end' : ℕ} {buffer'' : List ℕ} → i < length words → Put (take i words) at buffer end buffer' →
      Put (get_or words i 0 ∷ []) end buffer' end' buffer'' → Put (take (i + 1) words) at buffer end' buffer''
  byte_more words i inside past next = rw (add-one i, take-suc words i 0 inside) (put_then past next)

  -- all are put
  pub bytes_all : (words : List ℕ) (i : ℕ) → length words ≤ i → Put (take i words) at buffer end buffer' → Put words at buffer end buffer'
  bytes_all words i all past = rw (take_all i words all) at past

-- ---- text that ends within its room is whole
pub whole_text : (end : ℕ) (room : List ℕ) {r : Option (List ℕ)} → WholePromise end room r → end ≤ length room → r ≡ Some (take end room)
whole_text end room promised within = promised ∙ ap (λ (t : Bool). cond t (Some (take end room)) None) (le-leb end (length room) within)

-- so there is a reference to it
none≢some : {text : List ℕ} → (λ (r : Option (List ℕ)). r) None ≡ Some text → ⊥
none≢some e = true≢false (cc)

pub is_whole : (end : ℕ) (room : List ℕ) (r : Option (Bor (List ℕ))) → WholePromise end room (option_copied r) → end ≤ length room → IsSome r
is_whole end room (Some text) promised within = refl
is_whole end room None promised within = absurd (none≢some (whole_text end room promised within))

-- ---- text that has room, put at the start of a buffer
module _ {text buffer : List ℕ} {end : ℕ} {buffer' : List ℕ} (put : Put text 0 buffer end buffer') (room : length text ≤ length buffer) where
  ends_with_it : end ≡ length text
  ends_with_it = omega (arith, put.ends)

  -- it ends within the buffer
  pub put_within : end ≤ length buffer'
  put_within = omega (arith, ends_with_it, put_length put)

  -- and the bytes up to its end are the text
  pub put_whole : take end buffer' ≡ text
  put_whole =
      ap (λ (after : List ℕ). take end after) (put.stands ∙ sets-eq text buffer 0 (omega (arith, room)))
      ∙ take_at text (drop (0 + length text) buffer) end (sym ends_with_it)

-- what is handed over of a room's front is the text that the room holds, if it is as much of it
pub held_handed :
    {text room : List ℕ} {end given : ℕ} {answered : Option (List ℕ)} → Holds text end room → HandedOver answered (take given room) → given ≡ end → HandedOver answered text
held_handed holds handed is = rw (sym holds.stands, sym is) handed
