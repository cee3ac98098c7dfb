-- The numbers of a text that is not too long have room, and are those of the list.
use Prim.Native.Nat.{ℕ, ◌*◌, ◌≤◌}
use Rattle.std.proofs.Common.{Ok, Err}
use mathlib.Core.Path.{◌≡◌, refl, sym, ap, ◌∙◌}
use mathlib.Core.Bool.{Bool, true, false, cond, true≢false}
use mathlib.Core.List.{List}
use native.Mathlib.Omega.{arith}
use lib.Dec.{ltb}
use lib.ListN.{length, take, length-replicate}
use borrow.Author.Tests.{ltb-false}
use Rattle.plain.specs.Bytes.{number_bytes, table_numbers}
use Rattle.typed.specs.Text.{numbers_in, first_stray}
use Rattle.typed.specs.Promises.{stray_in, list_with}
use Rattle.typed.proofs.FewNumbers.{few_numbers}
use Rattle.typed.proofs.Listing.{listed_length}
use Rattle.typed.proofs.ReadBack.{all_read_back}
use Rattle.typing.specs.declared.listing.Fault.TheVariants.{Long, Stray}
use Rattle.typing.specs.Printed.{most_text}
use Rattle.typing.specs.Promises.{most_typed, Listed, listed_of, ListRoomPromise, ListTextPromise}

-- what is known of a text whose numbers are counted
pub record Counted (text : List ℕ) (count : ℕ) : Type 0 where
  pub are_all : count ≡ length (numbers_in text)
  pub not_long : ltb most_text (length text) ≡ false
  pub none_stray : ltb (first_stray text) (length text) ≡ false

pub counted : (text : List ℕ) (count : ℕ) → Ok count ≡ listed_of text → Counted text count
counted text count e = by_tests (ltb most_text (length text)) (ltb (first_stray text) (length text)) refl refl e
  where
    by_tests :
        (long stray : Bool) → ltb most_text (length text) ≡ long → ltb (first_stray text) (length text) ≡ stray →
        Ok count
        ≡ cond long (Err Long) (cond stray (Err (Stray (stray_in text))) (Ok (length (numbers_in text)))) →
        Counted text count
    by_tests true stray is so same = absurd (true≢false (cc))
    by_tests false true is so same = absurd (true≢false (cc))
    by_tests false false is so same = record { are_all = cc; not_long = is; none_stray = so }

-- these are no more than there is room for
few_counted : (text : List ℕ) (count : ℕ) → Ok count ≡ listed_of text → count ≤ most_typed
few_counted text count e =
    let known = counted text count e in
    omega (arith, known.are_all, few_numbers text, ltb-false most_text (length text) known.not_long)

-- so the list has them all, from its start on
module _
    {text list list' : List ℕ} {count : ℕ} (sized : length list ≡ number_bytes * most_typed)
    (listing : ListTextPromise text list (Ok count) list')
  where
    answered : Ok count ≡ listed_of text
    answered = listing.answer

    filled : list' ≡ list_with (numbers_in text) list
    filled = listing.written ∙ ap (λ (t : Bool). cond t list (list_with (numbers_in text) list)) (counted text count answered).not_long

    -- there are no more than there is room for
    pub counted_few : count ≤ most_typed
    counted_few = few_counted text count answered

    -- their bytes are within it
    pub counted_within : number_bytes * count ≤ length list'
    counted_within = omega (arith, sized, ap length filled, listed_length (numbers_in text) list, counted_few)

    -- and are read back
    pub counted_back : table_numbers (take (number_bytes * count) list') ≡ numbers_in text
    counted_back =
        let all : count ≡ length (numbers_in text) = (counted text count answered).are_all in
        rw (filled, all) (all_read_back text list (omega (arith, sized, all, counted_few)))

-- the list that the programs make is as long as that
pub list_room_long : {r : List ℕ} → ListRoomPromise r → length r ≡ number_bytes * most_typed
list_room_long is = ap length is ∙ length-replicate {A = ℕ} (number_bytes * most_typed) 0
