-- The spots of a list: what is taken there from its file, by the number that the list has.
use Prim.Native.Nat.{ℕ, suc, ◌+◌, ◌*◌, ◌/◌, ◌^◌, ◌≤◌, ◌<◌}
use mathlib.Core.Path.{◌≡◌, refl, sym, ap, ◌∙◌}
use mathlib.Core.List.{List, [], ◌∷◌, ◌++◌, append-nil}
use native.Mathlib.Nat.{mod-eq_of_lt}
use native.Mathlib.Numerals.{add-one}
use native.Mathlib.Omega.{arith}
use lib.ListN.{length, get_or, take, drop, take-append-drop, length-append}
use lib.Seq.{take-suc, take_all, drop-cons, length-take-le}
use borrow.Author.Tests.{lt-ltb, le-ltb}
use Rattle.number.specs.Groups.{most_groups, largest}
use Rattle.number.specs.Reading.{read_at, offset_at, ends, too_large}
use Rattle.number.specs.Reading.Found.{number, fault}
use Rattle.number.specs.Writing.{written}
use Rattle.number.proofs.Laws.{past_end}
use Rattle.number.proofs.Writing.{reads_back_at, over_the_limit_at}
use Rattle.number.proofs.WrittenSizes.{some_byte}
use Rattle.fields.specs.declared.reason.Reason.TheVariants.{BytesAfter}
use Rattle.fields.specs.declared.spot.Spot.{Spot}
use Rattle.fields.specs.Reasons.{number_of}
use Rattle.fields.specs.Answers.{notice, accepts, refuses}
use Rattle.fields.specs.Spots.{first_spot, place_after, taking, taking_at, end_at}
use Rattle.fields.specs.Spots.Take.{value, refusal}
use Rattle.fields.specs.Written.{file_of}
use Rattle.fields.proofs.WrittenFiles.{file_none, file_more, file_both, file_most}
use Rattle.plain.specs.Bytes.{number_bytes, whole_numbers, table_numbers}
use Rattle.plain.proofs.EightBytes.{first_length}
use Rattle.writing.specs.Inside.{At}

-- a list has as many numbers as are whole
pub listed_length : (table : List ℕ) → length (table_numbers table) ≡ length table / number_bytes
listed_length table = first_length (whole_numbers table) table

-- and its file is no longer than a machine can count
pub listed_long : (table : List ℕ) → length table < 2 ^ 64 → length (file_of (table_numbers table)) < 2 ^ 64
listed_long table long = omega (arith, long, file_most (table_numbers table), listed_length table)

-- the first spot is one
pub first_at : (numbers : List ℕ) → At numbers first_spot
first_at numbers = record { there = omega arith; starts = sym (ap length file_none) }

module _ (numbers : List ℕ) (at : Spot) (here : At numbers at) where
  -- the file up to it, and from it on
  abbrev before : List ℕ
  before = file_of (take at.place numbers)

  abbrev rest : List ℕ
  rest = drop at.place numbers

  parted : file_of numbers ≡ before ++ file_of rest
  parted = ap file_of (sym (take-append-drop at.place numbers)) ∙ file_both (take at.place numbers) rest

  -- no spot is past the end of the file, where its offset is its byte
  inside : at.byte ≤ length (file_of numbers)
  inside = omega (arith, ap length parted, length-append before (file_of rest), here.starts)

  -- five bytes a number, at most
  pub near : at.byte ≤ most_groups * at.place
  near = omega (arith, here.starts, file_most (take at.place numbers), length-take-le at.place numbers here.there)

  offset_is : offset_at (file_of numbers) at.byte ≡ at.byte
  offset_is = omega (arith, inside)

  -- ---- the list has ended: so has the file
  pub end_byte : length numbers ≤ at.place → at.byte ≡ length (file_of numbers)
  end_byte all = here.starts ∙ ap (λ (l : List ℕ). length (file_of l)) (take_all at.place numbers all)

  pub listed_ends : length numbers ≤ at.place → refusal (notice ends at.place at.byte) ≡ taking_at (file_of numbers) at
  listed_ends all =
      sym (ap (taking at (offset_at (file_of numbers) at.byte)) (past_end (file_of numbers) at.byte (omega (arith, end_byte all)))
      ∙ ap (λ (offset : ℕ). refusal (notice ends at.place offset)) offset_is)

  pub ended_there : length numbers ≤ at.place → accepts ≡ end_at (file_of numbers) at
  ended_there all = rw (le-ltb at.byte (length (file_of numbers)) (omega (arith, end_byte all))) refl

  -- ---- it has a number there
  module _ (more : at.place < length numbers) where
    abbrev pub there_is : ℕ
    there_is = get_or numbers at.place 0

    abbrev behind : List ℕ
    behind = file_of (drop (suc at.place) numbers)

    -- the file, parted at its bytes
    parted_there : file_of numbers ≡ before ++ (written there_is ++ behind)
    parted_there = parted ∙ ap (λ (l : List ℕ). before ++ l) (ap file_of (drop-cons numbers at.place 0 more) ∙ file_more there_is (drop (suc at.place) numbers))

    -- over the limit
    pub listed_over : largest < there_is → refusal (notice too_large at.place at.byte) ≡ taking_at (file_of numbers) at
    listed_over large =
        let found : read_at (file_of numbers) at.byte ≡ fault too_large =
        ap (λ (l : List ℕ). read_at l at.byte) parted_there ∙ ap (read_at (before ++ (written there_is ++ behind))) here.starts ∙ over_the_limit_at before there_is behind large in
        sym (ap (taking at (offset_at (file_of numbers) at.byte)) found ∙ ap (λ (offset : ℕ). refusal (notice too_large at.place offset)) offset_is)

    -- within it: the next spot is behind its bytes
    abbrev pub next_spot : Spot
    next_spot = record { byte = at.byte + length (written there_is); place = at.place + 1 }

    pub listed_value : at.place + 1 < 2 ^ 64 → there_is ≤ largest → value there_is next_spot ≡ taking_at (file_of numbers) at
    listed_value counted small =
        let found : read_at (file_of numbers) at.byte ≡ number there_is (at.byte + length (written there_is)) =
        ap (λ (l : List ℕ). read_at l at.byte) parted_there
        ∙ ap (read_at (before ++ (written there_is ++ behind))) here.starts
        ∙ reads_back_at before there_is behind small
        ∙ ap (λ (n : ℕ). number there_is (n + length (written there_is))) (sym here.starts) in
        let place_on : place_after at.place ≡ at.place + 1 = mod-eq_of_lt counted in
        sym (ap (taking at (offset_at (file_of numbers) at.byte)) found
        ∙ ap (λ (n : ℕ). value there_is (record { byte = at.byte + length (written there_is); place = n })) place_on)

    pub next_at : At numbers next_spot
    next_at =
        let one_on : file_of (take (at.place + 1) numbers) ≡ before ++ (written there_is ++ []) =
        ap (λ (n : ℕ). file_of (take n numbers)) (add-one at.place)
        ∙ ap file_of (take-suc numbers at.place 0 more)
        ∙ file_both (take at.place numbers) (there_is ∷ [])
        ∙ ap (λ (l : List ℕ). before ++ l) (file_more there_is [] ∙ ap (λ (l : List ℕ). written there_is ++ l) file_none) in
        record {
          there = omega (arith, more);
          starts = omega (arith, here.starts, ap length one_on, length-append before (written there_is ++ []), ap length (append-nil (written there_is)));
        }

    -- so bytes are left
    pub left_there : refuses (notice (number_of BytesAfter) at.place at.byte) ≡ end_at (file_of numbers) at
    left_there =
        let more_bytes : at.byte < length (file_of numbers) =
        omega (arith, ap length parted_there, length-append before (written there_is ++ behind), length-append (written there_is) behind, some_byte there_is, here.starts) in
        rw (lt-ltb at.byte (length (file_of numbers)) more_bytes) refl
