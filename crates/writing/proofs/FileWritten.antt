-- The loop that writes all numbers of a list, one law for its start, a turn, and its end; and what comes of a list that was tested.
use Prim.Native.Nat.{ℕ, suc, ◌+◌, ◌*◌, ◌≤◌, ◌<◌}
use Rattle.std.proofs.Common.{Ok, Err}
use mathlib.Core.Path.{◌≡◌, refl, sym, ap, ◌∙◌}
use mathlib.Core.List.{List, [], ◌∷◌, ◌++◌, append-nil}
use native.Mathlib.Nat.{zero-add, add-zero, suc-add, add-suc}
use native.Mathlib.Numerals.{add-one}
use native.Mathlib.Omega.{arith}
use lib.ListN.{length, get_or, take, drop, set, length-append, take-append-drop}
use lib.Seq.{sets, sets-eq, length-sets, take-suc, take_all, length-take-le}
use borrow.Author.Tests.{lt-ltb, le-ltb}
use Rattle.number.specs.Groups.{most_groups}
use Rattle.number.specs.Writing.{written, fitted, WriteAtPromise}
use Rattle.number.proofs.WrittenOut.{fits}
use Rattle.fields.specs.declared.answer.Refusal.{Refusal}
use Rattle.fields.specs.declared.reason.Reason.TheVariants.{PlantTableShort}
use Rattle.fields.specs.Answers.{Verdict, accepts, refusing}
use Rattle.fields.specs.Readers.{Reader, Read}
use Rattle.fields.specs.Files.{file_read, read_verdict}
use Rattle.fields.specs.Written.{file_of, fitting, write_verdict, buffer_after}
use Rattle.fields.proofs.WrittenFiles.{file_none, file_more, file_both, file_most, list_as_file}
use Rattle.writing.specs.Written.{Written, WrittenBy}
use Rattle.writing.specs.Inside.{TestedWhole}

-- bytes set one after another, and others behind them
sets_both : (buffer : List ℕ) (at : ℕ) (front behind : List ℕ) → sets buffer at (front ++ behind) ≡ sets (sets buffer at front) (at + length front) behind
sets_both buffer at [] behind = rw add-zero refl
sets_both buffer at (byte ∷ front) behind =
    sets_both (set buffer at byte) (suc at) front behind
    ∙ ap (λ (n : ℕ). sets (sets (set buffer at byte) (suc at) front) n behind) (suc-add at (length front) ∙ sym (add-suc at (length front)))

module _ (numbers before : List ℕ) where
  -- n of the numbers are written, up to a byte
  pub record Filled (buffer : List ℕ) (at n : ℕ) : Type 0 where
    pub within : n ≤ length numbers
    pub here : at ≡ length (file_of (take n numbers))
    pub stands : buffer ≡ sets before 0 (file_of (take n numbers))

  -- none is
  pub none_filled : Filled before 0 0
  none_filled = record { within = omega arith; here = sym (ap length file_none); stands = rw file_none refl }

  module _ {buffer : List ℕ} {at n : ℕ} (so_far : Filled buffer at n) where
    -- five bytes a number at most
    pub filled_near : at ≤ most_groups * n
    filled_near = omega (arith, so_far.here, file_most (take n numbers), length-take-le n numbers so_far.within)

    pub filled_length : length buffer ≡ length before
    filled_length = ap length so_far.stands ∙ length-sets before 0 (file_of (take n numbers))

    -- one more is
    pub one_filled :
        n < length numbers → length (file_of numbers) ≤ length before → (value r : ℕ) (buffer' : List ℕ) → value ≡ get_or numbers n 0 →
        WriteAtPromise value at buffer r buffer' → Filled buffer' (at + r) (n + 1)
    one_filled more enough value r buffer' is wrote =
        let number : ℕ = get_or numbers n 0 in
        let front : List ℕ = file_of (take n numbers) in
        let one_on : file_of (take (n + 1) numbers) ≡ front ++ written number =
        ap (λ (k : ℕ). file_of (take k numbers)) (add-one n)
        ∙ ap file_of (take-suc numbers n 0 more)
        ∙ file_both (take n numbers) (number ∷ [])
        ∙ ap (λ (l : List ℕ). front ++ l) (file_more number [] ∙ ap (λ (l : List ℕ). written number ++ l) file_none ∙ append-nil (written number)) in
        let parted : file_of numbers ≡ file_of (take (n + 1) numbers) ++ file_of (drop (n + 1) numbers) =
        ap file_of (sym (take-append-drop (n + 1) numbers)) ∙ file_both (take (n + 1) numbers) (drop (n + 1) numbers) in
        let up_to : length (file_of (take (n + 1) numbers)) ≤ length (file_of numbers) =
        omega (arith, ap length parted, length-append (file_of (take (n + 1) numbers)) (file_of (drop (n + 1) numbers))) in
        let room : at + length (written value) ≤ length buffer =
        rw is (omega (arith, so_far.here, ap length one_on, length-append front (written number), up_to, enough, filled_length)) in
        let whole : fitted value at buffer ≡ written value = fits value at buffer room in
        let sized : r ≡ length (written number) = wrote.counted ∙ ap length whole ∙ ap (λ (v : ℕ). length (written v)) is in
        record {
          within = omega (arith, more);
          here = omega (arith, so_far.here, sized, ap length one_on, length-append front (written number));
          stands =
              wrote.stands
              ∙ ap (sets buffer at) whole
              ∙ ap (λ (v : ℕ). sets buffer at (written v)) is
              ∙ ap (λ (l : List ℕ). sets l at (written number)) so_far.stands
              ∙ ap (λ (k : ℕ). sets (sets before 0 front) k (written number)) (so_far.here ∙ sym (zero-add (length front)))
              ∙ sym (sets_both before 0 front (written number))
              ∙ ap (sets before 0) (sym one_on);
        }

    -- all are, and what is behind them stays
    pub all_filled : length numbers ≤ n → length (file_of numbers) ≤ length before → buffer ≡ buffer_after (file_of numbers) before
    all_filled all room =
        so_far.stands
        ∙ ap (λ (l : List ℕ). sets before 0 (file_of l)) (take_all n numbers all)
        ∙ sets-eq (file_of numbers) before 0 (omega (arith, room))
        ∙ ap (λ (k : ℕ). file_of numbers ++ drop k before) (zero-add (length (file_of numbers)))

-- ---- what comes of an accepted list whose file has this many bytes
module _ (numbers buffer : List ℕ) {bytes : ℕ} (counted : bytes ≡ length (file_of numbers)) where
  -- the verdict on it, with the room of the buffer
  abbrev Comes : Written → List ℕ → Type 0
  Comes = WrittenBy (fitting bytes (length buffer) accepts) numbers buffer

  -- the buffer is too short
  pub short_so : length buffer < bytes → Comes (Err (record { reason = PlantTableShort; place = bytes; offset = bytes })) buffer
  short_so short = rw (lt-ltb (length buffer) bytes short) (record { answer = refl; stands = refl })

  -- it has room: the file is written
  pub written_so : {buffer' : List ℕ} → bytes ≤ length buffer → buffer' ≡ buffer_after (file_of numbers) buffer → Comes (Ok bytes) buffer'
  written_so enough is = rw (le-ltb (length buffer) bytes enough) (record { answer = refl; stands = (counted, is) })

-- ---- a list that was tested is answered as its file is read, and then by the room
module _ {A : Type 0} (reader : Reader A) (numbers buffer : List ℕ) where
  by_room :
      (verdict : Verdict) → verdict ≡ read_verdict (file_read reader (file_of numbers)) →
      fitting (length (file_of numbers)) (length buffer) verdict ≡ write_verdict reader numbers (length buffer)
  unfolding write_verdict
  by_room verdict e =
      ap (fitting (length (file_of numbers)) (length buffer)) (e ∙ ap (λ (outcome : Read A). read_verdict outcome) (sym (list_as_file reader numbers)))

  abbrev Tested : Written → Type 0
  Tested = TestedWhole (read_verdict (file_read reader (file_of numbers))) numbers

  abbrev Answered : Written → List ℕ → Type 0
  Answered = WrittenBy (write_verdict reader numbers (length buffer)) numbers buffer

  -- it is refused: nothing is written
  pub refused_so : {refusal : Refusal} → Tested (Err refusal) → Answered (Err refusal) buffer
  refused_so {refusal} tested = record { answer = by_room (refusing refusal) tested.says; stands = refl }

  -- it is not: the room decides
  pub tested_so :
      {bytes : ℕ} {r : Written} {buffer' : List ℕ} → Tested (Ok bytes) → WrittenBy (fitting bytes (length buffer) accepts) numbers buffer r buffer' →
      Answered r buffer'
  tested_so tested wrote = record { answer = wrote.answer ∙ rw tested.counted (by_room accepts tested.says); stands = wrote.stands }
