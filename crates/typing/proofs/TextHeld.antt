-- What is printed for a text stands at the start of the buffer: the line of a fault, or what comes of the text's numbers.
use Prim.Native.Nat.{ℕ, suc, ◌+◌, ◌*◌, ◌≤◌}
use Rattle.std.proofs.Common.{Ok, Err}
use mathlib.Core.Path.{◌≡◌, refl, sym, ap, subst, ◌∙◌}
use mathlib.Core.Bool.{Bool, true, false, cond, true≢false}
use mathlib.Core.List.{List, [], ◌∷◌, ◌++◌}
use native.Mathlib.Nat.{le_trans}
use native.Mathlib.Omega.{arith}
use lib.Dec.{ltb}
use lib.ListN.{length, get_or, take, drop, length-append}
use lib.Seq.{take_at}
use borrow.Author.Tests.{le-ltb}
use Rattle.fields.specs.Answers.{Verdict, Notice, notice_of}
use Rattle.fields.specs.Readers.{Reader, Read, read, refused}
use Rattle.fields.specs.Files.{file_read, read_verdict}
use Rattle.fields.specs.Written.{file_of, list_read, fitting, write_verdict}
use Rattle.fields.proofs.Answers.{refuses_not_accepts}
use Rattle.fields.proofs.WrittenFiles.{list_as_file}
use Rattle.output.specs.Words.{ascii}
use Rattle.output.specs.Lines.{most_spaced}
use Rattle.output.specs.Put.{Put, Holds}
use Rattle.output.proofs.Putting.{put_within, put_whole}
use Rattle.output.proofs.Room.{line_long}
use Rattle.typed.specs.Text.{numbers_in, first_stray, starts_in}
use Rattle.typed.specs.Promises.{stray_in}
use Rattle.writing.specs.Written.{Written, WrittenBy}
use Rattle.typing.specs.declared.listing.Fault.{Fault}
use Rattle.typing.specs.declared.listing.Fault.TheVariants.{Long, Stray}
use Rattle.typing.specs.Printed.{most_text, refused_line, written_text, printed_for}
use Rattle.typing.specs.Promises.{Listed, listed_of, fault_line, PutFaultPromise, PutWrittenPromise, NumbersPut, AnswerPut, PutAnswerPromise}
use Rattle.typing.proofs.Rooms.{counted}

-- ---- lines
-- no line is longer: a letter, three numbers, and its end
abbrev pub most_line : ℕ
most_line = suc (most_spaced * 3 + 1)

fault_long : (fault : Fault) → length (fault_line fault) ≤ most_line
fault_long Long = omega (arith, line_long (ascii "L") (most_text ∷ []))
fault_long (Stray stray) = omega (arith, line_long (ascii "T") (stray.offset ∷ stray.byte ∷ []))

refused_long : (text : List ℕ) (why : Notice) → length (refused_line text why) ≤ most_line
refused_long text why =
    omega (arith, line_long (ascii "R") (why.number ∷ why.place ∷ get_or (starts_in text) why.place (length text) ∷ []))

-- a line that is put at the start of a buffer with room for it stands there
line_held :
    {line buffer : List ℕ} {end : ℕ} {buffer' : List ℕ} → Put line 0 buffer end buffer' → length line ≤ most_line → most_line ≤ length buffer →
    Holds line end buffer'
line_held put short room =
    let fits = le_trans short room in
    record { within = put_within put fits; stands = put_whole put fits }

-- what is put for a text is what is put for what comes of it
pub as_listed :
    (verdict : (numbers : List ℕ) (room : ℕ) → Verdict) (text : List ℕ) {came : Listed} (at : ℕ) (room : List ℕ) (end : ℕ) (room' : List ℕ) →
    came ≡ listed_of text → AnswerPut verdict text came at room end room' → PutAnswerPromise verdict text at room end room'
as_listed verdict text at room end room' is put =
    subst (λ (came : Listed). AnswerPut verdict text came at room end room') is put

module _ {A : Type 0} (reader : Reader A) (text : List ℕ) where
  -- ---- a fault
  fault_printed : (fault : Fault) → Err fault ≡ listed_of text → fault_line fault ≡ printed_for reader text
  unfolding printed_for
  fault_printed fault e = by_tests (ltb most_text (length text)) (ltb (first_stray text) (length text)) e
    where
      by_tests :
          (l s : Bool) → Err fault ≡ cond l (Err Long) (cond s (Err (Stray (stray_in text))) (Ok (length (numbers_in text)))) →
          fault_line fault ≡ cond l (fault_line Long) (cond s (fault_line (Stray (stray_in text))) (written_text text (list_read reader (numbers_in text) 0 0)))
      by_tests true s same = let is : fault ≡ Long = cc in ap fault_line is
      by_tests false true same = let is : fault ≡ Stray (stray_in text) = cc in ap fault_line is
      by_tests false false same = absurd (true≢false (cc))

  -- its line is what is printed
  pub fault_held :
      (fault : Fault) {room : List ℕ} {end : ℕ} {room' : List ℕ} → Err fault ≡ listed_of text → PutFaultPromise fault 0 room end room' →
      most_line ≤ length room → Holds (printed_for reader text) end room'
  fault_held fault {end} {room'} e put enough =
      rw (fault_printed fault e) at (line_held put (fault_long fault) enough)

  -- ---- what comes of the numbers
  abbrev file : List ℕ
  file = file_of (numbers_in text)

  -- an accepted list's file has room
  abbrev pub Fits : (bytes : ℕ) → Type 0
  Fits bytes = (what : A) (place at : ℕ) → file_read reader file ≡ read what place at → length file ≤ bytes

  module _ (room : List ℕ) (fits : Fits (length room)) (enough : most_line ≤ length room) (end : ℕ) (room' : List ℕ) where
    by_outcome :
        (outcome : Read A) → list_read reader (numbers_in text) 0 0 ≡ outcome → (written : Written) (between : List ℕ) →
        WrittenBy (fitting (length file) (length room) (read_verdict outcome)) (numbers_in text) room written between →
        PutWrittenPromise text written 0 between end room' → Holds (written_text text outcome) end room'
    by_outcome (read what place at) is (Ok bytes) between wrote (ends, stays) =
        let whole : room' ≡ file ++ drop (length file) room = stays ∙ wrote.stands.1 in
        let ended : length file ≡ end = sym (ends ∙ wrote.stands.0) in
        record {
          within = omega (arith, ended, ap length whole, length-append file (drop (length file) room));
          stands = ap (take end) whole ∙ take_at file (drop (length file) room) end ended;
        }
    by_outcome (read what place at) is (Err refusal) between wrote put =
        let has_room : length file ≤ length room = fits what place at (sym (list_as_file reader (numbers_in text)) ∙ is) in
        absurd (refuses_not_accepts (rw (le-ltb (length room) (length file) has_room) at wrote.answer))
    by_outcome (refused why) is (Ok bytes) between wrote put = absurd (refuses_not_accepts (sym wrote.answer))
    by_outcome (refused why) is (Err refusal) between wrote put =
        let same = wrote.answer in
        let told_is : notice_of refusal ≡ why = cc in
        let line : Put (refused_line text why) 0 between end room' = subst (λ (n : Notice). Put (refused_line text n) 0 between end room') told_is put in
        line_held line (refused_long text why) (omega (arith, ap length wrote.stands, enough))

    -- they are written and answered: that is what is printed
    pub written_held : (count : ℕ) → Ok count ≡ listed_of text → NumbersPut (write_verdict reader) text 0 room end room' → Holds (printed_for reader text) end room'
    unfolding printed_for write_verdict
    written_held count e put =
        let known = counted text count e in
        rw (known.not_long, known.none_stray)
        (by_outcome (list_read reader (numbers_in text) 0 0) refl put.written put.between put.stands put.put)

    -- ---- so what is put for a text is what is printed
    pub answer_held : PutAnswerPromise (write_verdict reader) text 0 room end room' → Holds (printed_for reader text) end room'
    answer_held put = by_listed (listed_of text) refl put
      where
        by_listed : (came : Listed) → came ≡ listed_of text → AnswerPut (write_verdict reader) text came 0 room end room' → Holds (printed_for reader text) end room'
        by_listed (Err fault) is put = fault_held fault is put enough
        by_listed (Ok count) is put = written_held count is put
