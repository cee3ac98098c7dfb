-- No two outcomes meet a promise of this crate.
use Rattle.std.proofs.Common.{◌≡◌, ℕ, List, Ok, Err, sym, ◌∙◌}
use Rattle.fields.specs.Answers.{Verdict}
use Rattle.output.proofs.Outcome.{put_once}
use Rattle.writing.proofs.Outcome.{written_once}
use Rattle.writing.specs.Written.{Written}
use Rattle.typing.specs.declared.listing.Fault.{Fault}
use Rattle.typing.specs.Promises.{TextRoomPromise, ListRoomPromise, Listed, listed_of, ListTextPromise, PutFaultPromise, PutWrittenPromise, AnswerPut, PutAnswerPromise}

-- `text_room`: its promise gives the room itself
pub one_text_room : (r s : List ℕ) → TextRoomPromise r → TextRoomPromise s → r ≡ s
one_text_room r s p q = p ∙ sym q

-- `list_room`: the same
pub one_list_room : (r s : List ℕ) → ListRoomPromise r → ListRoomPromise s → r ≡ s
one_list_room r s p q = p ∙ sym q

-- `list_text`: the answer and the list afterwards, of one text and one list before
pub one_listing :
    (text list : List ℕ) (r s : Listed) (after after' : List ℕ) →
    ListTextPromise text list r after → ListTextPromise text list s after' → (r ≡ s) × (after ≡ after')
one_listing text list r s after after' p q = (p.answer ∙ sym q.answer, p.written ∙ sym q.written)

-- `put_fault`: the end and the room afterwards, of one fault and one text before
pub one_fault_lem :
    (fault : Fault) (at : ℕ) (room : List ℕ) (end end' : ℕ) (after after' : List ℕ) →
    PutFaultPromise fault at room end after → PutFaultPromise fault at room end' after' → (end ≡ end') × (after ≡ after')
one_fault_lem fault at room end end' after after' p q = put_once p q

-- `put_written`: the same, of one typed text, one answer and one text before
pub one_answer :
    (text : List ℕ) (written : Written) (at : ℕ) (room : List ℕ) (end end' : ℕ) (after after' : List ℕ) →
    PutWrittenPromise text written at room end after → PutWrittenPromise text written at room end' after' → (end ≡ end') × (after ≡ after')
one_answer text (Ok bytes) at room end end' after after' (ends, stays) (ends', stays') = (ends ∙ sym ends', stays ∙ sym stays')
one_answer text (Err refusal) at room end end' after after' p q = put_once p q

-- `put_answer`: the same, of one typed text and one text before
pub one_text_answered :
    (verdict : (numbers : List ℕ) (room : ℕ) → Verdict) (text : List ℕ) (at : ℕ) (room : List ℕ) (end end' : ℕ) (after after' : List ℕ) →
    PutAnswerPromise verdict text at room end after → PutAnswerPromise verdict text at room end' after' → (end ≡ end') × (after ≡ after')
one_text_answered verdict text at room end end' after after' p q = by_listed (listed_of text) p q
  where
    by_listed :
        (came : Listed) → AnswerPut verdict text came at room end after → AnswerPut verdict text came at room end' after' → (end ≡ end') × (after ≡ after')
    by_listed (Err fault) p q = put_once p q
    by_listed (Ok count) p q =
        let (same, between) = written_once p.written q.written p.between q.between p.stands q.stands in
        one_answer text q.written at q.between end end' after after' (rw (same, between) at p.put) q.put
