-- No two outcomes meet a promise of this crate.
use Rattle.std.proofs.Common.{Ok, Err, ℕ, ◌≡◌, List, refl, sym, ap, ◌∙◌, true≢false}
use Rattle.fields.specs.declared.answer.Refusal.{Refusal}
use Rattle.fields.specs.Answers.{Verdict}
use Rattle.fields.proofs.Outcome.{refusal_once}
use Rattle.writing.specs.Written.{Written, WrittenBy, WritePeriodPromise, WriteSheetPromise}

-- what comes of a verdict determines the answer, with its count, and the buffer
pub written_once :
    {verdict : Verdict} {numbers buffer : List ℕ} (r s : Written) (after after' : List ℕ) →
    WrittenBy verdict numbers buffer r after → WrittenBy verdict numbers buffer s after' → (r ≡ s) × (after ≡ after')
written_once (Ok bytes) (Ok bytes') after after' p q = (ap (λ (n : ℕ). Ok n) (p.stands.0 ∙ sym q.stands.0), p.stands.1 ∙ sym q.stands.1)
written_once (Err a) (Err b) after after' p q =
    let same = p.answer ∙ sym q.answer in
    (ap (λ (x : Refusal). Err x) (refusal_once a b (cc)), p.stands ∙ sym q.stands)
written_once (Ok bytes) (Err b) after after' p q = let same = p.answer ∙ sym q.answer in absurd (true≢false (cc))
written_once (Err a) (Ok bytes) after after' p q = let same = p.answer ∙ sym q.answer in absurd (true≢false (cc))

-- `write_period`: two outcomes, of one list and one buffer, are the same
pub one_period_written :
    (numbers buffer : List ℕ) (r s : Written) (after after' : List ℕ) →
    WritePeriodPromise numbers buffer r after → WritePeriodPromise numbers buffer s after' → (r ≡ s) × (after ≡ after')
one_period_written numbers buffer r s after after' p q = written_once r s after after' p q

-- `write_sheet`: so are two of its outcomes
pub one_sheet_written :
    (numbers buffer : List ℕ) (r s : Written) (after after' : List ℕ) →
    WriteSheetPromise numbers buffer r after → WriteSheetPromise numbers buffer s after' → (r ≡ s) × (after ≡ after')
one_sheet_written numbers buffer r s after after' p q = written_once r s after after' p q
