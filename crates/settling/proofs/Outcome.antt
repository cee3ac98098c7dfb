-- No two outcomes meet the promise of the call.
use Rattle.std.proofs.Common.{◌≡◌, ℕ, List, Result, Ok, Err, refl, sym, ap, ◌∙◌, true≢false}
use Rattle.fields.specs.declared.answer.Refusal.{Refusal}
use Rattle.fields.specs.Answers.{Answer}
use Rattle.fields.proofs.Answers.{refuses_not_accepts}
use Rattle.fields.proofs.Outcome.{refusal_once}
use Rattle.settling.specs.declared.account.PlantAccount.{PlantAccount}
use Rattle.settling.specs.declared.account.SegmentAccount.{SegmentAccount}
use Rattle.settling.specs.declared.settling.Settled.{Settled}
use Rattle.settling.specs.Settled.{Settlement, Settles, settlement, SettlePromise, SettleIntoPromise, outcome}

-- what the code hands back, by its fields
abbrev made : (plant_count segment_count : ℕ) → List PlantAccount → List SegmentAccount → Settled
made plant_count segment_count plants segments =
    record { plant_count = plant_count; segment_count = segment_count; plants = plants; segments = segments }

-- two answers that say the same of a settlement are the same
one_by : (r s : Result Settled Refusal) (settled : Settlement) → Settles r settled → Settles s settled → r ≡ s
one_by (Ok r) (Ok s) settled p q =
    ap (λ (n : ℕ). Ok (made n r.segment_count r.plants r.segments)) (p.plant_count_is ∙ sym q.plant_count_is)
    ∙ ap (λ (n : ℕ). Ok (made s.plant_count n r.plants r.segments)) (p.segment_count_is ∙ sym q.segment_count_is)
    ∙ ap (λ (l : List PlantAccount). Ok (made s.plant_count s.segment_count l r.segments)) (p.plants ∙ sym q.plants)
    ∙ ap (λ (l : List SegmentAccount). Ok (made s.plant_count s.segment_count s.plants l)) (p.segments ∙ sym q.segments)
one_by (Ok r) (Err b) settled p q = absurd (refuses_not_accepts (q ∙ sym p.verdict))
one_by (Err a) (Ok s) settled p q = absurd (refuses_not_accepts (p ∙ sym q.verdict))
one_by (Err a) (Err b) settled p q = let same = p ∙ sym q in ap (λ (x : Refusal). Err x) (refusal_once a b (cc))

-- `settle`: two outcomes that meet its promise, of one file, are the same
pub one_settlement : (file : List ℕ) (r s : Result Settled Refusal) → SettlePromise file r → SettlePromise file s → r ≡ s
one_settlement file r s p q = one_by r s (settlement file) p q

-- `settle_into`: so are two of its answers, and what it leaves in the lent accounts
pub one_settled_into :
    (file : List ℕ) (before : Settled) (r s : Answer) (after after' : Settled) →
    SettleIntoPromise file before r after → SettleIntoPromise file before s after' → (r ≡ s) × (after ≡ after')
one_settled_into file before r s after after' p q = by_answers r s (one_settlement file (outcome r after) (outcome s after') p.settles q.settles) p.kept q.kept
  where
    Kept : Answer → Settled → Type 0
    Kept answer left = (refusal : Refusal) → answer ≡ Err refusal → left ≡ before

    by_answers : (a b : Answer) → outcome a after ≡ outcome b after' → Kept a after → Kept b after' → (a ≡ b) × (after ≡ after')
    by_answers (Ok done) (Ok done') e kept kept' = (refl, cc)
    by_answers (Ok done) (Err b) e kept kept' = absurd (true≢false (cc))
    by_answers (Err a) (Ok done) e kept kept' = absurd (true≢false (cc))
    by_answers (Err a) (Err b) e kept kept' =
        let same : a ≡ b = cc in (ap (λ (x : Refusal). Err x) same, kept a refl ∙ sym (kept' b refl))
