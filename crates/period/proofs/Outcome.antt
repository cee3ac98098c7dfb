-- No two outcomes meet a promise of this crate.
use Rattle.std.proofs.Common.{◌≡◌, ℕ, List, Ok, Err, sym, ap, ◌∙◌, ap₂}
use Rattle.fields.specs.declared.answer.Refusal.{Refusal}
use Rattle.fields.specs.Answers.{Answer}
use Rattle.fields.proofs.Outcome.{refusal_once, said_once}
use Rattle.accounts.specs.Order.{Ruling, refusal, accepted}
use Rattle.settling.specs.declared.account.PlantAccount.{PlantAccount}
use Rattle.settling.specs.declared.account.SegmentAccount.{SegmentAccount}
use Rattle.period.specs.Written.{Lent, Told, ruling_on, HandsBack, QuantifyPromise, AnswerWithTablesPromise, PlantRowPromise, SegmentRowPromise}

-- what two calls hand back by one ruling is the same
handed_once : (ruling : Ruling) (r s : Told) → HandsBack r ruling → HandsBack s ruling → r ≡ s
handed_once (accepted plants segments) (Ok r) (Ok s) p q =
    ap₂ (λ (plants segments : ℕ). Ok (record { plant_numbers = plants; segment_numbers = segments })) (p.0 ∙ sym q.0) (p.1 ∙ sym q.1)
handed_once (accepted plants segments) (Ok r) (Err s) p q = absurd q
handed_once (accepted plants segments) (Err r) s p q = absurd p
handed_once (refusal notice) (Err r) (Err s) p q = ap (λ (why : Refusal). Err why) (refusal_once r s (p ∙ sym q))
handed_once (refusal notice) (Err r) (Ok s) p q = absurd q
handed_once (refusal notice) (Ok r) s p q = absurd p

-- `quantify`: two outcomes that meet its promise, of one file and the same tables, are the same
pub one_outcome :
    (file : List ℕ) (tables : Lent) (r s : Told) (tables₁ tables₂ : Lent) →
    QuantifyPromise file tables r tables₁ → QuantifyPromise file tables s tables₂ → (r ≡ s) × (tables₁ ≡ tables₂)
one_outcome file tables r s tables₁ tables₂ p q = (handed_once (ruling_on file tables) r s p.hands_back q.hands_back, p.leaves ∙ sym q.leaves)

-- `answer_with_tables`, `plant_row` and `segment_row`: their promises give the result itself
pub one_answer :
    (settled : Answer) (plants segments plant_table segment_table bytes : ℕ) (r s : Answer) →
    AnswerWithTablesPromise settled plants segments plant_table segment_table bytes r →
    AnswerWithTablesPromise settled plants segments plant_table segment_table bytes s → r ≡ s
one_answer settled plants segments plant_table segment_table bytes r s p q = said_once r s (p ∙ sym q)

pub one_plant_row : (account : PlantAccount) (r s : List ℕ) → PlantRowPromise account r → PlantRowPromise account s → r ≡ s
one_plant_row account r s p q = p ∙ sym q

pub one_segment_row : (account : SegmentAccount) (r s : List ℕ) → SegmentRowPromise account r → SegmentRowPromise account s → r ≡ s
one_segment_row account r s p q = p ∙ sym q
