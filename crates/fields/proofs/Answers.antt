-- An answer that refuses is none that accepts, whether it is the code's or the definitions'.
use Rattle.std.proofs.Common.{◌≡◌, Err, true≢false}
use Rattle.fields.specs.declared.answer.Refusal.{Refusal}
use Rattle.fields.specs.Answers.{accepted, Notice, accepts, refuses}

pub refused_not_accepted : {refusal : Refusal} → Err refusal ≡ accepted → ⊥
refused_not_accepted e = true≢false (cc)

pub refuses_not_accepts : {notice : Notice} → refuses notice ≡ accepts → ⊥
refuses_not_accepts e = true≢false (cc)
