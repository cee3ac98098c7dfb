-- What the private functions promise to their callers. No promise of a public function rests on it.
use Rattle.std.specs.Prelude.{◌≡◌, List, Result, Ok, Err}
use Rattle.fields.specs.declared.answer.Refusal.{Refusal}
use Rattle.fields.specs.declared.spot.Spot.{Spot}
use Rattle.fields.specs.Reaching.{Reach, whole, stopped_by}

-- What reading gives, if the code keeps nothing of it: something was read, whatever it was, or it was refused.
abbrev pub PassedOver : {A : Type 0} → Result Spot Refusal → Reach A → Type 0
PassedOver {A} (Ok next) outcome = (what : A) × (outcome ≡ whole what next)
PassedOver (Err refusal) outcome = outcome ≡ stopped_by refusal

-- What it gives, if the code keeps the records: all of them, or it was refused, whatever is kept then.
abbrev pub FilledBy : {A : Type 0} → List A → Result Spot Refusal → Reach (List A) → Type 0
FilledBy kept (Ok next) outcome = outcome ≡ whole kept next
FilledBy kept (Err refusal) outcome = outcome ≡ stopped_by refusal
