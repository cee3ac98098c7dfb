-- No two outcomes meet a promise of this crate: what an answer says determines the answer.
use Rattle.std.proofs.Common.{◌≡◌, ℕ, Ok, Err, zero, suc, ◌<◌, List, [], ◌∷◌, get_or, sym, refl, ap, ◌∙◌, ap₂, true≢false, arith}
use Rattle.fields.specs.declared.answer.Refusal.{Refusal}
use Rattle.fields.specs.declared.reason.Reason.{Reason}
use Rattle.fields.specs.declared.reason.Reason.TheVariants.{Ends, NotShortest, TooLarge, WrongEdition, WrongCount, WrongPlant, WrongSegment, WrongLine, BytesAfter, TooManyGrams, InflowTooLarge, OutflowOverInflow, EmissionWithoutInflow, PlantTableShort, SegmentTableShort, CapturedOverFuel}
use Rattle.fields.specs.declared.spot.Spot.{Spot}
use Rattle.fields.specs.Reasons.{number_of, ReasonNumberPromise}
use Rattle.fields.specs.Answers.{Answer, Notice, notice_of, said, RefusedPromise, AnswerRefusalPromise, AnswerPlacePromise, AnswerOffsetPromise}
use Rattle.fields.specs.Spots.{Taken, took, SpotFirstPromise, SpotRefusalPromise, TakePromise, NothingAfterPromise}

-- ---- each number has one reason
-- the reasons by their numbers, from 0, which none has
numbered : List Reason
numbered =
    Ends
    ∷ Ends ∷ NotShortest ∷ TooLarge ∷ WrongEdition ∷ WrongCount ∷ WrongPlant ∷ WrongSegment ∷ WrongLine ∷ BytesAfter
    ∷ TooManyGrams ∷ InflowTooLarge ∷ OutflowOverInflow ∷ EmissionWithoutInflow ∷ PlantTableShort ∷ SegmentTableShort
    ∷ CapturedOverFuel ∷ []

reason_back : (reason : Reason) → get_or numbered (number_of reason) Ends ≡ reason
unfolding numbered
reason_back Ends = refl
reason_back NotShortest = refl
reason_back TooLarge = refl
reason_back WrongEdition = refl
reason_back WrongCount = refl
reason_back WrongPlant = refl
reason_back WrongSegment = refl
reason_back WrongLine = refl
reason_back BytesAfter = refl
reason_back TooManyGrams = refl
reason_back InflowTooLarge = refl
reason_back OutflowOverInflow = refl
reason_back EmissionWithoutInflow = refl
reason_back PlantTableShort = refl
reason_back SegmentTableShort = refl
reason_back CapturedOverFuel = refl

pub numbered_once : (a b : Reason) → number_of a ≡ number_of b → a ≡ b
numbered_once a b e = sym (reason_back a) ∙ ap (λ (n : ℕ). get_or numbered n Ends) e ∙ reason_back b

-- and none has 0, which says that a file is accepted
pub numbered_above : (reason : Reason) → 0 < number_of reason
unfolding numbered
numbered_above reason = by_number (number_of reason) refl
  where
    by_number : (n : ℕ) → number_of reason ≡ n → 0 < n
    by_number (suc n) is = omega arith
    by_number zero is =
        let first : reason ≡ Ends = sym (reason_back reason) ∙ ap (λ (n : ℕ). get_or numbered n Ends) is in
        absurd (omega (arith, sym (ap (λ (r : Reason). number_of r) first) ∙ is))

-- ---- so two refusals, two answers or two takings that say the same are the same
pub refusal_once : (a b : Refusal) → notice_of a ≡ notice_of b → a ≡ b
refusal_once a b same =
    ap₂ (λ (r : Reason) (n : Notice). record { reason = r; place = n.place; offset = n.offset })
    (numbered_once a.reason b.reason (ap (λ (n : Notice). n.number) same)) same

pub said_once : (a b : Answer) → said a ≡ said b → a ≡ b
said_once (Ok done) (Ok done') e = refl
said_once (Ok done) (Err b) e = absurd (true≢false (cc))
said_once (Err a) (Ok done) e = absurd (true≢false (cc))
said_once (Err a) (Err b) e = ap (λ (x : Refusal). Err x) (refusal_once a b (cc))

pub took_once : (a b : Taken) → took a ≡ took b → a ≡ b
took_once (Ok (v, next)) (Ok (w, next')) e = ap₂ (λ (x : ℕ) (s : Spot). Ok (x, s)) (cc) (cc)
took_once (Ok (v, next)) (Err b) e = absurd (true≢false (cc))
took_once (Err a) (Ok (w, next')) e = absurd (true≢false (cc))
took_once (Err a) (Err b) e = ap (λ (x : Refusal). Err x) (refusal_once a b (cc))

-- ---- the public functions
-- `take`: two answers that meet its promise, of one file at one spot, are the same
pub one_taken : (file : List ℕ) (at : Spot) (r s : Taken) → TakePromise file at r → TakePromise file at s → r ≡ s
one_taken file at r s p q = took_once r s (p ∙ sym q)

-- `nothing_after`: so are two of its answers
pub one_end : (file : List ℕ) (at : Spot) (r s : Answer) → NothingAfterPromise file at r → NothingAfterPromise file at s → r ≡ s
one_end file at r s p q = said_once r s (p ∙ sym q)

-- `Reason::number`, `refused`, `refusal_number`, `refusal_place`, `refusal_offset`, `Spot::first` and `Spot::refusal`: their promises give the result itself
pub one_number : (reason : Reason) (r s : ℕ) → ReasonNumberPromise reason r → ReasonNumberPromise reason s → r ≡ s
one_number reason r s p q = p ∙ sym q

pub one_refused :
    (reason : Reason) (place offset : ℕ) (r s : Answer) → RefusedPromise reason place offset r → RefusedPromise reason place offset s → r ≡ s
one_refused reason place offset r s p q = p ∙ sym q

pub one_refusal : (answer : Answer) (r s : ℕ) → AnswerRefusalPromise answer r → AnswerRefusalPromise answer s → r ≡ s
one_refusal answer r s p q = p ∙ sym q

pub one_place : (answer : Answer) (r s : ℕ) → AnswerPlacePromise answer r → AnswerPlacePromise answer s → r ≡ s
one_place answer r s p q = p ∙ sym q

pub one_offset : (answer : Answer) (r s : ℕ) → AnswerOffsetPromise answer r → AnswerOffsetPromise answer s → r ≡ s
one_offset answer r s p q = p ∙ sym q

pub one_first : (r s : Spot) → SpotFirstPromise r → SpotFirstPromise s → r ≡ s
one_first r s p q = p ∙ sym q

pub one_refusal_at : (at : Spot) (reason : Reason) (r s : Refusal) → SpotRefusalPromise at reason r → SpotRefusalPromise at reason s → r ≡ s
one_refusal_at at reason r s p q = p ∙ sym q
