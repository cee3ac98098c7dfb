-- What the code's `take` says of the file.
use Rattle.std.proofs.Common.{◌≤◌, arith, Ok, Err, ◌≡◌, ℕ, suc, ◌+◌, ◌^◌, ◌<◌, List, sym, refl, ap, ◌∙◌, true≢false, mod-eq_of_lt, add-one}
use Rattle.number.specs.Groups.{largest}
use Rattle.number.proofs.Laws.{bounds}
use Rattle.number.specs.Reading.{Found, read_at, offset_at}
use Rattle.number.specs.Reading.Found.{number, fault}
use Rattle.number.specs.declared.Report.{Report}
use Rattle.number.specs.Finding.{finds, ReadAtPromise}
use Rattle.fields.specs.declared.answer.Refusal.{Refusal}
use Rattle.fields.specs.declared.spot.Spot.{Spot}
use Rattle.fields.specs.Reasons.{number_of}
use Rattle.fields.specs.Answers.{Notice, notice, notice_of}
use Rattle.fields.specs.Spots.{Take, Taken, place_after, taking, taking_at, took}
use Rattle.fields.specs.Spots.Take.{value, refusal as no_value}

-- the place after another is one more, if a machine can count it
pub one_place_on : (place : ℕ) → place + 1 < 2 ^ 64 → place_after place ≡ suc place
one_place_on place small = mod-eq_of_lt small ∙ add-one place

-- what number reading reports at a spot's byte is what is taken there: a value, or a fault
module _ (file : List ℕ) (at : Spot) (report : Report) (told : ReadAtPromise file at.byte report) where
  pub taken_value :
      (v n : ℕ) → finds report.number ≡ number v n → value v (record { byte = n; place = place_after at.place }) ≡ taking_at file at
  taken_value v n is = ap (taking at (offset_at file at.byte)) (sym is ∙ told.number)

  pub taken_fault : (k : ℕ) → finds report.number ≡ fault k → no_value (notice k at.place report.offset) ≡ taking_at file at
  taken_fault k is =
      ap (λ (offset : ℕ). no_value (notice k at.place offset)) told.offset ∙ ap (taking at (offset_at file at.byte)) (sym is ∙ told.number)

-- what the code says that it took is what is taken
pub taken_is : {taken : Take} {r : Taken} (s : Taken) → took r ≡ taken → r ≡ s → taken ≡ took s
taken_is s e is = sym e ∙ ap took is

-- a value that was taken is there, and the next spot is behind it
pub record ValueThere (file : List ℕ) (at : Spot) (v : ℕ) (next : Spot) : Type 0 where
  pub stands : read_at file at.byte ≡ number v next.byte
  pub place_on : next.place ≡ place_after at.place

pub value_taken : {file : List ℕ} {at : Spot} {v : ℕ} {next : Spot} → ValueThere file at v next → taking_at file at ≡ value v next
value_taken {file = file} {at = at} {v = v} {next = next} there =
    ap (taking at (offset_at file at.byte)) there.stands ∙ ap (λ (p : ℕ). value v (record { byte = next.byte; place = p })) (sym there.place_on)

pub value_there : (file : List ℕ) (at : Spot) (taken : Taken) (v : ℕ) (next : Spot) → took taken ≡ taking_at file at → taken ≡ Ok (v, next) → ValueThere file at v next
value_there file at taken v next e is = by_number (read_at file at.byte) refl (sym (ap took is) ∙ e)
  where
    by_number : (found : Found) → read_at file at.byte ≡ found → took (Ok (v, next)) ≡ taking at (offset_at file at.byte) found → ValueThere file at v next
    by_number (number w n) here same =
        let value_is : v ≡ w = cc in
        let next_is : next ≡ record { byte = n; place = place_after at.place } = cc in
        record { stands = here ∙ rw (value_is, next_is) refl; place_on = ap (λ (s : Spot). s.place) next_is }
    by_number (fault k) here same = absurd (true≢false (cc))

-- no number that is taken is over the limit
pub within_limit : (file : List ℕ) (at : Spot) (v : ℕ) (next : Spot) → taking_at file at ≡ value v next → v ≤ largest
within_limit file at v next e = by_number (read_at file at.byte) refl e
  where
    by_number : (found : Found) → read_at file at.byte ≡ found → taking at (offset_at file at.byte) found ≡ value v next → v ≤ largest
    by_number (number w n) here same = let is : w ≡ v = cc in omega (arith, (bounds file at.byte w n here).small, is)
    by_number (fault k) here same = absurd (true≢false (cc))

-- a refusal is the fault that is there, and tells its place and its offset
pub record FaultThere (file : List ℕ) (at : Spot) (refusal : Refusal) : Type 0 where
  pub stands : read_at file at.byte ≡ fault (number_of refusal.reason)
  pub told : notice_of refusal ≡ notice (number_of refusal.reason) at.place (offset_at file at.byte)

pub fault_taken : {file : List ℕ} {at : Spot} {refusal : Refusal} → FaultThere file at refusal → taking_at file at ≡ no_value (notice_of refusal)
fault_taken {file = file} {at = at} there = ap (taking at (offset_at file at.byte)) there.stands ∙ ap no_value (sym there.told)

pub fault_there : (file : List ℕ) (at : Spot) (taken : Taken) (refusal : Refusal) → took taken ≡ taking_at file at → taken ≡ Err refusal → FaultThere file at refusal
fault_there file at taken refusal e is = by_number (read_at file at.byte) refl (sym (ap took is) ∙ e)
  where
    by_number : (found : Found) → read_at file at.byte ≡ found → took (Err refusal) ≡ taking at (offset_at file at.byte) found → FaultThere file at refusal
    by_number (number w n) here same = absurd (true≢false (cc))
    by_number (fault k) here same =
        let told : notice_of refusal ≡ notice k at.place (offset_at file at.byte) = cc in
        let fault_is : number_of refusal.reason ≡ k = ap (λ (n : Notice). n.number) told in
        record { stands = here ∙ ap fault (sym fault_is); told = told ∙ ap (λ (n : ℕ). notice n at.place (offset_at file at.byte)) (sym fault_is) }
