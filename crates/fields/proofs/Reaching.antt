-- A reader from a spot on: field by field, one reader after another, and what it is as a reading of the file.
use Rattle.std.proofs.Common.{◌≡◌, ℕ, suc, ◌^◌, ◌<◌, ◌≤◌, Bool, true, false, cond, List, length, sym, refl, ap, ◌∙◌, arith}
use Rattle.number.specs.Reading.{Found, read_at, offset_at}
use Rattle.number.specs.Reading.Found.{number as a_number_found, fault as one_fault}
use Rattle.number.proofs.Laws.{bounds, offset_inside}
use Rattle.fields.specs.declared.answer.Refusal.{Refusal}
use Rattle.fields.specs.declared.reason.Reason.{Reason}
use Rattle.fields.specs.declared.spot.Spot.{Spot}
use Rattle.fields.specs.Reasons.{number_of}
use Rattle.fields.specs.Answers.{Notice, notice}
use Rattle.fields.specs.Readers.{Reader, return, needs, ◌>>=◌, Read, refused, reads}
use Rattle.fields.specs.Files.{ended, file_read}
use Rattle.fields.specs.Spots.{first_spot, place_after, Take, taking, taking_at}
use Rattle.fields.specs.Spots.Take.{value, refusal as no_value}
use Rattle.fields.specs.Reaching.{Reach, whole, stopped, going_on, reads_by, reads_from, stopped_by, as_read}
use Rattle.fields.proofs.FieldByField.{field_passed, field_wrong, field_faulty}
use Rattle.fields.proofs.Takes.{one_place_on, ValueThere, value_taken, FaultThere}

-- ---- one field: what a reader gives that needs a number at a spot
module _ {A : Type 0} (taken : Spot → Take) (reason : Reason) (allowed : ℕ → Bool) (then : ℕ → Reader A) (at : Spot) where
  -- what was taken there decides
  by_taken : Take → Reach A
  by_taken found = going_on found (λ (v : ℕ) (next : Spot). cond (allowed v) (reads_by (then v) taken next) (stopped (notice (number_of reason) at.place at.byte)))

  module _ {v : ℕ} {next : Spot} (there : taken at ≡ value v next) where
    tested : reads_by (needs reason allowed then) taken at ≡ cond (allowed v) (reads_by (then v) taken next) (stopped (notice (number_of reason) at.place at.byte))
    unfolding reads_by by_taken
    tested = ap by_taken there

    -- a number that is allowed: the rest decides
    pub by_passed : allowed v ≡ true → reads_by (needs reason allowed then) taken at ≡ reads_by (then v) taken next
    by_passed h = tested ∙ ap (λ (t : Bool). cond t (reads_by (then v) taken next) (stopped (notice (number_of reason) at.place at.byte))) h

    -- a number that is not allowed
    pub by_wrong : allowed v ≡ false → reads_by (needs reason allowed then) taken at ≡ stopped (notice (number_of reason) at.place at.byte)
    by_wrong h = tested ∙ ap (λ (t : Bool). cond t (reads_by (then v) taken next) (stopped (notice (number_of reason) at.place at.byte))) h

  -- a fault
  pub by_fault : {fault : Notice} → taken at ≡ no_value fault → reads_by (needs reason allowed then) taken at ≡ stopped fault
  unfolding reads_by by_taken
  by_fault there = ap by_taken there

-- ---- the same of a file, by what number reading finds there
module _ {A : Type 0} (file : List ℕ) (reason : Reason) (allowed : ℕ → Bool) (then : ℕ → Reader A) (at : Spot) where
  module _ (v : ℕ) (next : Spot) (there : ValueThere file at v next) where
    pub spot_passed : allowed v ≡ true → reads_from (needs reason allowed then) file at ≡ reads_from (then v) file next
    spot_passed = by_passed (taking_at file) reason allowed then at (value_taken there)

    pub spot_wrong : allowed v ≡ false → reads_from (needs reason allowed then) file at ≡ stopped (notice (number_of reason) at.place at.byte)
    spot_wrong = by_wrong (taking_at file) reason allowed then at (value_taken there)

  pub spot_fault : (k : ℕ) → read_at file at.byte ≡ one_fault k → reads_from (needs reason allowed then) file at ≡ stopped (notice k at.place (offset_at file at.byte))
  spot_fault k e = by_fault (taking_at file) reason allowed then at (ap (taking at (offset_at file at.byte)) e)

  pub spot_faulty : (refusal : Refusal) → FaultThere file at refusal → reads_from (needs reason allowed then) file at ≡ stopped_by refusal
  spot_faulty refusal there = spot_fault (number_of refusal.reason) there.stands ∙ ap stopped (sym there.told)

-- ---- one reader after another
-- what the first gives decides: from there the second goes on, or it is stopped
abbrev pub reached : {A B : Type 0} → Reach A → (A → Spot → Reach B) → Reach B
reached (whole what next) then = then what next
reached (stopped notice) then = stopped notice

-- so goes the reading of one after another
pub one_then_other :
    {A B : Type 0} (first : Reader A) (then : A → Reader B) (taken : Spot → Take) (at : Spot) →
    reads_by (first >>= then) taken at ≡ reached (reads_by first taken at) (λ what next. reads_by (then what) taken next)
unfolding reads_by
one_then_other (return what) then taken at = refl
one_then_other (needs reason allowed more) then taken at = by_take (taken at) (λ v next. one_then_other (more v) then taken next)
  where
    by_test :
        (v : ℕ) (next : Spot) (t : Bool) → reads_by (more v >>= then) taken next ≡ reached (reads_by (more v) taken next) (λ what to. reads_by (then what) taken to) →
        cond t (reads_by (more v >>= then) taken next) (stopped (notice (number_of reason) at.place at.byte))
        ≡ reached (cond t (reads_by (more v) taken next) (stopped (notice (number_of reason) at.place at.byte))) (λ what to. reads_by (then what) taken to)
    by_test v next true e = e
    by_test v next false e = refl

    by_take :
        (found : Take) →
        ((v : ℕ) (next : Spot) → reads_by (more v >>= then) taken next ≡ reached (reads_by (more v) taken next) (λ what to. reads_by (then what) taken to)) →
        going_on found (λ (v : ℕ) (next : Spot). cond (allowed v) (reads_by (more v >>= then) taken next) (stopped (notice (number_of reason) at.place at.byte)))
        ≡ reached
        (going_on found (λ (v : ℕ) (next : Spot). cond (allowed v) (reads_by (more v) taken next) (stopped (notice (number_of reason) at.place at.byte))))
        (λ what to. reads_by (then what) taken to)
    by_take (value v next) again = by_test v next (allowed v) (again v next)
    by_take (no_value notice) again = refl

module _ {A B : Type 0} (first : Reader A) (then : A → Reader B) (taken : Spot → Take) (at : Spot) where
  -- the first is read: the second goes on from there
  pub after_whole : (what : A) (next : Spot) → reads_by first taken at ≡ whole what next → reads_by (first >>= then) taken at ≡ reads_by (then what) taken next
  after_whole what next e = one_then_other first then taken at ∙ ap (λ (outcome : Reach A). reached outcome (λ x to. reads_by (then x) taken to)) e

  -- the first is stopped, and so are both
  pub after_stopped : (notice : Notice) → reads_by first taken at ≡ stopped notice → reads_by (first >>= then) taken at ≡ stopped notice
  after_stopped notice e = one_then_other first then taken at ∙ ap (λ (outcome : Reach A). reached outcome (λ x to. reads_by (then x) taken to)) e

-- ---- as a reading by place and byte
-- every number takes a byte: so no more numbers than bytes come before a spot, and its place is counted as it is
pub record Counted (file : List ℕ) (at : Spot) : Type 0 where
  pub numbers : at.place ≤ at.byte
  pub inside : at.byte ≤ length file

pub first_counted : (file : List ℕ) → Counted file first_spot
first_counted file = record { numbers = omega arith; inside = omega arith }

-- a reader put to the file at a spot's place and byte
abbrev pub reads_at : {A : Type 0} → Reader A → List ℕ → Spot → Read A
reads_at reader file at = reads reader file at.place at.byte

-- gives what it gives from that spot on
pub reads_as :
    {A : Type 0} (file : List ℕ) → length file < 2 ^ 64 → (reader : Reader A) (at : Spot) → Counted file at →
    reads_at reader file at ≡ as_read (reads_from reader file at)
unfolding reads reads_by
reads_as file long (return what) at counted = refl
reads_as file long (needs reason allowed then) at counted =
    by_number (read_at file at.byte) refl (λ v next there. reads_as file long (then v) next there)
  where
    by_test :
        (v : ℕ) (next : Spot) (t : Bool) → ValueThere file at v next → next.place ≡ suc at.place → allowed v ≡ t →
        reads_at (then v) file next ≡ as_read (reads_from (then v) file next) →
        reads_at (needs reason allowed then) file at ≡ as_read (reads_from (needs reason allowed then) file at)
    by_test v next true there on h again =
        field_passed file reason allowed then at.place at.byte v next.byte there.stands h
        ∙ ap (λ (p : ℕ). reads (then v) file p next.byte) (sym on)
        ∙ again
        ∙ ap as_read (sym (spot_passed file reason allowed then at v next there h))
    by_test v next false there on h again =
        field_wrong file reason allowed then at.place at.byte v next.byte there.stands h
        ∙ ap (λ (offset : ℕ). refused (notice (number_of reason) at.place offset)) (offset_inside file at.byte counted.inside)
        ∙ ap as_read (sym (spot_wrong file reason allowed then at v next there h))

    by_number :
        (found : Found) → read_at file at.byte ≡ found →
        ((v : ℕ) (next : Spot) → Counted file next → reads_at (then v) file next ≡ as_read (reads_from (then v) file next)) →
        reads_at (needs reason allowed then) file at ≡ as_read (reads_from (needs reason allowed then) file at)
    by_number (a_number_found v n) e again =
        let next : Spot = record { byte = n; place = place_after at.place } in
        let b = bounds file at.byte v n e in
        let on : place_after at.place ≡ suc at.place = one_place_on at.place (omega (arith, b.later, b.inside, counted.numbers)) in
        by_test v next (allowed v) (record { stands = e; place_on = refl }) on refl
        (again v next (record { numbers = omega (arith, on, b.later, counted.numbers); inside = b.inside }))
    by_number (one_fault k) e again =
        field_faulty file reason allowed then at.place at.byte k e ∙ ap as_read (sym (spot_fault file reason allowed then at k e))

-- the whole file, from its first spot
pub file_reads : {A : Type 0} (file : List ℕ) → length file < 2 ^ 64 → (reader : Reader A) → file_read reader file ≡ ended file (as_read (reads_from reader file first_spot))
file_reads file long reader = ap (ended file) (reads_as file long reader first_spot (first_counted file))
