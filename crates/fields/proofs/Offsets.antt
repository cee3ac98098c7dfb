-- Where reading stands in a file: behind as many numbers as the place says, there starts the next; so the place of a refusal of reading gives its
-- offset (rule 8.9), and the bytes before the first extra one are a whole file.
use Rattle.std.proofs.Common.{◌≡◌, ℕ, ◌≤◌, Bool, true, false, cond, ltb, List, ◌++◌, length, take, drop, sym, refl, ap, ◌∙◌, true≢false, arith, take-append-drop, length-take, take-take}
use Rattle.number.specs.Reading.{read_at, offset_at}
use Rattle.number.specs.Counting.{start_of}
use Rattle.number.proofs.Laws.{bounds, only_its_bytes}
use Rattle.number.proofs.Counting.{first_start, next_start, start_told}
use Rattle.fields.specs.declared.reason.Reason.{Reason}
use Rattle.fields.specs.declared.reason.Reason.TheVariants.{BytesAfter}
use Rattle.fields.specs.Reasons.{number_of}
use Rattle.fields.specs.Answers.{Notice, notice}
use Rattle.fields.specs.Readers.{Reader, Read, read, refused, reads}
use Rattle.fields.specs.Files.{ended, file_read}
use Rattle.fields.proofs.FieldByField.{Comes, done, goes, fails, stops, comes, goes_over}
use Rattle.fields.proofs.EndOfFile.{none_left}
use Rattle.fields.proofs.Along.{Along, Came, not_allowed, has_fault, comes_to}

-- ---- what was read ends, and a refusal is, where the number with its place starts
pub data Stands {A : Type 0} (file : List ℕ) : Read A → Type 0 where
  behind : {what : A} {place at : ℕ} → at ≡ start_of file place → Stands file (read what place at)
  there : {told : Notice} → told.offset ≡ start_of file told.place → Stands file (refused told)

-- so it is all along a reading that starts there
on_its_way :
    {A : Type 0} (file : List ℕ) {reader : Reader A} {place at : ℕ} {outcome : Read A} → at ≡ start_of file place →
    Comes file reader place at outcome → Stands file outcome
on_its_way file here done = behind here
on_its_way file here (goes {place} {at} {v = v} {n = n} e h later) =
    on_its_way file (sym (next_start file place (ap (read_at file) (sym here) ∙ e))) later
on_its_way file here (fails {place = place} e h) = there (ap (offset_at file) here ∙ start_told file place)
on_its_way file here (stops {place = place} e) = there (ap (offset_at file) here ∙ start_told file place)

-- and at its end
at_the_end : {A : Type 0} (file : List ℕ) {outcome : Read A} → Stands file outcome → Stands file (ended file outcome)
at_the_end file (there e) = there e
at_the_end {A} file (behind {what} {place} {at} here) = by_end (ltb at (length file))
  where
    by_end : (t : Bool) → Stands file (cond t (refused (notice (number_of BytesAfter) place at)) (read what place at))
    by_end true = there here
    by_end false = behind here

module _ {A : Type 0} (reader : Reader A) (file : List ℕ) where
  pub file_stands : Stands file (file_read reader file)
  file_stands = at_the_end file (on_its_way file (sym (first_start file)) (goes_over file reader 0 0))

  -- the offset of a refusal of reading, by its place
  pub refused_stands : (told : Notice) → file_read reader file ≡ refused told → told.offset ≡ start_of file told.place
  refused_stands told e = by_outcome (file_read reader file) e file_stands
    where
      by_outcome : (outcome : Read A) → outcome ≡ refused told → Stands file outcome → told.offset ≡ start_of file told.place
      by_outcome (read what place at) e s = absurd (true≢false (cc))
      by_outcome (refused other) e (there is) = let same : other ≡ told = cc in rw same at is

  -- and what was read ends behind as many numbers as the place says
  pub read_stands : (what : A) (place at : ℕ) → file_read reader file ≡ read what place at → at ≡ start_of file place
  read_stands what place at e = by_outcome (file_read reader file) e file_stands
    where
      by_outcome : (outcome : Read A) → outcome ≡ read what place at → Stands file outcome → at ≡ start_of file place
      by_outcome (refused other) e s = absurd (true≢false (cc))
      by_outcome (read one to byte) e (behind is) =
          let place_is : to ≡ place = cc in
          let byte_is : byte ≡ at = cc in
          rw (place_is, byte_is) at is

-- ---- a reading looks at no byte behind its last number
-- it never goes back
goes_forward :
    {A : Type 0} (file : List ℕ) {reader : Reader A} {place at end to : ℕ} {what : A} → Comes file reader place at (read what end to) → at ≤ to
goes_forward file done = omega arith
goes_forward file (goes {at = at} {v = v} {n = n} e h later) =
    let on = goes_forward file later in
    let b = bounds file at v n e in
    omega (arith, on, b.later)

-- so the bytes up to there give the same
up_to_there :
    {A : Type 0} (file : List ℕ) {reader : Reader A} {place at end to : ℕ} {what : A} → Comes file reader place at (read what end to) →
    Comes (take to file) reader place at (read what end to)
up_to_there file done = done
up_to_there file {to = to} (goes {at = at} {v = v} {n = n} e h later) =
    let inside = goes_forward file later in
    let front : take n file ++ drop n (take to file) ≡ take to file =
    ap (λ (s : List ℕ). s ++ drop n (take to file)) (sym (take-take n to file inside)) ∙ take-append-drop n (take to file) in
    goes (sym (ap (λ (s : List ℕ). read_at s at) front) ∙ only_its_bytes file (drop n (take to file)) at v n e) h (up_to_there file later)

pub whole_before :
    {A : Type 0} (reader : Reader A) (file : List ℕ) (what : A) (place at : ℕ) → reads reader file 0 0 ≡ read what place at →
    file_read reader (take at file) ≡ read what place at
whole_before {A} reader file what place at e =
    ap (ended (take at file)) (comes (take at file) (up_to_there file (by_outcome (reads reader file 0 0) e (goes_over file reader 0 0))))
    ∙ none_left what place (take at file) at (omega (arith, length-take at file))
  where
    by_outcome : (outcome : Read A) → outcome ≡ read what place at → Comes file reader 0 0 outcome → Comes file reader 0 0 (read what place at)
    by_outcome outcome same way = rw same at way

-- ---- 9: the bytes before its offset are a whole file, of as many numbers as its place says
module _
    {A : Type 0} {May : (place at : ℕ) → Reason → Type 0} {P : A → (place at : ℕ) → Type 0} {file : List ℕ} {reader : Reader A}
    (along : Along file May P reader 0 0) (others : (place at : ℕ) (reason : Reason) → May place at reason → number_of reason ≡ number_of BytesAfter → ⊥)
  where
    pub extra_bytes :
        (told : Notice) → file_read reader file ≡ refused told → told.number ≡ number_of BytesAfter →
        (what : A) × (file_read reader (take told.offset file) ≡ read what told.place told.offset)
    extra_bytes told e nine = by_reading (reads reader file 0 0) refl (comes_to along) e
      where
        -- no other test refuses with 9
        not_nine : {other : Notice} → Came file May P (refused other) → other ≡ told → ⊥
        not_nine (not_allowed {reason} {place} {at} may) same = others place at reason may (ap (λ (n : Notice). n.number) same ∙ nine)
        not_nine (has_fault small) same = let is = ap (λ (n : Notice). n.number) same in omega (arith, small, is, nine)

        by_end :
            (what : A) (place at : ℕ) (t : Bool) → reads reader file 0 0 ≡ read what place at →
            cond t (refused (notice (number_of BytesAfter) place at)) (read what place at) ≡ refused told →
            (what : A) × (file_read reader (take told.offset file) ≡ read what told.place told.offset)
        by_end what place at true is same =
            let told_is : notice (number_of BytesAfter) place at ≡ told = cc in
            (what, rw (← told_is) (whole_before reader file what place at is))
        by_end what place at false is same = absurd (true≢false (cc))

        by_reading :
            (outcome : Read A) → reads reader file 0 0 ≡ outcome → Came file May P outcome → ended file outcome ≡ refused told →
            (what : A) × (file_read reader (take told.offset file) ≡ read what told.place told.offset)
        by_reading (refused other) is way same = absurd (not_nine way (cc))
        by_reading (read what place at) is way same = by_end what place at (ltb at (length file)) is same
