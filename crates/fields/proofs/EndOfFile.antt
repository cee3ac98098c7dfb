-- One reader after another, and the end of a file.
use Rattle.std.proofs.Common.{Err, ◌≡◌, ℕ, suc, ◌<◌, ◌≤◌, Bool, true, false, cond, List, length, sym, refl, ap, ◌∙◌, true≢false, arith, le-ltb, lt-ltb}
use native.Mathlib.Decide.{dec_le}
use Rattle.number.specs.Reading.{Found, read_at, offset_at}
use Rattle.number.specs.Reading.Found.{number as a_number_found, fault as one_fault}
use Rattle.fields.specs.declared.answer.Refusal.{Refusal}
use Rattle.fields.specs.declared.reason.Reason.TheVariants.{BytesAfter}
use Rattle.fields.specs.declared.spot.Spot.{Spot}
use Rattle.fields.specs.Reasons.{number_of}
use Rattle.fields.specs.Answers.{Answer, accepted, Notice, notice, accepts, refuses, refusing, said}
use Rattle.fields.specs.Readers.{Reader, return, needs, ◌>>=◌, Read, read, refused, on_found, reads}
use Rattle.fields.specs.Files.{ended, read_verdict}
use Rattle.fields.specs.Spots.{end_at}
use Rattle.fields.specs.Reaching.{read_to, refused_by}

-- ---- one reader after another
-- what the first gives decides: from there the second goes on, or it is refused
abbrev pub next : {A B : Type 0} → Read A → (A → (place at : ℕ) → Read B) → Read B
next (read what place at) then = then what place at
next (refused notice) then = refused notice

-- so goes the reading of one after another
pub one_after :
    {A B : Type 0} (first : Reader A) (then : A → Reader B) (file : List ℕ) (place at : ℕ) →
    reads (first >>= then) file place at ≡ next (reads first file place at) (λ what to byte. reads (then what) file to byte)
unfolding reads
one_after (return what) then file place at = refl
one_after (needs reason allowed more) then file place at = by_found (read_at file at) (λ v n. one_after (more v) then file (suc place) n)
  where
    by_test :
        (v n : ℕ) (t : Bool) → reads (more v >>= then) file (suc place) n ≡ next (reads (more v) file (suc place) n) (λ what to byte. reads (then what) file to byte) →
        cond t (reads (more v >>= then) file (suc place) n) (refused (notice (number_of reason) place (offset_at file at)))
        ≡ next (cond t (reads (more v) file (suc place) n) (refused (notice (number_of reason) place (offset_at file at)))) (λ what to byte. reads (then what) file to byte)
    by_test v n true e = e
    by_test v n false e = refl

    by_found :
        (found : Found) →
        ((v n : ℕ) → reads (more v >>= then) file (suc place) n ≡ next (reads (more v) file (suc place) n) (λ what to byte. reads (then what) file to byte)) →
        on_found place (offset_at file at) found (λ (v n : ℕ).
        cond (allowed v) (reads (more v >>= then) file (suc place) n) (refused (notice (number_of reason) place (offset_at file at))))
        ≡ next
        (on_found place (offset_at file at) found (λ (v n : ℕ).
        cond (allowed v) (reads (more v) file (suc place) n) (refused (notice (number_of reason) place (offset_at file at)))))
        (λ what to byte. reads (then what) file to byte)
    by_found (a_number_found v n) again = by_test v n (allowed v) (again v n)
    by_found (one_fault k) again = refl

module _ {A B : Type 0} (first : Reader A) (then : A → Reader B) (file : List ℕ) (place at : ℕ) where
  -- the first is read: the second goes on from there
  pub after_read :
      (what : A) (to byte : ℕ) → reads first file place at ≡ read what to byte → reads (first >>= then) file place at ≡ reads (then what) file to byte
  after_read what to byte e = one_after first then file place at ∙ ap (λ (outcome : Read A). next outcome (λ x p b. reads (then x) file p b)) e

  -- the first is refused, and so are both
  pub after_refused : (notice : Notice) → reads first file place at ≡ refused notice → reads (first >>= then) file place at ≡ refused notice
  after_refused notice e = one_after first then file place at ∙ ap (λ (outcome : Read A). next outcome (λ x p b. reads (then x) file p b)) e

-- ---- the end of the file
module _ {A : Type 0} (what : A) (place : ℕ) (file : List ℕ) (at : ℕ) where
  -- bytes are left
  pub more_left : at < length file → ended file (read what place at) ≡ refused (notice (number_of BytesAfter) place at)
  more_left h = rw (lt-ltb at (length file) h) refl

  -- none are left
  pub none_left : length file ≤ at → ended file (read what place at) ≡ read what place at
  none_left h = rw (le-ltb at (length file) h) refl

-- so says the end of a file that was read up to a spot
pub end_verdict : {A : Type 0} (file : List ℕ) (at : Spot) (what : A) → read_verdict (ended file (read_to what at)) ≡ end_at file at
end_verdict file at what = by_end (dec_le (length file) at.byte)
  where
    by_end : Dec (length file ≤ at.byte) → read_verdict (ended file (read_to what at)) ≡ end_at file at
    by_end (yes h) = rw (le-ltb at.byte (length file) h) refl
    by_end (no h) =
        let more : at.byte < length file = omega arith in
        rw (lt-ltb at.byte (length file) more) refl

-- ---- what the code's `nothing_after` says of it
module _ {A : Type 0} (file : List ℕ) (at : Spot) (answer : Answer) (is : said answer ≡ end_at file at) (what : A) where
  -- bytes that follow are refused
  pub bytes_after : (refusal : Refusal) → answer ≡ Err refusal → ended file (read_to what at) ≡ refused_by refusal
  bytes_after refusal e = by_end (dec_le (length file) at.byte) (sym (ap said e) ∙ is)
    where
      by_end : Dec (length file ≤ at.byte) → refusing refusal ≡ end_at file at → ended file (read_to what at) ≡ refused_by refusal
      by_end (yes h) same =
          let here : end_at file at ≡ accepts = rw (le-ltb at.byte (length file) h) refl in
          absurd (true≢false (cc))
      by_end (no h) same =
          let more : at.byte < length file = omega arith in
          let here : end_at file at ≡ refuses (notice (number_of BytesAfter) at.place at.byte) = rw (lt-ltb at.byte (length file) more) refl in
          more_left what at.place file at.byte more ∙ ap refused (cc)

  -- else the file ends there
  pub file_ends : answer ≡ accepted → ended file (read_to what at) ≡ read_to what at
  file_ends e = by_end (dec_le (length file) at.byte) (sym (ap said e) ∙ is)
    where
      by_end : Dec (length file ≤ at.byte) → accepts ≡ end_at file at → ended file (read_to what at) ≡ read_to what at
      by_end (yes h) same = none_left what at.place file at.byte h
      by_end (no h) same =
          let more : at.byte < length file = omega arith in
          let here : end_at file at ≡ refuses (notice (number_of BytesAfter) at.place at.byte) = rw (lt-ltb at.byte (length file) more) refl in
          absurd (true≢false (cc))
