-- The walk over the numbers that the period's reading takes, and how that reading ends: by one induction along a reader of fields.
use Prim.Native.Nat.{ℕ, suc, ◌+◌, ◌≤◌, ◌<◌}
use mathlib.Core.Path.{◌≡◌, refl, sym, ap, ◌∙◌}
use mathlib.Core.List.{List, [], ◌∷◌}
use native.Mathlib.Decide.{dec_le}
use native.Mathlib.Omega.{arith}
use lib.ListN.{length}
use denote.Ref.{Bor}
use Rattle.number.specs.Reading.{Found, number as a_number_found}
use Rattle.number.specs.Counting.{end_of, start_of, number_at}
use Rattle.number.proofs.Counting.{first_start, next_start, start_told}
use Rattle.fields.specs.Readers.{Reader, Read, read, consumes}
use Rattle.fields.specs.Files.{ended}
use Rattle.fields.proofs.FieldByField.{Comes, done as to_end, goes, fails, stops, goes_over}
use Rattle.fields.proofs.Along.{Along, done, needed}
use Rattle.fields.proofs.EndOfFile.{more_left, none_left}
use Rattle.records.specs.Periods.{period, period_file}
use Rattle.records.specs.Numbers.{consumed}
use Rattle.records.proofs.PeriodAlong.{PeriodField, Placed, period_along}
use Rattle.inspector.specs.declared.Inspector.{Inspector}
use Rattle.inspector.specs.Reader.{stepped}
use Rattle.inspector.specs.Walk.{Walks, there, step}
use Rattle.inspector.proofs.Endings.{Ending, all_read, bytes_left, has_fault, not_allowed}

-- ---- the walk over the numbers that reading takes from number k on
-- A reader at a byte of a file.
abbrev pub at_byte : Bor (List ℕ) → ℕ → Inspector
at_byte file at = record { file = file; at = at }

-- A reader where a number of a file starts.
abbrev pub at_number : Bor (List ℕ) → ℕ → Inspector
at_number file k = at_byte file (start_of file.now k)

-- A step over a number goes from where it starts to where the next one does.
pub steps_on :
    (file : Bor (List ℕ)) (k : ℕ) {value next : ℕ} → number_at file.now k ≡ a_number_found value next →
    stepped (at_number file k) ≡ at_number file (suc k)
steps_on file k e =
    ap (λ (found : Found). at_byte file (end_of (start_of file.now k) found)) e ∙ sym (ap (at_byte file) (next_start file.now k e))

-- The walk over some values, how many numbers there are after it, and how reading ends then.
pub record ConsumedWalk {A : Type 0} (file : Bor (List ℕ)) (k : ℕ) (values : List ℕ) (outcome : Read A) : Type 0 where
  pub count : ℕ
  pub counted : k + length values ≡ count
  pub walks : Walks (at_number file k) values (at_number file count)
  pub ending : Ending file.now count outcome

module _ (file : Bor (List ℕ)) where
  module _ {A : Type 0} {k : ℕ} {outcome : Read A} where
    -- none is taken
    taken_none : Ending file.now k outcome → ConsumedWalk file k [] outcome
    taken_none ending = record { count = k; counted = omega arith; walks = there; ending = ending }

    -- one is taken, by a step, and then the others
    taken_one :
        {value next : ℕ} {values : List ℕ} → number_at file.now k ≡ a_number_found value next → ConsumedWalk file (suc k) values outcome →
        ConsumedWalk file k (value ∷ values) outcome
    taken_one {values} e others =
        let on : Walks (stepped (at_number file k)) values (at_number file others.count) = rw (steps_on file k e) others.walks in
        record { count = others.count; counted = omega (arith, others.counted); walks = step e on; ending = others.ending }

  -- the numbers that a reader of fields takes from number k on are a walk, and reading ends after them: number k has a fault, or it is taken,
  -- and the test of its field decides whether the others are
  in_walk :
      {A : Type 0} {P : A → (place at : ℕ) → Type 0} {reader : Reader A} {k at : ℕ} {outcome : Read A} → start_of file.now k ≡ at →
      Along file.now (Placed PeriodField) P reader k at → Comes file.now reader k at outcome →
      ConsumedWalk file k (consumes reader file.now at) (ended file.now outcome)
  unfolding consumes
  in_walk starts (done {what} {place} {at} p) to_end = by_end (dec_le (length file.now) at)
    where
      by_end : Dec (length file.now ≤ at) → ConsumedWalk file place [] (ended file.now (read what place at))
      by_end (yes h) = rw (none_left what place file.now at h, ← starts) (taken_none (all_read (rw starts h)))
      by_end (no h) =
          let more : at < length file.now = omega arith in
          rw (more_left what place file.now at more, ← starts) (taken_none (bytes_left (rw starts more)))
  in_walk {k} {at} starts (needed its more) (goes {v} {n} e h later) =
      let here : number_at file.now k ≡ a_number_found v n = rw starts e in
      rw (e, h) (taken_one here (in_walk (next_start file.now k here) (more v n e h) later))
  in_walk {k} {at} starts (needed (its, room) more) (fails {v} {n} e h) =
      rw (e, h, ← starts, start_told file.now k) (taken_one {next = n} (rw starts e) (taken_none (not_allowed its refl)))
  in_walk {k} {at} starts (needed its more) (stops {k = found} e) =
      rw (e, ← starts, start_told file.now k) (taken_none (has_fault (rw starts e)))

  -- the whole file, from its first number on
  pub period_walked : ConsumedWalk file 0 (consumed file.now) (period_file file.now)
  unfolding consumed period_file
  period_walked = in_walk (first_start file.now) (period_along file.now) (goes_over file.now period 0 0)
