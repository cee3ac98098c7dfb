-- What a walk over a file gives: the numbers that the period's reading consumed, in order (rule 11.4). If the file is accepted, or refused after
-- reading, for 10 to 15, these are all. If it is refused for 1 to 9, a walk of as many steps as the place says stands at the offset (rule 8.9): for 1,
-- 2 or 3 it stops there with that fault; for 4 to 8 the refused number is the last of them; for 9 bytes are left there.
use Prim.Native.Nat.{ℕ, zero, suc, ◌+◌, ◌≤◌, ◌<◌}
use mathlib.Core.Path.{◌≡◌, refl, sym, ap, ◌∙◌}
use mathlib.Core.Bool.{true≢false}
use mathlib.Core.List.{List}
use native.Mathlib.Nat.{zero-add, add-zero}
use native.Mathlib.Omega.{arith}
use lib.ListN.{length, get_or, take}
use lib.Seq.{length-take-le}
use denote.Ref.{Bor}
use Rattle.number.specs.Reading.{fault as one_fault, read_at, ends, too_large}
use Rattle.number.specs.Counting.{start_of, number_at, value_at}
use Rattle.number.proofs.Laws.{past_end}
use Rattle.number.proofs.Counting.{first_start, value_is, starts_inside}
use Rattle.fields.specs.declared.reason.Reason.TheVariants.{WrongEdition, WrongLine, BytesAfter}
use Rattle.fields.specs.Answers.{Notice}
use Rattle.fields.specs.Readers.{Read, read, refused}
use Rattle.fields.specs.Reasons.{number_of}
use Rattle.records.specs.Periods.{Period, period_file}
use Rattle.records.specs.Numbers.{period_numbers, consumed}
use Rattle.accounts.specs.Order.{refusal, accepted}
use Rattle.accounts.specs.Quantified.{after_reading, quantified}
use Rattle.accounts.specs.Accepted.{Accepted, held}
use Rattle.accounts.proofs.Testing.{refusal_not_accepted}
use Rattle.accounts.proofs.Numbered.{from_reading}
use Rattle.inspector.specs.declared.Inspector.{Inspector}
use Rattle.inspector.specs.Reader.{begun, finds_next, stepped}
use Rattle.inspector.specs.Walk.{Walks, there, step, Walked, Stops}
use Rattle.inspector.proofs.AcceptedNumbers.{accepted_consumed}
use Rattle.inspector.proofs.Endings.{Ending, read_ending, fault_ending, field_ending, after_ending, early_ending, offset_ending}
use Rattle.inspector.proofs.WalkOverConsumed.{at_byte, at_number, steps_on, period_walked}

-- ---- where a walk ends
-- it begins where the first number starts
begins : (file : Bor (List ℕ)) → begun file ≡ at_number file 0
begins file = rw (first_start file.now) refl

-- each step goes from where a number starts to where the next one does
stands_from :
    (file : Bor (List ℕ)) {values : List ℕ} {reader last : Inspector} (k end : ℕ) → k + length values ≡ end → reader ≡ at_number file k →
    Walks reader values last → last ≡ at_number file end
stands_from file k end e is there = let same : k ≡ end = omega (arith, e) in rw (← same) is
stands_from file k end e is (step is_number more) =
    stands_from file (suc k) end (omega (arith, e)) (ap stepped is ∙ steps_on file k (rw is at is_number)) more

-- after k steps the reader stands where number k of the file starts
pub stands :
    {file : Bor (List ℕ)} {values : List ℕ} {last : Inspector} → Walks (begun file) values last →
    last ≡ record { file = file; at = start_of file.now (length values) }
stands {file} {values} walks = stands_from file 0 (length values) (omega arith) (begins file) walks

-- and the values are those of the file's numbers
value_from :
    (file : Bor (List ℕ)) {values : List ℕ} {reader last : Inspector} (k i : ℕ) → reader ≡ at_number file k → Walks reader values last →
    i < length values → value_at file.now (k + i) ≡ get_or values i 0
value_from file k i is there h = absurd (omega (arith, h))
value_from file k zero is (step is_number more) h = rw (add-zero k) (value_is file.now k (rw is at is_number))
value_from file k (suc i) is (step is_number more) h =
    let next : k + suc i ≡ suc k + i = omega arith in
    rw next (value_from file (suc k) i (ap stepped is ∙ steps_on file k (rw is at is_number)) more (omega (arith, h)))

-- the values of a walk from the start are those of the file's numbers
pub walked_value :
    {file : Bor (List ℕ)} {values : List ℕ} {last : Inspector} → Walks (begun file) values last → (k : ℕ) → k < length values →
    value_at file.now k ≡ get_or values k 0
walked_value {file} walks k h = rw zero-add at (value_from file 0 k (begins file) walks h)

-- at a fault a walk stops: the next step says the fault, and the reader stays
pub stopped :
    {file : Bor (List ℕ)} {values : List ℕ} {last : Inspector} {at found : ℕ} → Walks (begun file) values last → last ≡ at_byte file at →
    read_at file.now at ≡ one_fault found → Stops file values found at
stopped {last} walks is e = record { last = last; walks = walks; stands = is; fault = rw is e; stays = rw (is, e) refl }

-- ---- a walk that stops is the only one
-- if a step answers a number, it answers no fault
one_from :
    {reader last last' : Inspector} {values values' : List ℕ} {found found' : ℕ} → Walks reader values last → finds_next last ≡ one_fault found →
    Walks reader values' last' → finds_next last' ≡ one_fault found' → (values ≡ values') × (last ≡ last')
one_from there stop there stop' = (refl, refl)
one_from there stop (step is_number' more') stop' = absurd (true≢false (cc))
one_from (step is_number more) stop there stop' = absurd (true≢false (cc))
one_from (step {value} is_number more) stop (step {value = value'} is_number' more') stop' =
    let (others, end) = one_from more stop more' stop' in
    let same : value ≡ value' = cc in
    (rw (same, others), end)

-- a walk from the start that stops is the only one
pub one_walk :
    {file : Bor (List ℕ)} {values values' : List ℕ} {refusal refusal' at at' : ℕ} → Stops file values refusal at → Stops file values' refusal' at' →
    (values ≡ values') × (refusal ≡ refusal') × (at ≡ at')
one_walk a b =
    let (values_are, end) = one_from a.walks a.fault b.walks b.fault in
    (values_are, cc (ap finds_next end, a.fault, b.fault), ap (λ (reader : Inspector). reader.at) (sym a.stands ∙ end ∙ b.stands))

-- ---- the numbers that the period's reading consumed
-- the walk from the start gives them
pub consumed_walked : (file : Bor (List ℕ)) → Walked file (consumed file.now)
consumed_walked file = let all = period_walked file in record { last = at_number file all.count; walks = rw (begins file) all.walks }

module _ (file : Bor (List ℕ)) where
  -- how many they are, and where the next one starts
  abbrev steps : ℕ
  steps = length (consumed file.now)

  abbrev after : ℕ
  after = start_of file.now steps

  -- reading ended after them
  ending : Ending file.now steps (period_file file.now)
  ending =
      let all = period_walked file in
      let count_is : all.count ≡ steps = omega (arith, all.counted) in
      rw count_is at all.ending

  -- the walk stops after them if the next number has a fault
  consumed_stops : {found : ℕ} → number_at file.now steps ≡ one_fault found → Stops file (consumed file.now) found after
  consumed_stops e = let walks = (consumed_walked file).walks in stopped walks (stands walks) e

-- ---- a file that is read to its end
-- the numbers that it consumed are all: the reader then stands at the end, where it finds fault 1
pub read_walked :
    (file : Bor (List ℕ)) {what : Period} {place at : ℕ} → period_file file.now ≡ read what place at →
    Stops file (consumed file.now) ends (length file.now)
read_walked file is =
    let past = read_ending (rw is at (ending file)) in
    let end_is : after file ≡ length file.now = omega (arith, past, starts_inside file.now (steps file)) in
    rw end_is at (consumed_stops file (past_end file.now (after file) past))

-- an accepted file is read to its end, as a refusal is no acceptance
pub accepted_walked :
    {plants segments : List ℕ} (file : Bor (List ℕ)) → Accepted file.now plants segments →
    Stops file (consumed file.now) ends (length file.now)
unfolding quantified
accepted_walked {plants} {segments} file given = by_reading (period_file file.now) refl given.answer
  where
    by_reading :
        (outcome : Read Period) → period_file file.now ≡ outcome →
        after_reading file.now outcome given.plant_table given.segment_table ≡ accepted plants segments →
        Stops file (consumed file.now) ends (length file.now)
    by_reading (refused notice) is e = absurd (refusal_not_accepted e)
    by_reading (read what place at) is e = read_walked file is

-- and its numbers are those of the period that it holds
pub accepted_numbers :
    {plants segments : List ℕ} (file : Bor (List ℕ)) → Accepted file.now plants segments →
    Stops file (period_numbers (held file.now)) ends (length file.now)
accepted_numbers file given = rw (← accepted_consumed given) (accepted_walked file given)

-- ---- a file that reading refuses
-- the first steps of a walk are a walk
first_steps :
    {reader last : Inspector} {values : List ℕ} (k : ℕ) → k ≤ length values → Walks reader values last →
    (middle : Inspector) × Walks reader (take k values) middle
first_steps {reader} zero few walks = (reader, there)
first_steps (suc k) few there = absurd (omega (arith, few))
first_steps {reader = reader} (suc k) few (step is_number more) =
    let (middle, walks) = first_steps {reader = stepped reader} k (omega (arith, few)) more in (middle, step is_number walks)

module _ (file : Bor (List ℕ)) (plant_table segment_table : ℕ) (told : Notice) (is : quantified file.now plant_table segment_table ≡ refusal told) where
  -- a refusal up to 9 is how reading ended
  refused_ending : told.number ≤ number_of BytesAfter → Ending {A = Period} file.now (steps file) (refused told)
  unfolding quantified
  refused_ending early = rw (from_reading file.now plant_table segment_table told (period_file file.now) is early) at (ending file)

  -- after as many steps as the place says, the reader stands at the offset
  pub offset_walked :
      told.number ≤ number_of BytesAfter →
      (length (take told.place (consumed file.now)) ≡ told.place)
      × Walks (begun file) (take told.place (consumed file.now)) (record { file = file; at = told.offset })
  offset_walked early =
      let (few, offset_is) = offset_ending (refused_ending early) in
      let (middle, walks) = first_steps told.place few (consumed_walked file).walks in
      let so_many : length (take told.place (consumed file.now)) ≡ told.place = length-take-le told.place (consumed file.now) few in
      let there_is : middle ≡ at_byte file told.offset = stands walks ∙ ap (at_byte file) (ap (start_of file.now) so_many ∙ sym offset_is) in
      (so_many, rw there_is at walks)

  -- 1, 2 or 3: the walk stops with that fault at the offset, after as many steps as the place says
  pub refused_walked :
      told.number ≤ too_large → (length (consumed file.now) ≡ told.place) × Stops file (consumed file.now) told.number told.offset
  refused_walked most =
      let ends_so = refused_ending (omega (arith, most)) in
      let (count_is, e) = fault_ending most ends_so in
      let offset_is = (offset_ending ends_so).1 in
      (count_is, rw (ap (start_of file.now) count_is ∙ sym offset_is) at (consumed_stops file e))

  -- 4 to 8: the walk gives the refused number as its last
  pub field_refused_counted :
      number_of WrongEdition ≤ told.number → told.number ≤ number_of WrongLine → length (consumed file.now) ≡ suc told.place
  field_refused_counted least most = field_ending least most (refused_ending (omega (arith, most)))

  -- 9: the walk gives as many numbers as the place says, and the reader then stands at the offset, before the end
  pub bytes_after_counted :
      told.number ≡ number_of BytesAfter → (length (consumed file.now) ≡ told.place) × (told.offset < length file.now)
  bytes_after_counted nine =
      let ends_so = refused_ending (omega (arith, nine)) in
      let (count_is, before) = after_ending nine ends_so in
      (count_is, rw (ap (start_of file.now) count_is ∙ sym (offset_ending ends_so).1) at before)

  -- 10 to 15: the file is read to its end, since reading refuses with 9 at most
  pub late_refused_walked : number_of BytesAfter < told.number → Stops file (consumed file.now) ends (length file.now)
  unfolding quantified
  late_refused_walked late = by_reading (period_file file.now) refl is
    where
      by_reading :
          (outcome : Read Period) → period_file file.now ≡ outcome → after_reading file.now outcome plant_table segment_table ≡ refusal told →
          Stops file (consumed file.now) ends (length file.now)
      by_reading (refused found) is e =
          let same : found ≡ told = cc in
          absurd (omega (arith, late, ap (λ (n : Notice). n.number) same, early_ending (rw is at (ending file))))
      by_reading (read what place at) is e = read_walked file is
