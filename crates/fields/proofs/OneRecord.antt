-- The numbers of one record, taken one after another: one law for each way through a turn of that loop, over any record and whatever they are taken from.
use Rattle.std.proofs.Common.{◌≡◌, ℕ, ◌+◌, ◌<◌, ◌≤◌, Bool, true, false, List, [], ◌∷◌, ◌++◌, length, get_or, take, set, replicate, sym, refl, ap, ◌∙◌, add-one, arith, length-set, length-take-le, take_all, take-suc-set}
use lib.ListN.{length-replicate, get_or-replicate}
use Rattle.number.specs.Groups.{largest}
use Rattle.fields.specs.declared.answer.Refusal.{Refusal}
use Rattle.fields.specs.declared.reason.Reason.{Reason}
use Rattle.fields.specs.declared.reason.Reason.TheVariants.{Ends}
use Rattle.fields.specs.declared.spot.Spot.{Spot}
use Rattle.fields.specs.Reasons.{number_of}
use Rattle.fields.specs.Answers.{notice, notice_of}
use Rattle.fields.specs.Readers.{Reader, return, needs, onward, allows_next}
use Rattle.fields.specs.Spots.{refusal_at, Take, taking_at}
use Rattle.fields.specs.Spots.Take.{value as one_value, refusal as no_value}
use Rattle.fields.specs.Wanting.{Wants, Allowed}
use Rattle.fields.specs.Reaching.{whole, stopped, reads_by, reads_from, stopped_by}
use Rattle.fields.proofs.Takes.{ValueThere, value_taken, within_limit, FaultThere, fault_taken}
use Rattle.fields.proofs.Reaching.{by_passed, by_wrong, by_fault}

module _ {A : Type 0} where
  -- ---- a reader that has taken too few numbers needs one more, with the reason of that field
  data Needing : Reader A → Reason → Type 0 where
    needing : {reason : Reason} {allowed : ℕ → Bool} {then : ℕ → Reader A} → Needing (needs reason allowed then) reason

  onward_needs :
      (reasons : List Reason) (reader : Reader A) (taken : List ℕ) → Wants reasons reader → length taken < length reasons →
      Needing (onward reader taken) (get_or reasons (length taken) Ends)
  unfolding Wants onward
  onward_needs [] reader taken wants more = absurd (omega arith)
  onward_needs (reason ∷ reasons) (return what) taken wants more = absurd wants
  onward_needs (reason ∷ reasons) (needs its allowed then) [] wants more = rw (← wants.0) needing
  onward_needs (reason ∷ reasons) (needs its allowed then) (value ∷ taken) wants more =
      onward_needs reasons (then value) taken (wants.1 value) (omega arith)

  -- one number more goes on by its value
  abbrev one_onward : Reader A → ℕ → Reader A
  one_onward (return what) value = return what
  one_onward (needs reason allowed then) value = then value

  onward_one : (reader : Reader A) (taken : List ℕ) (value : ℕ) → onward reader (taken ++ (value ∷ [])) ≡ one_onward (onward reader taken) value
  unfolding onward
  onward_one (return what) [] value = refl
  onward_one (needs reason allowed then) [] value = refl
  onward_one (return what) (first ∷ taken) value = refl
  onward_one (needs reason allowed then) (first ∷ taken) value = onward_one (then first) taken value

  -- and is allowed by its field
  allowed_one :
      {reason : Reason} (reader : Reader A) (taken : List ℕ) (value : ℕ) → Needing (onward reader taken) reason → Allowed reader taken →
      value ≤ largest → allows_next (onward reader taken) value ≡ true → Allowed reader (taken ++ (value ∷ []))
  unfolding onward Allowed
  allowed_one (needs reason allowed then) [] value need before small passed = (small, passed, tt)
  allowed_one (return what) (first ∷ taken) value need before small passed = absurd before
  allowed_one (needs reason allowed then) (first ∷ taken) value need before small passed =
      (before.0, before.1, allowed_one (then first) taken value need before.2 small passed)
  allowed_one {reason = reason} (return what) [] value need before small passed = elim need [ ]

  -- ---- the loop: so far f of the numbers are taken, and the next one is at a spot
  module _ (reader : Reader A) (taken : Spot → Take) (start : Spot) (wanted : ℕ) where
    pub record Numbers (values : List ℕ) (at : Spot) (f : ℕ) : Type 0 where
      pub sized : length values ≡ wanted
      pub within : f ≤ wanted
      pub comes_to : reads_by reader taken start ≡ reads_by (onward reader (take f values)) taken at
      pub allowed : Allowed reader (take f values)

    -- before the first turn none is taken
    pub none_taken : (values : List ℕ) → length values ≡ wanted → Numbers values start 0
    unfolding onward Allowed
    none_taken values sized = record { sized = sized; within = omega arith; comes_to = refl; allowed = tt }

  module _
      {reader : Reader A} {taken : Spot → Take} {start : Spot} {wanted : ℕ} {values : List ℕ} {at : Spot} {f : ℕ}
      (so_far : Numbers reader taken start wanted values at f) where
    -- all are taken, and nothing else is needed: what was read
    pub all_taken : (what : A) → wanted ≤ f → onward reader values ≡ return what → reads_by reader taken start ≡ whole what at
    unfolding reads_by
    all_taken what all is =
        so_far.comes_to
        ∙ ap (λ (l : List ℕ). reads_by (onward reader l) taken at) (take_all f values (omega (arith, so_far.sized)))
        ∙ ap (λ (r : Reader A). reads_by r taken at) is

    -- the next number, of a record with these reasons
    module _ (reasons : List Reason) (wants : Wants reasons reader) (counted : length reasons ≡ wanted) (more : f < wanted) where
      -- how many were taken before
      before_length : length (take f values) ≡ f
      before_length = length-take-le f values (omega (arith, so_far.sized))

      -- it is needed
      next_needed : Needing (onward reader (take f values)) (get_or reasons f Ends)
      next_needed = rw before_length at (onward_needs reasons reader (take f values) wants (omega (arith, before_length)))

      -- it has a fault
      pub next_faulty : (refusal : Refusal) → taken at ≡ no_value (notice_of refusal) → reads_by reader taken start ≡ stopped_by refusal
      next_faulty refusal there = so_far.comes_to ∙ by_need (onward reader (take f values)) next_needed
        where
          by_need : {reason : Reason} (rest : Reader A) → Needing rest reason → reads_by rest taken at ≡ stopped_by refusal
          by_need (needs reason allowed then) needing = by_fault taken reason allowed then at there
          by_need {reason = reason} (return _) need = elim need [ ]

      module _ (v : ℕ) (next : Spot) (there : taken at ≡ one_value v next) where
        -- its field does not allow it
        pub next_wrong :
            allows_next (onward reader (take f values)) v ≡ false → reads_by reader taken start ≡ stopped (notice (number_of (get_or reasons f Ends)) at.place at.byte)
        next_wrong wrong = so_far.comes_to ∙ by_need (onward reader (take f values)) next_needed wrong
          where
            by_need :
                {reason : Reason} (rest : Reader A) → Needing rest reason → allows_next rest v ≡ false →
                reads_by rest taken at ≡ stopped (notice (number_of reason) at.place at.byte)
            by_need (needs reason allowed then) needing is = by_wrong taken reason allowed then at there is
            by_need {reason = reason} (return _) need is = elim need [ ]

        -- it is allowed: one number more is taken
        pub next_taken :
            v ≤ largest → allows_next (onward reader (take f values)) v ≡ true → Numbers reader taken start wanted (set values f v) next (f + 1)
        next_taken small passed =
            let with_it : take (f + 1) (set values f v) ≡ take f values ++ (v ∷ []) =
            ap (λ (n : ℕ). take n (set values f v)) (add-one f) ∙ take-suc-set values f v (omega (arith, so_far.sized)) in
            let on : onward reader (take (f + 1) (set values f v)) ≡ one_onward (onward reader (take f values)) v =
            ap (onward reader) with_it ∙ onward_one reader (take f values) v in
            record {
              sized = length-set values f v ∙ so_far.sized;
              within = omega arith;
              comes_to =
                  so_far.comes_to
                  ∙ by_need (onward reader (take f values)) next_needed passed
                  ∙ ap (λ (r : Reader A). reads_by r taken next) (sym on);
              allowed =
                  rw with_it
                  (allowed_one reader (take f values) v next_needed so_far.allowed small passed);
            }
          where
            by_need :
                {reason : Reason} (rest : Reader A) → Needing rest reason → allows_next rest v ≡ true →
                reads_by rest taken at ≡ reads_by (one_onward rest v) taken next
            by_need (needs reason allowed then) needing is = by_passed taken reason allowed then at there is
            by_need {reason = reason} (return _) need is = elim need [ ]

    -- of a record whose fields all have one reason, a number that its field does not allow is refused for that
    pub one_wrong :
        (reason : Reason) → Wants (replicate wanted reason) reader → f < wanted → (v : ℕ) (next : Spot) → taken at ≡ one_value v next →
        allows_next (onward reader (take f values)) v ≡ false → reads_by reader taken start ≡ stopped_by (refusal_at at reason)
    one_wrong reason wants more v next there wrong =
        next_wrong (replicate wanted reason) wants (length-replicate wanted reason) more v next there wrong
        ∙ ap (λ (r : Reason). stopped (notice (number_of r) at.place at.byte)) (get_or-replicate wanted f reason Ends more)

-- ---- the next number of a file, by what number reading finds there
module _
    {A : Type 0} {reader : Reader A} {file : List ℕ} {start : Spot} {wanted : ℕ} {values : List ℕ} {at : Spot} {f : ℕ}
    (so_far : Numbers reader (taking_at file) start wanted values at f)
    (reasons : List Reason) (wants : Wants reasons reader) (counted : length reasons ≡ wanted) (more : f < wanted) where
  -- it has a fault
  pub file_faulty : (refusal : Refusal) → FaultThere file at refusal → reads_from reader file start ≡ stopped_by refusal
  file_faulty refusal there = next_faulty so_far reasons wants counted more refusal (fault_taken there)

  module _ (v : ℕ) (next : Spot) (there : ValueThere file at v next) where
    -- its field does not allow it
    pub file_wrong :
        allows_next (onward reader (take f values)) v ≡ false → reads_from reader file start ≡ stopped (notice (number_of (get_or reasons f Ends)) at.place at.byte)
    file_wrong = next_wrong so_far reasons wants counted more v next (value_taken there)

    -- it is allowed: one number more is taken
    pub file_taken : allows_next (onward reader (take f values)) v ≡ true → Numbers reader (taking_at file) start wanted (set values f v) next (f + 1)
    file_taken = next_taken so_far reasons wants counted more v next (value_taken there) (within_limit file at v next (value_taken there))
