-- Records of one kind, a count of them, read one after another. One law for each way through a turn of the loop, over any kind of record.
use Rattle.std.proofs.Common.{◌≡◌, ℕ, suc, ◌+◌, ◌-◌, ◌<◌, ◌≤◌, List, [], ◌∷◌, ◌++◌, length, sym, refl, ap, ◌∙◌, append_assoc, append-nil, arith, length-append}
use Rattle.fields.specs.declared.answer.Refusal.{Refusal}
use Rattle.fields.specs.declared.spot.Spot.{Spot}
use Rattle.fields.specs.Answers.{Notice}
use Rattle.fields.specs.Readers.{Reader, return, ◌>>=◌, each}
use Rattle.fields.specs.Spots.{Take}
use Rattle.fields.specs.Reaching.{Reach, whole, stopped, reads_by, stopped_by}
use Rattle.fields.proofs.Reaching.{reached, one_then_other, after_whole, after_stopped}

-- what is read by a number is read by the one that is due, if they are the same: a proof then asks whether they are, and not how the code forms its own
pub reads_due :
    {B : Type 0} (by_number : ℕ → Reader B) (taken : Spot → Take) (at : Spot) (due : ℕ) {given : ℕ} {outcome : Reach B} →
    reads_by (by_number given) taken at ≡ outcome → given ≡ due → reads_by (by_number due) taken at ≡ outcome
reads_due by_number taken at due came is = rw (sym is) came

module _ {A : Type 0} where
  -- records that were read before those of the outcome
  abbrev pub behind : List A → Reach (List A) → Reach (List A)
  behind done (whole records next) = whole (done ++ records) next
  behind done (stopped notice) = stopped notice

  -- records behind others
  behind_behind : (a b : List A) (outcome : Reach (List A)) → behind a (behind b outcome) ≡ behind (a ++ b) outcome
  behind_behind a b (whole records next) = ap (λ (l : List A). whole l next) (sym (append_assoc a b records))
  behind_behind a b (stopped notice) = refl

  -- behind none
  behind_none : (outcome : Reach (List A)) → behind [] outcome ≡ outcome
  behind_none (whole records next) = refl
  behind_none (stopped notice) = refl

  -- ---- the first of a count of records is read, and the others behind it; or it is refused
  module _ (one : ℕ → Reader A) (own count : ℕ) (taken : Spot → Take) (at : Spot) where
    abbrev others : A → Reader (List A)
    others what = each one (suc own) count >>= λ (rest : List A). return (what ∷ rest)

    each_read :
        (what : A) (next : Spot) → reads_by (one own) taken at ≡ whole what next →
        reads_by (each one own (suc count)) taken at ≡ behind (what ∷ []) (reads_by (each one (suc own) count) taken next)
    unfolding each reads_by
    each_read what next e =
        after_whole (one own) others taken at what next e
        ∙ one_then_other (each one (suc own) count) (λ (rest : List A). return (what ∷ rest)) taken next
        ∙ in_front (reads_by (each one (suc own) count) taken next)
      where
        in_front :
            (outcome : Reach (List A)) →
            reached outcome (λ records to. reads_by (return (what ∷ records)) taken to) ≡ behind (what ∷ []) outcome
        in_front (whole records to) = refl
        in_front (stopped notice) = refl

    each_refused :
        (notice : Notice) → reads_by (one own) taken at ≡ stopped notice → reads_by (each one own (suc count)) taken at ≡ stopped notice
    unfolding each
    each_refused notice e = after_stopped (one own) others taken at notice e

  -- ---- so far p of the records are read, and the next one starts at a spot
  module _ (one : ℕ → Reader A) (taken : Spot → Take) (start : Spot) (count : ℕ) where
    pub record Passed (done : List A) (at : Spot) (p : ℕ) : Type 0 where
      pub counted : length done ≡ p
      pub within : p ≤ count
      pub comes_to : reads_by (each one 1 count) taken start ≡ behind done (reads_by (each one (suc p) (count - p)) taken at)

    -- before the first turn none is read
    pub none_passed : Passed [] start 0
    none_passed =
        let rest : count - 0 ≡ count = omega arith in
        record {
          counted = refl;
          within = omega arith;
          comes_to = sym (behind_none (reads_by (each one 1 (count - 0)) taken start) ∙ ap (λ (n : ℕ). reads_by (each one 1 n) taken start) rest);
        }

  module _
      {one : ℕ → Reader A} {taken : Spot → Take} {start : Spot} {count : ℕ} {done : List A} {at : Spot} {p : ℕ}
      (so_far : Passed one taken start count done at p) where
    -- a record is left to read: the outcome of all depends on it
    one_left : p < count → reads_by (each one 1 count) taken start ≡ behind done (reads_by (each one (suc p) (suc (count - (p + 1)))) taken at)
    one_left more =
        let rest : count - p ≡ suc (count - (p + 1)) = omega arith in
        so_far.comes_to ∙ ap (λ (n : ℕ). behind done (reads_by (each one (suc p) n) taken at)) rest

    -- it is read
    pub one_passed :
        p < count → (what : A) (next : Spot) → reads_by (one (suc p)) taken at ≡ whole what next →
        Passed one taken start count (done ++ (what ∷ [])) next (p + 1)
    one_passed more what next e =
        let again : suc (suc p) ≡ suc (p + 1) = omega arith in
        record {
          counted = length-append done (what ∷ []) ∙ ap (λ (n : ℕ). n + 1) so_far.counted;
          within = omega arith;
          comes_to =
              one_left more
              ∙ ap (behind done) (each_read one (suc p) (count - (p + 1)) taken at what next e)
              ∙ behind_behind done (what ∷ []) (reads_by (each one (suc (suc p)) (count - (p + 1))) taken next)
              ∙ ap (λ (n : ℕ). behind (done ++ (what ∷ [])) (reads_by (each one n (count - (p + 1))) taken next)) again;
        }

    -- it is refused, and so are all
    pub one_refused :
        p < count → (refusal : Refusal) → reads_by (one (suc p)) taken at ≡ stopped_by refusal → reads_by (each one 1 count) taken start ≡ stopped_by refusal
    one_refused more refusal e =
        one_left more ∙ ap (behind done) (each_refused one (suc p) (count - (p + 1)) taken at _ e)

    -- none is left: all are read
    pub none_left : count ≤ p → reads_by (each one 1 count) taken start ≡ whole done at
    unfolding each reads_by
    none_left all =
        let none : count - p ≡ 0 = omega arith in
        so_far.comes_to
        ∙ ap (λ (n : ℕ). behind done (reads_by (each one (suc p) n) taken at)) none
        ∙ ap (λ (l : List A). whole l at) (append-nil done)
