-- The numbers that a reader consumes of a file, by what it gives; and what is known of what it gives.
use Rattle.std.proofs.Common.{◌≡◌, ℕ, zero, suc, ◌+◌, ◌*◌, ◌≤◌, Bool, true, false, List, [], ◌∷◌, ◌++◌, length, sym, refl, ap, ◌∙◌, true≢false, append-nil, arith, length-append}
use Rattle.number.specs.Groups.{largest}
use Rattle.number.specs.Reading.{Found, read_at}
use Rattle.number.specs.Reading.Found.{number as a_number_found, fault as one_fault}
use Rattle.number.specs.Counting.{start_of}
use Rattle.number.proofs.Laws.{bounds}
use Rattle.number.proofs.Counting.{next_start}
use Rattle.fields.specs.declared.spot.Spot.{Spot}
use Rattle.fields.specs.Readers.{Reader, return, needs, ◌>>=◌, each, read, consumes}
use Rattle.fields.specs.Spots.{place_after}
use Rattle.fields.specs.Reaching.{whole, reads_by, reads_from}
use Rattle.fields.specs.Lists.{Each, in_turn}
use Rattle.fields.proofs.FieldByField.{Comes, done as all_read, goes}
use Rattle.fields.proofs.Reaching.{spot_passed, spot_wrong, spot_fault}

-- ---- whatever allowed numbers a reader takes, they and what it gives have a property
unfoldable pub Gives : {A : Type 0} → (List ℕ → A → Type 0) → Reader A → Type 0
Gives P (return what) = P [] what
Gives P (needs reason allowed then) = (value : ℕ) → value ≤ largest → allowed value ≡ true → Gives (λ more. P (value ∷ more)) (then value)

-- so have the numbers that it consumes of a file and what reading gives
pub consumed_has :
    {A : Type 0} {file : List ℕ} (P : List ℕ → A → Type 0) {reader : Reader A} {place at end to : ℕ} {what : A} → Gives P reader →
    Comes file reader place at (read what end to) → P (consumes reader file at) what
unfolding Gives consumes
consumed_has P given all_read = given
consumed_has {file} P given (goes {at} {v} {n} e h later) =
    rw (e, h) (consumed_has (λ more. P (v ∷ more)) (given v (bounds file at v n e).small h) later)

-- and what it gives has it, from whatever spot it is read
pub whole_has :
    {A : Type 0} (P : A → Type 0) (file : List ℕ) (reader : Reader A) (at : Spot) (what : A) (next : Spot) → Gives (λ numbers. P) reader →
    reads_from reader file at ≡ whole what next → P what
unfolding Gives reads_by
whole_has P file (return one) at what next given e = let same : one ≡ what = cc in rw same at given
whole_has P file (needs reason allowed then) at what next given e =
    by_number (read_at file at.byte) refl (λ v to its rest. whole_has P file (then v) to what next its rest)
  where
    by_number :
        (found : Found) → read_at file at.byte ≡ found →
        ((v : ℕ) (to : Spot) → Gives (λ numbers. P) (then v) → reads_from (then v) file to ≡ whole what next → P what) → P what
    by_number (one_fault k) is again = absurd (true≢false (cc (spot_fault file reason allowed then at k is)))
    by_number (a_number_found v n) is again = by_test (allowed v) refl
      where
        by_test : (t : Bool) → allowed v ≡ t → P what
        by_test true h =
            let to : Spot = record { byte = n; place = place_after at.place } in
            again v to (given v (bounds file at.byte v n is).small h)
            (sym (spot_passed file reason allowed then at v to (record { stands = is; place_on = refl }) h) ∙ e)
        by_test false h =
            let to : Spot = record { byte = n; place = place_after at.place } in
            absurd (true≢false (cc (spot_wrong file reason allowed then at v to (record { stands = is; place_on = refl }) h)))

-- ---- from a spot where number k starts, a reader comes to where the number behind all that it took starts
pub whole_starts :
    {A : Type 0} (P : List ℕ → A → Type 0) (file : List ℕ) (reader : Reader A) (at : Spot) (k : ℕ) (what : A) (next : Spot) → Gives P reader →
    at.byte ≡ start_of file k → reads_from reader file at ≡ whole what next →
    (numbers : List ℕ) × P numbers what × (next.byte ≡ start_of file (length numbers + k))
unfolding Gives reads_by
whole_starts P file (return one) at k what next given here e =
    let same : one ≡ what = cc in
    let there : at ≡ next = cc in
    let none : 0 + k ≡ k = omega arith in
    ([], rw same at given, rw (← there, none) here)
whole_starts P file (needs reason allowed then) at k what next given here e =
    by_number (read_at file at.byte) refl (λ v to. whole_starts (λ more. P (v ∷ more)) file (then v) to (suc k) what next)
  where
    After : ℕ → Spot → Type 0
    After v to =
        Gives (λ more. P (v ∷ more)) (then v) → to.byte ≡ start_of file (suc k) → reads_from (then v) file to ≡ whole what next →
        (numbers : List ℕ) × P (v ∷ numbers) what × (next.byte ≡ start_of file (length numbers + suc k))

    by_test :
        (v n : ℕ) (t : Bool) → read_at file at.byte ≡ a_number_found v n → allowed v ≡ t → After v (record { byte = n; place = place_after at.place }) →
        (numbers : List ℕ) × P numbers what × (next.byte ≡ start_of file (length numbers + k))
    by_test v n true is h again =
        let to : Spot = record { byte = n; place = place_after at.place } in
        let starts : n ≡ start_of file (suc k) = sym (next_start file k (ap (read_at file) (sym here) ∙ is)) in
        let (more, its, ends) =
        again (given v (bounds file at.byte v n is).small h) starts
        (sym (spot_passed file reason allowed then at v to (record { stands = is; place_on = refl }) h) ∙ e) in
        let on : length more + suc k ≡ suc (length more) + k = omega arith in
        (v ∷ more, its, rw on at ends)
    by_test v n false is h again =
        let to : Spot = record { byte = n; place = place_after at.place } in
        absurd (true≢false (cc (spot_wrong file reason allowed then at v to (record { stands = is; place_on = refl }) h)))

    by_number :
        (found : Found) → read_at file at.byte ≡ found → ((v : ℕ) (to : Spot) → After v to) →
        (numbers : List ℕ) × P numbers what × (next.byte ≡ start_of file (length numbers + k))
    by_number (one_fault f) is again = absurd (true≢false (cc (spot_fault file reason allowed then at f is)))
    by_number (a_number_found v n) is again = by_test v n (allowed v) is refl (again v (record { byte = n; place = place_after at.place }))

-- what follows from the property they have as well
pub gives_on :
    {A : Type 0} (P Q : List ℕ → A → Type 0) (reader : Reader A) → ((all : List ℕ) (what : A) → P all what → Q all what) →
    Gives P reader → Gives Q reader
unfolding Gives
gives_on P Q (return what) then given = then [] what given
gives_on P Q (needs reason allowed more) then given =
    λ value small passed. gives_on (λ all. P (value ∷ all)) (λ all. Q (value ∷ all)) (more value) (λ all. then (value ∷ all)) (given value small passed)

-- one reader after another
pub gives_then :
    {A B : Type 0} (P : List ℕ → A → Type 0) (Q : List ℕ → B → Type 0) (first : Reader A) (then : A → Reader B) → Gives P first →
    ((numbers : List ℕ) (what : A) → P numbers what → Gives (λ more. Q (numbers ++ more)) (then what)) → Gives Q (first >>= then)
unfolding Gives
gives_then P Q (return what) then given rest = rest [] what given
gives_then P Q (needs reason allowed more) then given rest =
    λ value small passed.
    gives_then (λ all. P (value ∷ all)) (λ all. Q (value ∷ all)) (more value) then (given value small passed) (λ numbers. rest (value ∷ numbers))

-- a count of records, each of which has its property
pub gives_each :
    {A : Type 0} (P : ℕ → A → Type 0) (one : ℕ → Reader A) → ((own : ℕ) → Gives (λ numbers. P own) (one own)) →
    (own count : ℕ) → Gives (λ numbers all. (length all ≡ count) × Each P own all) (each one own count)
unfolding Gives each Each
gives_each P one has own zero = (refl, tt)
gives_each P one has own (suc count) =
    gives_then _ _ (one own) _ (has own) (λ front what its.
    gives_then _ _ (each one (suc own) count) _ (gives_each P one has (suc own) count) (λ behind rest are.
    (ap suc are.0, (its, are.1))))

-- ---- the numbers that a reader takes are those of what it gives
abbrev pub Consumes : {A : Type 0} → (A → List ℕ) → Reader A → Type 0
Consumes numbers reader = Gives (λ all what. all ≡ numbers what) reader

-- of a count of records they are those of each
abbrev pub Counted : {A : Type 0} → (A → List ℕ) → ℕ → List ℕ → List A → Type 0
Counted numbers count all what = (all ≡ in_turn numbers what) × (length what ≡ count)

pub consumes_each :
    {A : Type 0} (numbers : A → List ℕ) (one : ℕ → Reader A) → ((own : ℕ) → Consumes numbers (one own)) →
    (own count : ℕ) → Gives (Counted numbers count) (each one own count)
unfolding Gives each in_turn
consumes_each numbers one takes own zero = (refl, refl)
consumes_each numbers one takes own (suc count) =
    gives_then _ _ (one own) _ (takes own) (λ front what is.
    gives_then _ _ (each one (suc own) count) _ (consumes_each numbers one takes (suc own) count) (λ behind rest are.
    (rw (is, are.0) (simp append-nil), ap suc are.1)))

-- ---- how many numbers a reader takes, whatever they are
abbrev pub Takes : {A : Type 0} → ℕ → Reader A → Type 0
Takes count reader = Gives (λ numbers what. length numbers ≡ count) reader

-- so from the start of number k it comes to the start of the one that many further on
pub starts_on :
    {A : Type 0} (count : ℕ) (file : List ℕ) (reader : Reader A) (at : Spot) (k : ℕ) (what : A) (next : Spot) → Takes count reader →
    at.byte ≡ start_of file k → reads_from reader file at ≡ whole what next → next.byte ≡ start_of file (count + k)
starts_on count file reader at k what next takes here e =
    let (numbers, so_many, ends) = whole_starts _ file reader at k what next takes here e in
    rw so_many at ends

-- a count of records takes as many for each
pub takes_each :
    {A : Type 0} (fields : ℕ) (one : ℕ → Reader A) → ((own : ℕ) → Takes fields (one own)) → (own count : ℕ) → Takes (fields * count) (each one own count)
unfolding Gives each
takes_each fields one takes own zero = omega arith
takes_each fields one takes own (suc count) =
    gives_then _ _ (one own) _ (takes own) (λ front what is.
    gives_then _ _ (each one (suc own) count) _ (takes_each fields one takes (suc own) count) (λ behind rest are.
    simp append-nil (length-append front behind ∙ omega (arith, is, are))))
