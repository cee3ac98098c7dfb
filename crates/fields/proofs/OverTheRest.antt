-- A reading over what is left of the file, for whoever computes one: `reads` looks up each number from the front of the file.
use Rattle.std.proofs.Common.{◌≡◌, ℕ, zero, suc, ◌+◌, cond, List, drop, sym, refl, ap, ◌∙◌, add-zero, arith, drop-drop}
use Rattle.number.specs.Reading.{Found, reading, read_at, from, offset_at}
use Rattle.number.specs.Reading.Found.{number as a_number_found, fault as one_fault}
use Rattle.number.specs.Counting.{end_of, start_of}
use Rattle.fields.specs.Reasons.{number_of}
use Rattle.fields.specs.Answers.{notice}
use Rattle.fields.specs.Readers.{Reader, return, needs, Read, read, refused, on_found, reads}
use Rattle.fields.specs.Files.{ended, file_read}

-- The same as `reads`, with the bytes that are left.
unfoldable pub reads_on : {A : Type 0} → Reader A → (file rest : List ℕ) → (place at : ℕ) → Read A
reads_on (return what) file rest place at = read what place at
reads_on (needs reason allowed then) file rest place at =
    on_found place (offset_at file at) (reading rest) (λ (value width : ℕ).
    cond (allowed value) (reads_on (then value) file (drop width rest) (suc place) (at + width)) (refused (notice (number_of reason) place (offset_at file at))))

pub reads_on_lem :
    {A : Type 0} (reader : Reader A) (file rest : List ℕ) (place at : ℕ) → rest ≡ drop at file →
    reads reader file place at ≡ reads_on reader file rest place at
unfolding reads reads_on read_at
reads_on_lem (return what) file rest place at is = refl
reads_on_lem {A} (needs reason allowed then) file rest place at is =
    rw is
    (by_found (reading (drop at file)) (λ v w. reads_on_lem (then v) file (drop w (drop at file)) (suc place) (at + w) (drop-drop w at file)))
  where
    wrong : Read A
    wrong = refused (notice (number_of reason) place (offset_at file at))

    by_found :
        (found : Found) →
        ((v w : ℕ) → reads (then v) file (suc place) (at + w) ≡ reads_on (then v) file (drop w (drop at file)) (suc place) (at + w)) →
        on_found place (offset_at file at) (from at found) (λ (value next : ℕ). cond (allowed value) (reads (then value) file (suc place) next) wrong)
        ≡ on_found place (offset_at file at) found
        (λ (value width : ℕ). cond (allowed value) (reads_on (then value) file (drop width (drop at file)) (suc place) (at + width)) wrong)
    by_found (a_number_found v w) later = ap (λ (r : Read A). cond (allowed v) r wrong) (later v w)
    by_found (one_fault k) later = refl

-- The whole file so, and that it is the same.
abbrev pub file_read_on : {A : Type 0} → Reader A → List ℕ → Read A
file_read_on reader file = ended file (reads_on reader file file 0 0)

pub file_reads_on : {A : Type 0} (reader : Reader A) (file : List ℕ) → file_read reader file ≡ file_read_on reader file
file_reads_on {A} reader file = ap (λ (outcome : Read A). ended file outcome) (reads_on_lem reader file file 0 0 refl)

-- ---- where number k starts, over what is left
-- The byte behind a number that is found, by its width; at a fault, where it starts.
abbrev behind : Found → ℕ → (ℕ → ℕ) → ℕ
behind (a_number_found value width) at then = then width
behind (one_fault k) at then = at

-- The same as `start_of`, counted on from a byte of the file where a number starts, with the bytes that are left.
unfoldable pub start_on : (rest : List ℕ) (at k : ℕ) → ℕ
start_on rest at zero = at
start_on rest at (suc k) = behind (reading rest) at (λ (width : ℕ). start_on (drop width rest) (at + width) k)

-- one number on
one_on : (file : List ℕ) (i : ℕ) (found : Found) → reading (drop (start_of file i) file) ≡ found → start_of file (suc i) ≡ end_of (start_of file i) (from (start_of file i) found)
unfolding start_of read_at
one_on file i found is = ap (λ (there : Found). end_of (start_of file i) (from (start_of file i) there)) is

-- at a fault it stays
stays : (rest : List ℕ) (at k fault : ℕ) → reading rest ≡ one_fault fault → start_on rest at k ≡ at
unfolding start_on
stays rest at zero fault is = refl
stays rest at (suc k) fault is = rw is refl

starts_from_lem : (file : List ℕ) (i k : ℕ) → start_of file (i + k) ≡ start_on (drop (start_of file i) file) (start_of file i) k
unfolding start_on
starts_from_lem file i zero = ap (start_of file) (add-zero i)
starts_from_lem file i (suc k) = let next : i + suc k ≡ suc i + k = omega arith in ap (start_of file) next ∙ starts_from_lem file (suc i) k ∙ by_found (reading (drop (start_of file i) file)) refl
  where
    by_found :
        (found : Found) → reading (drop (start_of file i) file) ≡ found →
        start_on (drop (start_of file (suc i)) file) (start_of file (suc i)) k
        ≡ behind found (start_of file i) (λ (width : ℕ). start_on (drop width (drop (start_of file i) file)) (start_of file i + width) k)
    by_found (a_number_found value width) is =
        let next : start_of file (suc i) ≡ start_of file i + width = one_on file i (a_number_found value width) is in
        ap (λ (at : ℕ). start_on (drop at file) at k) next
        ∙ ap (λ (left : List ℕ). start_on left (start_of file i + width) k) (sym (drop-drop width (start_of file i) file))
    by_found (one_fault fault) is =
        ap (λ (at : ℕ). start_on (drop at file) at k) (one_on file i (one_fault fault) is) ∙ stays (drop (start_of file i) file) (start_of file i) k fault is

pub starts_on : (file : List ℕ) (k : ℕ) → start_of file k ≡ start_on file 0 k
unfolding start_of
starts_on file k = let all : 0 + k ≡ k = omega arith in rw all at (starts_from_lem file 0 k)
