-- A walk over a file that is cut: it gives no other numbers and no other faults than the whole file does, except 1 at its end.
use Prim.Native.Nat.{ℕ}
use mathlib.Core.Path.{◌≡◌, sym, ap, ◌∙◌}
use mathlib.Core.Bool.{true≢false}
use mathlib.Core.List.{List}
use lib.ListN.{take, drop, take-append-drop}
use denote.Ref.{Bor}
use Rattle.number.specs.Reading.{fault as one_fault, read_at, ends}
use Rattle.number.proofs.Laws.{what_follows}
use Rattle.inspector.specs.declared.Inspector.{Inspector}
use Rattle.inspector.specs.Reader.{step_at, stepped}
use Rattle.inspector.specs.Walk.{Walks, there, step, Walked, Stops}
use Rattle.inspector.proofs.WalkOverFile.{stopped}
use Rattle.inspector.proofs.WalkOverConsumed.{at_byte}

module _ (file short : Bor (List ℕ)) (count : ℕ) (cut : short.now ≡ take count file.now) where
  -- what is found in the first bytes of a file, unless they end in it, is found in the file
  same_found : (at : ℕ) → (read_at short.now at ≡ one_fault ends → ⊥) → read_at file.now at ≡ read_at short.now at
  same_found at whole =
      ap (λ (bytes : List ℕ). read_at bytes at) (sym (take-append-drop count file.now))
      ∙ what_follows (take count file.now) (drop count file.now) at (rw cut at whole)
      ∙ ap (λ (bytes : List ℕ). read_at bytes at) (sym cut)

  -- so a walk over them is one over the file: each step answers a number, which is no fault
  cut_walks : (at : ℕ) {values : List ℕ} {last : Inspector} → Walks (at_byte short at) values last → Walks (at_byte file at) values (at_byte file last.at)
  cut_walks at there = there
  cut_walks at (step {last} {values} e more) =
      let same = same_found at (λ f. absurd (true≢false cc)) in
      let on : Walks (stepped (at_byte file at)) values (at_byte file last.at) = rw same (cut_walks (step_at short.now at).at more) in
      step (same ∙ e) on

  -- numbers that are whole in the first bytes are the file's own
  pub cut_walked : {values : List ℕ} → Walked short values → Walked file values
  cut_walked walked = record { last = at_byte file walked.last.at; walks = cut_walks 0 walked.walks }

  -- and a fault there is the file's own, except 1
  pub cut_fault :
      {values : List ℕ} {refusal at : ℕ} → (refusal ≡ ends → ⊥) → Stops short values refusal at → Stops file values refusal at
  cut_fault {refusal} {at} not_ends stops =
      let e : read_at short.now at ≡ one_fault refusal = rw stops.stands at stops.fault in
      stopped (cut_walks 0 stops.walks) (ap (λ (reader : Inspector). at_byte file reader.at) stops.stands) (same_found at (λ f. not_ends cc) ∙ e)
