-- No two outcomes meet the promise of the call.
use Prim.Native.Nat.{ℕ}
use mathlib.Core.Path.{◌≡◌, sym, ap, ◌∙◌}
use mathlib.Core.List.{List}
use Rattle.std.proofs.Common.{Result, Ok, Err}
use Rattle.fields.specs.declared.answer.Refusal.{Refusal}
use Rattle.fields.proofs.Answers.{refuses_not_accepts}
use Rattle.fields.proofs.Outcome.{refusal_once}
use Rattle.records.specs.declared.counts.Counts.{Counts}
use Rattle.records.specs.declared.plant.Plant.{Plant}
use Rattle.records.specs.declared.segment.Segment.{Segment}
use Rattle.records.specs.declared.line.Line.{Line}
use Rattle.gathering.specs.declared.emissions.Emissions.{Emissions}
use Rattle.gathering.specs.declared.gathering.Gathered.{Gathered}
use Rattle.gathering.specs.Gathered.{OwnerEmissions, Contents, Holds, GatherPromise}

-- what these owners emit by some lines is the same, if as many bytes were read
abbrev emitting : ℕ → (plants segments : List ℕ) → Emissions
emitting bytes plants segments = record { bytes = bytes; plants = plants; segments = segments }

one_emissions :
    (r s : Emissions) (counts : Counts) (lines : List Line) → OwnerEmissions r.plants r.segments counts lines → OwnerEmissions s.plants s.segments counts lines → r.bytes ≡ s.bytes → r ≡ s
one_emissions r s counts lines p q e =
    ap (λ (x : ℕ). emitting x r.plants r.segments) e
    ∙ ap (λ (x : List ℕ). emitting s.bytes x r.segments) (p.plants_are ∙ sym q.plants_are)
    ∙ ap (emitting s.bytes s.plants) (p.segments_are ∙ sym q.segments_are)

-- and so is what holds some contents
abbrev made : Counts → List Plant → List Segment → Emissions → Gathered
made counts plants segments emissions = record { counts = counts; plants = plants; segments = segments; emissions = emissions }

one_held : (contents : Contents) (r s : Gathered) → Holds r contents → Holds s contents → r ≡ s
one_held contents r s p q =
    ap (λ (x : Counts). made x r.plants r.segments r.emissions) (p.counts ∙ sym q.counts)
    ∙ ap (λ (x : List Plant). made s.counts x r.segments r.emissions) (p.plants ∙ sym q.plants)
    ∙ ap (λ (x : List Segment). made s.counts s.plants x r.emissions) (p.segments ∙ sym q.segments)
    ∙ ap (made s.counts s.plants s.segments) (one_emissions r.emissions s.emissions _ _ p.emissions q.emissions (p.bytes ∙ sym q.bytes))

-- `gather`: two outcomes that meet its promise, of one file, are the same
pub one_gathered : (file : List ℕ) (r s : Result Gathered Refusal) → GatherPromise file r → GatherPromise file s → r ≡ s
one_gathered file (Ok r) (Ok s) p q = ap (λ (x : Gathered). Ok x) (one_held _ r s p q)
one_gathered file (Ok r) (Err b) p q = absurd (refuses_not_accepts (q ∙ sym p.verdict))
one_gathered file (Err a) (Ok s) p q = absurd (refuses_not_accepts (p ∙ sym q.verdict))
one_gathered file (Err a) (Err b) p q = let same = p ∙ sym q in ap (λ (x : Refusal). Err x) (refusal_once a b (cc))
