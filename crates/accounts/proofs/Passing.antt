-- Plants passed on, turn by turn: where they are when a segment's turn comes.
use Prim.Native.Nat.{ℕ, zero, suc, ◌+◌, ◌≤◌, ◌<◌}
use mathlib.Core.Path.{◌≡◌, refl, ap, ◌∙◌}
use mathlib.Core.Bool.{Bool, true, false}
use mathlib.Core.List.{List, [], ◌∷◌, map, zip_with}
use native.Mathlib.Omega.{arith}
use lib.ListN.{length, length-map, take, get_or}
use Rattle.fields.specs.Lists.{sum}
use Rattle.records.specs.declared.segment.Segment.{Segment}
use Rattle.records.specs.Segments.{no_segment}
use Rattle.accounts.specs.Flow.{Standing, nowhere, passes, brings, amounts, credits, sent_on, passed, Turn, turns, arrived}
use Rattle.accounts.proofs.Credits.{credits_length}

-- ---- lists, by their elements
pub get_d_map : {A B : Type 0} (f : A → B) (l : List A) (i : ℕ) (d : A) (e : B) → i < length l → get_or (map f l) i e ≡ f (get_or l i d)
get_d_map f [] i d e below = absurd (omega (arith, below))
get_d_map f (x ∷ l) zero d e below = refl
get_d_map f (x ∷ l) (suc i) d e below = get_d_map f l i d e (omega (arith, below))

length_zip : {A B C : Type 0} (f : A → B → C) (l : List A) (m : List B) → length m ≡ length l → length (zip_with f l m) ≡ length l
unfolding zip_with
length_zip f [] m same = refl
length_zip f (x ∷ l) [] same = absurd (omega (arith, same))
length_zip f (x ∷ l) (y ∷ m) same = ap suc (length_zip f l m (omega (arith, same)))

get_d_zip :
    {A B C : Type 0} (f : A → B → C) (l : List A) (m : List B) (i : ℕ) (a : A) (b : B) (c : C) → length m ≡ length l → i < length l →
    get_or (zip_with f l m) i c ≡ f (get_or l i a) (get_or m i b)
unfolding zip_with
get_d_zip f [] m i a b c same below = absurd (omega (arith, below))
get_d_zip f (x ∷ l) [] i a b c same below = absurd (omega (arith, same))
get_d_zip f (x ∷ l) (y ∷ m) zero a b c same below = refl
get_d_zip f (x ∷ l) (y ∷ m) (suc i) a b c same below = get_d_zip f l m i a b c (omega (arith, same)) (omega (arith, below))

-- ---- one segment's turn
module _ (own : ℕ) (segment : Segment) (standings : List Standing) where
  -- what the plants bring to it
  abbrev entering : List ℕ
  entering = amounts own standings

  -- there are as many credits as plants
  pub credited : length (credits segment.outflow entering) ≡ length standings
  credited = credits_length (sum entering) segment.outflow 0 entering ∙ length-map standings (brings own)

  -- and as many plants afterwards
  pub passed_length : length (passed own segment standings) ≡ length standings
  unfolding passed
  passed_length = length_zip (sent_on own segment.next) standings (credits segment.outflow entering) credited

  -- where a plant is afterwards
  pub passed_at :
      (p : ℕ) → p < length standings →
      get_or (passed own segment standings) p nowhere
      ≡ sent_on own segment.next (get_or standings p nowhere) (get_or (credits segment.outflow entering) p 0)
  unfolding passed
  passed_at p below =
      get_d_zip (sent_on own segment.next) standings (credits segment.outflow entering) p nowhere 0 nowhere credited below

  -- one whose route does not pass stays as it is
  pub not_passed_at :
      (p : ℕ) → p < length standings → passes own (get_or standings p nowhere) ≡ false →
      get_or (passed own segment standings) p nowhere ≡ get_or standings p nowhere
  not_passed_at p below elsewhere = rw (passed_at p below, elsewhere) refl

-- ---- one plant at a segment: if its route passes it gives its amount for its credit, else it keeps its amount and is credited nothing
pub one_sent :
    (own next : ℕ) (standing : Standing) (credit : ℕ) → credit ≤ brings own standing →
    (sent_on own next standing credit).amount + brings own standing ≡ standing.amount + credit
one_sent own next standing credit less = by_test (passes own standing) refl less
  where
    by_test :
        (t : Bool) → passes own standing ≡ t → credit ≤ brings own standing →
        (sent_on own next standing credit).amount + brings own standing ≡ standing.amount + credit
    by_test true e less = rw e (omega arith)
    by_test false e less = rw e (omega (arith, rw e at less))

-- ---- the turns, one after another, from a segment's number on
-- no plant is lost on the way
pub arrived_length : (own : ℕ) (segments : List Segment) (standings : List Standing) → length (arrived own segments standings) ≡ length standings
unfolding arrived
arrived_length own [] standings = refl
arrived_length own (segment ∷ rest) standings =
    arrived_length (suc own) rest (passed own segment standings) ∙ passed_length own segment standings

-- there is one for each segment
pub turns_length : (own : ℕ) (segments : List Segment) (standings : List Standing) → length (turns own segments standings) ≡ length segments
unfolding turns
turns_length own [] standings = refl
turns_length own (segment ∷ rest) standings = ap suc (turns_length (suc own) rest (passed own segment standings))

-- after one turn more
pub arrived_on :
    (own : ℕ) (segments : List Segment) (standings : List Standing) (s here : ℕ) → own + s ≡ here → s < length segments →
    arrived own (take (suc s) segments) standings ≡ passed here (get_or segments s no_segment) (arrived own (take s segments) standings)
unfolding arrived
arrived_on own [] standings s here at below = absurd (omega (arith, below))
arrived_on own (segment ∷ rest) standings zero here at below =
    ap (λ (n : ℕ). passed n segment standings) (omega (arith, at))
arrived_on own (segment ∷ rest) standings (suc s) here at below =
    arrived_on (suc own) rest (passed own segment standings) s here (omega (arith, at)) (omega (arith, below))

-- the turn of a segment
pub turn_at_lem :
    (own : ℕ) (segments : List Segment) (standings : List Standing) (s here : ℕ) (none : Turn) → own + s ≡ here → s < length segments →
    get_or (turns own segments standings) s none
    ≡ record { own = here; segment = get_or segments s no_segment; standings = arrived own (take s segments) standings }
unfolding arrived turns
turn_at_lem own [] standings s here none at below = absurd (omega (arith, below))
turn_at_lem own (segment ∷ rest) standings zero here none at below =
    ap (λ (n : ℕ). record { own = n; segment = segment; standings = standings }) (omega (arith, at))
turn_at_lem own (segment ∷ rest) standings (suc s) here none at below =
    turn_at_lem (suc own) rest (passed own segment standings) s here none (omega (arith, at)) (omega (arith, below))
