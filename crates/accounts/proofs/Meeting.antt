-- Where routes meet: the masks of two routes, and the sets that the segments' rows show, tell the segments that both pass.
use Prim.Native.Nat.{ℕ, zero, suc, ◌+◌, ◌-◌, ◌^◌, ◌≤◌, ◌<◌}
use mathlib.Core.Path.{◌≡◌, refl, sym, ap, ◌∙◌}
use mathlib.Core.Bool.{Bool, true, false, ◌||◌, true≢false, not-eq-not}
use mathlib.Core.List.{List, [], ◌∷◌}
use mathlib.Core.Logic.{◌↔◌, ◌≢◌}
use native.Mathlib.Nat.{zero-div}
use native.Mathlib.Decide.{dec_le}
use native.Mathlib.Omega.{arith}
use lib.Bits.{bit_and}
use lib.Dec.{eqb, eqb-suc-suc}
use lib.ListN.{length, get_or, take, length-map, get_or-map}
use borrow.Author.Tests.{eqb-true, eq-eqb, ne_eqb}
use Rattle.records.specs.declared.segment.Segment.{Segment}
use Rattle.records.specs.declared.line.Line.{Line}
use Rattle.records.specs.Plants.{no_plant}
use Rattle.records.specs.Classes.{segment_owner}
use Rattle.records.specs.Periods.{Period}
use Rattle.accounts.specs.Emissions.{owned_by, chosen}
use Rattle.accounts.specs.Flow.{Standing, nowhere, at_first, passes, passed, Turn, arrived}
use Rattle.accounts.specs.Accounts.{set_of, has_bit, account}
use Rattle.accounts.specs.Quantified.{started}
use Rattle.accounts.specs.Shares.{turn_at, account_at}
use Rattle.accounts.specs.Routes.{Leg, route_from, route_of, mask_of, on, Apart, Alone}
use Rattle.accounts.proofs.Bits.{NoneInBoth, no_common_bit, no_bit_above, one_bit, bits_of_sum}
use Rattle.accounts.proofs.Sets.{set_has, set_below}
use Rattle.accounts.proofs.Passing.{passed_at, passed_length}
use Rattle.accounts.proofs.TurnsOfPeriod.{turn_is, turn_plants}

-- ---- a route from a segment's number on
module _ (lines : List Line) where
  -- a segment as a part of a route
  abbrev leg_of : (own : ℕ) (segment : Segment) → Leg
  leg_of own segment = record { own = own; segment = segment; lines = chosen (owned_by segment_owner own) lines }

  module _ (own : ℕ) (segment : Segment) (rest : List Segment) (before : ℕ) where
    -- if it stands before that segment, it passes it and goes on from the next one
    route_passes :
        eqb before own ≡ true →
        route_from lines own (segment ∷ rest) before ≡ leg_of own segment ∷ route_from lines (suc own) rest segment.next
    unfolding route_from
    route_passes e = rw e

    -- else it leaves it out
    route_leaves : eqb before own ≡ false → route_from lines own (segment ∷ rest) before ≡ route_from lines (suc own) rest before
    unfolding route_from
    route_leaves e = rw e

  -- it passes only segments that are there
  not_on_route :
      (own : ℕ) (segments : List Segment) (before number : ℕ) → ((s : ℕ) → s < length segments → own + s ≢ number) →
      on number (route_from lines own segments before) ≡ false
  unfolding route_from on
  not_on_route own [] before number none = refl
  not_on_route own (segment ∷ rest) before number none =
      by_test (eqb before own) refl (λ after. not_on_route (suc own) rest after number (λ s below e. none (suc s) (omega arith) (omega arith)))
    where
      by_test :
          (t : Bool) → eqb before own ≡ t → ((after : ℕ) → on number (route_from lines (suc own) rest after) ≡ false) →
          on number (route_from lines own (segment ∷ rest) before) ≡ false
      by_test true e later =
          rw (route_passes own segment rest before e, ne_eqb own number (λ is. none 0 (omega arith) (omega arith))) (later segment.next)
      by_test false e later = rw (route_leaves own segment rest before e) (later before)

  -- ---- the bits of its mask are the segments that it passes
  mask_bits :
      (k : ℕ) (segments : List Segment) (before s : ℕ) →
      has_bit (mask_of (route_from lines (suc k) segments before)) s ≡ on (suc s) (route_from lines (suc k) segments before)
  unfolding route_from mask_of on
  mask_bits k [] before s = rw (zero-div (2 ^ s))
  mask_bits k (segment ∷ rest) before s = by_test (eqb before (suc k)) refl (mask_bits (suc k) rest)
    where
      by_test :
          (t : Bool) → eqb before (suc k) ≡ t →
          ((after s : ℕ) → has_bit (mask_of (route_from lines (suc (suc k)) rest after)) s ≡ on (suc s) (route_from lines (suc (suc k)) rest after)) →
          has_bit (mask_of (route_from lines (suc k) (segment ∷ rest) before)) s ≡ on (suc s) (route_from lines (suc k) (segment ∷ rest) before)
      by_test true e later =
          let route : List Leg = route_from lines (suc (suc k)) rest segment.next in
          let bit : suc k - 1 ≡ k = omega arith in
          let apart : bit_and (2 ^ k) (mask_of route) ≡ 0 =
          (no_common_bit (2 ^ k) (mask_of route)).1 (λ i one two.
          let here : k ≡ i = eqb-true k i (sym (one_bit k i) ∙ one) in
          let further = not_on_route (suc (suc k)) rest segment.next (suc i) (λ j below is. omega arith) in
          true≢false (sym two ∙ later segment.next i ∙ further)) in
          rw (route_passes (suc k) segment rest before e, bit, bits_of_sum (2 ^ k) (mask_of route) s apart, one_bit k s, eqb-suc-suc k s)
          (ap (◌||◌ (eqb k s)) (later segment.next s))
      by_test false e later = rw (route_leaves (suc k) segment rest before e) (later before s)

  -- ---- when a segment's turn comes, a plant stands before it exactly if its route passes it
  module _ (own : ℕ) (segment : Segment) (rest : List Segment) where
    -- the segment whose turn it is
    passes_here : (before : ℕ) → eqb before own ≡ on own (route_from lines own (segment ∷ rest) before)
    unfolding on
    passes_here before = by_test (eqb before own) refl
      where
        by_test : (t : Bool) → eqb before own ≡ t → eqb before own ≡ on own (route_from lines own (segment ∷ rest) before)
        by_test true e = rw (route_passes own segment rest before e, e, eq-eqb own own refl)
        by_test false e = rw (route_leaves own segment rest before e, not_on_route (suc own) rest before own (λ s below is. omega arith)) e

    -- those behind it: the route that is left passes the same ones
    passes_later :
        (standings : List Standing) (p : ℕ) → p < length standings → (number : ℕ) → own < number →
        on number (route_from lines (suc own) rest (get_or (passed own segment standings) p nowhere).before)
        ≡ on number (route_from lines own (segment ∷ rest) (get_or standings p nowhere).before)
    unfolding on
    passes_later standings p there number behind = by_test (eqb before own) refl
      where
        before : ℕ
        before = (get_or standings p nowhere).before

        by_test :
            (t : Bool) → eqb before own ≡ t →
            on number (route_from lines (suc own) rest (get_or (passed own segment standings) p nowhere).before)
            ≡ on number (route_from lines own (segment ∷ rest) before)
        by_test true e =
            rw (passed_at own segment standings p there, route_passes own segment rest before e, e, ne_eqb own number (λ is. omega arith))
        by_test false e = rw (passed_at own segment standings p there, route_leaves own segment rest before e, e)

  -- so it is at the turn of every segment
  passes_on :
      (own : ℕ) (segments : List Segment) (standings : List Standing) (p : ℕ) → p < length standings →
      (s here : ℕ) → own + s ≡ here → s < length segments →
      passes here (get_or (arrived own (take s segments) standings) p nowhere)
      ≡ on here (route_from lines own segments (get_or standings p nowhere).before)
  unfolding arrived
  passes_on own [] standings p there s here at below = absurd (omega (arith, below))
  passes_on own (segment ∷ rest) standings p there zero here at below =
      let is : here ≡ own = omega (arith, at) in rw is (passes_here own segment rest (get_or standings p nowhere).before)
  passes_on own (segment ∷ rest) standings p there (suc s) here at below =
      passes_on (suc own) rest (passed own segment standings) p (rw passed_length there) s here (omega (arith, at)) (omega (arith, below))
      ∙ passes_later own segment rest standings p there here (omega (arith, at))

-- ---- the routes of a period
module _ (period : Period) where
  -- bit s − 1 of a route's mask is set exactly if it passes segment s
  pub mask_has : (p s : ℕ) → has_bit (mask_of (route_of period p)) s ≡ on (suc s) (route_of period p)
  unfolding route_of
  mask_has p s = mask_bits period.lines 0 period.segments (get_or period.plants p no_plant).first s

  -- a route passes only segments of the period
  pub on_route_within : (p own : ℕ) → on own (route_of period p) ≡ true → (1 ≤ own) × (own ≤ length period.segments)
  unfolding route_of
  on_route_within p own e = by_number (dec_le 1 own) (dec_le own (length period.segments))
    where
      elsewhere : ((s : ℕ) → s < length period.segments → 1 + s ≢ own) → ⊥
      elsewhere none =
          true≢false (sym e ∙ not_on_route period.lines 1 period.segments (get_or period.plants p no_plant).first own none)

      by_number : Dec (1 ≤ own) → Dec (own ≤ length period.segments) → (1 ≤ own) × (own ≤ length period.segments)
      by_number (yes first) (yes last) = (first, last)
      by_number (yes first) (no last) = absurd (elsewhere (λ s below is. omega arith))
      by_number (no first) last = absurd (elsewhere (λ s below is. omega arith))

  -- two masks have no bit in common exactly if no segment is on both routes
  pub meet_exactly :
      (p q : ℕ) →
      Apart (route_of period p) (route_of period q) ↔ ((own : ℕ) → on own (route_of period p) ≡ true → on own (route_of period q) ≡ true → ⊥)
  meet_exactly p q =
      (λ none own. by_number own none, λ never. common.1 (λ s one two. never (suc s) (sym (mask_has p s) ∙ one) (sym (mask_has q s) ∙ two)))
    where
      common : Apart (route_of period p) (route_of period q) ↔ NoneInBoth (mask_of (route_of period p)) (mask_of (route_of period q))
      common = no_common_bit (mask_of (route_of period p)) (mask_of (route_of period q))

      by_number : (own : ℕ) → Apart (route_of period p) (route_of period q) → on own (route_of period p) ≡ true → on own (route_of period q) ≡ true → ⊥
      by_number zero none one two = omega (arith, (on_route_within p 0 one).0)
      by_number (suc s) none one two = common.0 none s (mask_has p s ∙ one) (mask_has q s ∙ two)

  -- if a plant is alone on its route, no other plant's route passes a segment of it
  pub others_elsewhere :
      (p : ℕ) → Alone period p → (own : ℕ) → on own (route_of period p) ≡ true → (q : ℕ) → q < length period.plants → q ≢ p →
      on own (route_of period q) ≡ false
  others_elsewhere p alone own here q among other = (not-eq-not {b = false}).0 ((meet_exactly p q).0 (alone q among other) own here)

  -- ---- the turn of a segment
  module _ (s : ℕ) (here : s < length period.segments) where
    -- a plant stands before the segment exactly if its route passes it
    pub stands_before :
        (p : ℕ) → p < length period.plants →
        passes (turn_at period s).own (get_or (turn_at period s).standings p nowhere) ≡ on (suc s) (route_of period p)
    unfolding route_of
    stands_before p there =
        rw (turn_is period s here, ← ap (λ (standing : Standing). standing.before) (get_or-map at_first period.plants p no_plant))
        (passes_on period.lines 1 period.segments (started period) p (rw length-map there) s (suc s) (omega arith) here)

    -- and so does the set that the segment's row shows: also a plant that exports 0 is in it
    pub set_is_route : (p : ℕ) → p < length period.plants → has_bit (account_at period s).plants p ≡ on (suc s) (route_of period p)
    unfolding account
    set_is_route p there = set_has (turn_at period s).own (turn_at period s).standings p (rw (turn_plants period s here) there) ∙ stands_before p there

    -- it has no others than the period's plants
    pub set_within : (q : ℕ) → length period.plants ≤ q → has_bit (account_at period s).plants q ≡ false
    unfolding account
    set_within q behind =
        let turn : Turn = turn_at period s in
        let set : ℕ = set_of turn.own 0 turn.standings in
        no_bit_above set (length turn.standings) q (set_below turn.own turn.standings) (rw (turn_plants period s here) behind)
