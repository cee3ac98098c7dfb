-- Along a route that no other plant's route meets: at each segment and from the first to the last, what is credited and charged to the plant.
use Prim.Native.Nat.{ℕ, zero, suc, ◌+◌, ◌-◌, ◌*◌, ◌<◌}
use mathlib.Core.Path.{◌≡◌, refl, sym, ◌∙◌}
use mathlib.Core.Bool.{Bool, true, false}
use mathlib.Core.List.{List, [], ◌∷◌, map}
use mathlib.Core.Logic.{◌≢◌, ◌⊎◌, inl, inr}
use native.Mathlib.Nat.{le_of_eq, suc_inj, mul_comm, div-zero}
use native.Mathlib.Decide.{dec_le}
use native.Mathlib.Omega.{arith}
use lib.Arith.{digits_div}
use lib.ListN.{length, get_or, length-map, get_or-eq_default}
use Rattle.fields.specs.Lists.{sum}
use Rattle.fields.proofs.Sums.{sum_most}
use Rattle.records.specs.declared.segment.Segment.{Segment}
use Rattle.records.specs.declared.line.Line.{Line}
use Rattle.records.specs.Classes.{segment_owner}
use Rattle.accounts.specs.Emissions.{emission}
use Rattle.accounts.specs.Sums.{rounded_up}
use Rattle.accounts.specs.Flow.{Standing, nowhere, passes, brings, passed, Turn, turns, arrived}
use Rattle.accounts.specs.Accounts.{account, charge_to, charges}
use Rattle.accounts.specs.Shares.{no_turn, entering, leaving, afterwards}
use Rattle.accounts.specs.Routes.{Leg, route_from}
use Rattle.accounts.specs.Changes.{SameRoute, ends, goes}
use Rattle.accounts.proofs.OwnersLines.{emission_of_own}
use Rattle.accounts.proofs.SameLines.{emits_same}
use Rattle.accounts.proofs.Credits.{credited_most, credits_sum}
use Rattle.accounts.proofs.Charges.{charge_nothing}
use Rattle.accounts.proofs.Passing.{get_d_map, passed_at, not_passed_at}
use Rattle.accounts.proofs.Accepting.{Sound}

-- ---- numbers
-- if only one number is not 0, it is the sum
only_one : (numbers : List ℕ) (p : ℕ) → ((q : ℕ) → q ≢ p → get_or numbers q 0 ≡ 0) → sum numbers ≡ get_or numbers p 0
unfolding sum
only_one [] p none = refl
only_one (n ∷ ns) zero none = omega (arith, sum_most 0 ns (λ i. le_of_eq (none (suc i) (λ e. omega arith))))
only_one (n ∷ ns) (suc p) none = omega (arith, none 0 (λ e. omega arith), only_one ns p (λ q other. none (suc q) (λ e. other (suc_inj e))))

-- a share of the whole is the whole
whole_share : (amount total : ℕ) → (total ≡ 0) ⊎ (0 < amount) → rounded_up (amount * total) amount ≡ total
whole_share zero total (inl none) = rw (div-zero (0 * total + (0 - 1))) (sym none)
whole_share zero total (inr some) = absurd (omega (arith, some))
whole_share (suc a) total some = rw (mul_comm (suc a) total) (digits_div total (omega arith))

-- ---- a segment's turn, if no other plant stands before the segments that this one passes
pub record Undivided (lines : List Line) (p : ℕ) (turn : Turn) : Type 0 where
  pub plant : p < length turn.standings
  pub sound : Sound (account lines turn)
  pub others :
      passes turn.own (get_or turn.standings p nowhere) ≡ true → (q : ℕ) → q < length turn.standings → q ≢ p →
      passes turn.own (get_or turn.standings q nowhere) ≡ false

module _ (lines : List Line) (p : ℕ) (turn : Turn) (alone : Undivided lines p turn) where
  -- where the plant stands when the turn begins
  abbrev standing : Standing
  standing = get_or turn.standings p nowhere

  -- a plant brings nothing to a segment that its route does not pass
  brings_nothing :
      (q : ℕ) → q < length turn.standings → passes turn.own (get_or turn.standings q nowhere) ≡ false → get_or (entering turn) q 0 ≡ 0
  brings_nothing q there e = rw (get_d_map (brings turn.own) turn.standings q nowhere 0 there, e)

  -- if its route does not pass
  module _ (elsewhere : passes turn.own standing ≡ false) where
    -- it stays as it is
    stays : get_or (afterwards turn) p nowhere ≡ standing
    stays = not_passed_at turn.own turn.segment turn.standings p alone.plant elsewhere

    -- and nothing is charged to it
    charged_nothing : charge_to p (account lines turn) ≡ 0
    unfolding account
    charged_nothing = rw (brings_nothing p alone.plant elsewhere) (charge_nothing (account lines turn))

  -- if its route passes
  module _ (here : passes turn.own standing ≡ true) where
    -- the others bring nothing
    others_nothing : (q : ℕ) → q ≢ p → get_or (entering turn) q 0 ≡ 0
    others_nothing q other = by_index (dec_le (suc q) (length turn.standings))
      where
        by_index : Dec (q < length turn.standings) → get_or (entering turn) q 0 ≡ 0
        by_index (yes there) = brings_nothing q there (alone.others here q there other)
        by_index (no there) = get_or-eq_default (entering turn) 0 {n = q} (rw length-map (omega arith))

    -- all that goes out is credited to it
    whole_credit : get_or (leaving turn) p 0 ≡ turn.segment.outflow
    unfolding account
    whole_credit =
        let less = alone.sound.outflow in
        let nothing : (q : ℕ) → q ≢ p → get_or (leaving turn) q 0 ≡ 0 =
        λ q other. omega (arith, credited_most turn.segment.outflow (entering turn) q less, others_nothing q other) in
        sym (only_one (leaving turn) p nothing) ∙ credits_sum turn.segment.outflow (entering turn) less

    -- with that it goes on
    goes_on : get_or (afterwards turn) p nowhere ≡ record { before = turn.segment.next; amount = turn.segment.outflow }
    goes_on = rw (passed_at turn.own turn.segment turn.standings p alone.plant, here, whole_credit)

    -- the whole emission is charged to it
    charged_whole : charge_to p (account lines turn) ≡ emission segment_owner turn.own lines
    unfolding account
    charged_whole =
        let own = only_one (entering turn) p others_nothing in
        rw own (whole_share (get_or (entering turn) p 0) (emission segment_owner turn.own lines) (rw own at alone.sound.emission))

-- ---- along a route
-- what goes out of its last segment; if the route has none, what a plant brings
unfoldable pub last_outflow : ℕ → List Leg → ℕ
last_outflow amount [] = amount
last_outflow amount (leg ∷ route) = last_outflow leg.segment.outflow route

-- the emissions of its segments, by their own lines
unfoldable pub emissions_along : List Leg → ℕ
emissions_along [] = 0
emissions_along (leg ∷ route) = emission segment_owner leg.own leg.lines + emissions_along route

-- both are the same along the same route
pub same_outflow : (amount : ℕ) {one two : List Leg} → SameRoute one two → last_outflow amount two ≡ last_outflow amount one
unfolding last_outflow
same_outflow amount ends = refl
same_outflow amount (goes {a} same rest) = rw same.segment (same_outflow a.segment.outflow rest)

pub same_emissions : {one two : List Leg} → SameRoute one two → emissions_along two ≡ emissions_along one
unfolding emissions_along
same_emissions ends = refl
same_emissions (goes {a} {b} same rest) =
    rw same.own (omega (arith, emits_same segment_owner a.own a.lines b.lines same.lines, same_emissions rest))

module _ (lines : List Line) (p : ℕ) where
  -- all turns from a segment's number on
  abbrev pub AloneFrom : (own : ℕ) → List Segment → List Standing → Type 0
  AloneFrom own segments standings = (s : ℕ) → s < length segments → Undivided lines p (get_or (turns own segments standings) s no_turn)

  -- the route that the plant has before it then
  abbrev route_left : (own : ℕ) → List Segment → List Standing → List Leg
  route_left own segments standings = route_from lines own segments (get_or standings p nowhere).before

  -- the plant stores what goes out of the last segment
  pub stored_alone :
      (own : ℕ) (segments : List Segment) (standings : List Standing) → AloneFrom own segments standings →
      (get_or (arrived own segments standings) p nowhere).amount ≡ last_outflow (get_or standings p nowhere).amount (route_left own segments standings)
  unfolding arrived turns route_from last_outflow
  stored_alone own [] standings alone = refl
  stored_alone own (segment ∷ rest) standings alone =
      stored_alone (suc own) rest (passed own segment standings) (λ s below. alone (suc s) (omega arith))
      ∙ by_test (passes own (get_or standings p nowhere)) refl (alone 0 (omega arith))
    where
      turn : Turn
      turn = record { own = own; segment = segment; standings = standings }

      by_test :
          (t : Bool) → passes own (get_or standings p nowhere) ≡ t → Undivided lines p turn →
          last_outflow (get_or (passed own segment standings) p nowhere).amount (route_left (suc own) rest (passed own segment standings))
          ≡ last_outflow (get_or standings p nowhere).amount (route_left own (segment ∷ rest) standings)
      by_test true e here = rw (goes_on lines p turn here e, e)
      by_test false e here = rw (stays lines p turn here e, e)

  -- and is charged the emissions of all of them
  pub charged_alone :
      (own : ℕ) (segments : List Segment) (standings : List Standing) → AloneFrom own segments standings →
      charges p (map (account lines) (turns own segments standings)) ≡ emissions_along (route_left own segments standings)
  unfolding turns route_from emissions_along sum
  charged_alone own [] standings alone = refl
  charged_alone own (segment ∷ rest) standings alone =
      by_test
      (passes own (get_or standings p nowhere)) refl (alone 0 (omega arith))
      (charged_alone (suc own) rest (passed own segment standings) (λ s below. alone (suc s) (omega arith)))
    where
      turn : Turn
      turn = record { own = own; segment = segment; standings = standings }

      by_test :
          (t : Bool) → passes own (get_or standings p nowhere) ≡ t → Undivided lines p turn →
          charges p (map (account lines) (turns (suc own) rest (passed own segment standings)))
          ≡ emissions_along (route_left (suc own) rest (passed own segment standings)) →
          charges p (map (account lines) (turns own (segment ∷ rest) standings)) ≡ emissions_along (route_left own (segment ∷ rest) standings)
      by_test true e here later =
          rw e
          (omega (
            arith,
            charged_whole lines p turn here e,
            emission_of_own segment_owner own lines,
            rw (goes_on lines p turn here e) at later,
          ))
      by_test false e here later = rw e (omega (arith, charged_nothing lines p turn here e, rw (stays lines p turn here e) at later))
