-- The turns of a period: each is its own segment's, the next begins where it ends, and after the last every plant is past its store.
use Prim.Native.Nat.{ℕ, zero, suc, ◌≤◌, ◌<◌}
use mathlib.Core.Path.{◌≡◌, refl, sym, ap, ◌∙◌}
use mathlib.Core.Bool.{Bool, true, false}
use mathlib.Core.List.{List}
use mathlib.Core.Logic.{◌⊎◌, inl, inr, ⊎_elim}
use native.Mathlib.Omega.{arith}
use lib.ListN.{length, length-map, take, get_or}
use lib.Seq.{take-length}
use borrow.Author.Tests.{eqb-false}
use Rattle.fields.specs.Lists.{sum, Each}
use Rattle.records.specs.declared.counts.Counts.{Counts}
use Rattle.records.specs.Plants.{no_plant}
use Rattle.records.specs.Segments.{no_segment}
use Rattle.records.specs.Periods.{Period}
use Rattle.records.specs.Within.{PlantWithin, SegmentWithin}
use Rattle.records.proofs.Within.{each_at}
use Rattle.accounts.specs.Flow.{Standing, nowhere, at_first, passes, brings, sent_on, passed, Turn, arrived}
use Rattle.accounts.specs.Accounts.{account}
use Rattle.accounts.specs.Quantified.{started, stores}
use Rattle.accounts.specs.Shares.{no_turn, turn_at, entering, leaving, afterwards}
use Rattle.accounts.proofs.Passing.{get_d_map, passed_at, arrived_length, arrived_on, turn_at_lem}
use Rattle.accounts.proofs.Accepting.{Means}

-- ---- one plant on its way: after s turns it stands before a segment that is still to come, or is past its store
abbrev Ahead : (segments s : ℕ) → Standing → Type 0
Ahead segments s standing = (standing.before ≡ 0) ⊎ ((s < standing.before) × (standing.before ≤ segments))

-- a plant that passes goes to the next segment, which is later or none; one that does not stands before a later one already
sent_ahead :
    (segments s own next credit : ℕ) (standing : Standing) → own ≡ suc s → (next ≡ 0) ⊎ ((own < next) × (next ≤ segments)) →
    Ahead segments s standing → Ahead segments own (sent_on own next standing credit)
sent_ahead segments s own next credit standing number later now = by_test (passes own standing) refl
  where
    by_test : (t : Bool) → passes own standing ≡ t → Ahead segments own (sent_on own next standing credit)
    by_test true e = rw e later
    by_test false e =
        let other = eqb-false standing.before own e in
        rw e (⊎_elim (λ none. inl none) (λ some. inr (omega (arith, some.0, other, number), some.1)) now)

-- ---- the turns of a period
module _ (period : Period) where
  -- where the plants are after s turns
  abbrev pub after : ℕ → List Standing
  after s = arrived 1 (take s period.segments) (started period)

  -- there are as many as the period has
  pub after_length : (s : ℕ) → length (after s) ≡ length period.plants
  after_length s = arrived_length 1 (take s period.segments) (started period) ∙ length-map period.plants at_first

  -- after one turn more they are where that segment's turn sends them
  pub after_on : (s : ℕ) → s < length period.segments → after (suc s) ≡ passed (suc s) (get_or period.segments s no_segment) (after s)
  after_on s below = arrived_on 1 period.segments (started period) s (suc s) (omega arith) below

  -- after all turns they are at the stores
  pub after_all : after (length period.segments) ≡ stores period
  after_all = rw (take-length period.segments)

  -- ---- the turn of a segment
  module _ (s : ℕ) (below : s < length period.segments) where
    -- its number, its record, and where the plants are when it begins
    pub turn_is : turn_at period s ≡ record { own = suc s; segment = get_or period.segments s no_segment; standings = after s }
    turn_is = turn_at_lem 1 period.segments (started period) s (suc s) no_turn (omega arith) below

    turn_own : (turn_at period s).own ≡ suc s
    turn_own = ap (λ (t : Turn). t.own) turn_is

    pub turn_segment : (turn_at period s).segment ≡ get_or period.segments s no_segment
    turn_segment = ap (λ (t : Turn). t.segment) turn_is

    pub turn_standings : (turn_at period s).standings ≡ after s
    turn_standings = ap (λ (t : Turn). t.standings) turn_is

    -- all plants are somewhere
    pub turn_plants : length (turn_at period s).standings ≡ length period.plants
    turn_plants = rw turn_standings (after_length s)

    -- where they are when it ends
    pub turned : after (suc s) ≡ afterwards (turn_at period s)
    turned = after_on s below ∙ sym (ap (λ (t : Turn). afterwards t) turn_is)

  -- the first turn begins where the plants start
  pub first_turn : 0 < length period.segments → (turn_at period 0).standings ≡ started period
  unfolding arrived
  first_turn = turn_standings 0

  -- each other one where the one before it ends
  pub next_turn : (s : ℕ) → suc s < length period.segments → (turn_at period (suc s)).standings ≡ afterwards (turn_at period s)
  next_turn s below = turn_standings (suc s) below ∙ turned s (omega (arith, below))

  -- and the last ends at the stores
  pub last_turn : (s : ℕ) → suc s ≡ length period.segments → stores period ≡ afterwards (turn_at period s)
  last_turn s last = sym after_all ∙ ap after (sym last) ∙ turned s (omega (arith, last))

  -- ---- one plant at the turn of a segment
  module _ (s p : ℕ) (below : s < length period.segments) (plant : p < length period.plants) where
    -- where it stands when the turn begins
    abbrev standing : Standing
    standing = get_or (turn_at period s).standings p nowhere

    -- it is among those that stand there
    here : p < length (turn_at period s).standings
    here = rw (turn_plants s below) plant

    -- and among those whose amounts enter, even if its own is 0
    pub enters : p < length (entering (turn_at period s))
    enters = rw (length-map (turn_at period s).standings (brings (turn_at period s).own)) here

    -- where it is afterwards
    pub sent :
        get_or (afterwards (turn_at period s)) p nowhere
        ≡ sent_on (turn_at period s).own (turn_at period s).segment.next standing (get_or (leaving (turn_at period s)) p 0)
    sent = passed_at (turn_at period s).own (turn_at period s).segment (turn_at period s).standings p here

  -- ---- every plant ends in a store
  module _
      (counts : Counts) (counted : counts.segments ≡ length period.segments)
      (plants_within : Each (PlantWithin counts) 1 period.plants)
      (segments_within : Each (SegmentWithin counts) 1 period.segments) where
    -- the next segment is a later one, or none behind a store
    later_or_none :
        (s : ℕ) → s < length period.segments →
        ((turn_at period s).segment.next ≡ 0)
        ⊎ (((turn_at period s).own < (turn_at period s).segment.next) × ((turn_at period s).segment.next ≤ length period.segments))
    later_or_none s below =
        rw (turn_is s below, ← counted)
        (each_at (SegmentWithin counts) 1 period.segments s no_segment (suc s) (omega arith) below segments_within).next

    module _ (p : ℕ) (plant : p < length period.plants) where
      -- so a plant is ahead after each turn
      ahead : (s : ℕ) → s ≤ length period.segments → Ahead (length period.segments) s (get_or (after s) p nowhere)
      unfolding arrived
      ahead zero fits =
          let one = each_at (PlantWithin counts) 1 period.plants p no_plant (suc p) (omega arith) plant plants_within in
          rw (get_d_map at_first period.plants p no_plant nowhere plant, ← counted) (inr (one.some_first, one.first))
      ahead (suc s) fits =
          let below : s < length period.segments = omega (arith, fits) in
          let turn : Turn = turn_at period s in
          rw (turned s below, sent s p below plant, ← turn_own s below)
          (sent_ahead (length period.segments) s turn.own turn.segment.next (get_or (leaving turn) p 0) (get_or turn.standings p nowhere)
          (turn_own s below) (later_or_none s below) (rw (turn_standings s below) (ahead s (omega (arith, fits)))))

      -- and past its store after the last, since no segment is still to come
      pub past_store : (get_or (stores period) p nowhere).before ≡ 0
      past_store =
          rw (← after_all)
          (⊎_elim (λ none. none) (λ some. absurd (omega (arith, some.0, some.1))) (ahead (length period.segments) (omega arith)))

-- ---- no more leaves a segment of an accepted period than enters it
pub outflow_most :
    {period : Period} {plants segments : List ℕ} → Means period plants segments → (s : ℕ) → s < length period.segments →
    (turn_at period s).segment.outflow ≤ sum (entering (turn_at period s))
unfolding account
outflow_most means s below = (means.sound s below).outflow
