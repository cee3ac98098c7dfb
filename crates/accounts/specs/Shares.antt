-- What happens at one segment of a period: what each plant brings, is credited and is charged.
use Rattle.std.specs.Prelude.{ℕ, zero, suc, ◌+◌, ◌*◌, ◌/◌, ◌≤◌, ◌<◌, ◌≡◌, true, false, List, [], ◌∷◌, ◌++◌, map, ◌⊎◌, get_or}
use Rattle.fields.specs.Lists.{sum}
use Rattle.records.specs.declared.line.Line.{Line}
use Rattle.records.specs.Segments.{no_segment}
use Rattle.records.specs.Classes.{plant_owner}
use Rattle.records.specs.Periods.{Period}
use Rattle.accounts.specs.Emissions.{emission}
use Rattle.accounts.specs.Sums.{rounded_up}
use Rattle.accounts.specs.Flow.{Standing, nowhere, passes, amounts, credits, passed, Turn}
use Rattle.accounts.specs.Accounts.{Account, account, charge}
use Rattle.accounts.specs.Quantified.{turns_of}

-- What a list of turns gives behind its end.
abbrev pub no_turn : Turn
no_turn = record { own = 0; segment = no_segment; standings = [] }

-- The turn of the segment at an index from 0 (rule 5.1).
abbrev pub turn_at : Period → ℕ → Turn
turn_at period index = get_or (turns_of period) index no_turn

-- Its account (rule 5.3).
abbrev pub account_at : Period → ℕ → Account
account_at period index = account period.lines (turn_at period index)

-- What each plant brings to a segment, 0 if its route does not pass (rule 5.2).
abbrev pub entering : Turn → List ℕ
entering turn = amounts turn.own turn.standings

-- What each plant is credited there (rules 5.4 and 13.5).
abbrev pub leaving : Turn → List ℕ
leaving turn = credits turn.segment.outflow (entering turn)

-- Where the plants are after the turn (rule 5.5).
abbrev pub afterwards : Turn → List Standing
afterwards turn = passed turn.own turn.segment turn.standings

-- What each plant is charged there (rule 6.1).
abbrev pub charged : List Line → Turn → List ℕ
charged lines turn = map (charge (account lines turn)) (entering turn)

-- What each of the first `count` plants emits by its own lines (rule 4.3).
unfoldable pub own_emissions : List Line → ℕ → List ℕ
own_emissions lines zero = []
own_emissions lines (suc count) = own_emissions lines count ++ emission plant_owner (suc count) lines ∷ []

-- ---- one plant at a segment
-- What the plant at an index from 0 brings there, and below what it is credited (rules 5.2 and 5.4).
abbrev pub amount_of : Turn → ℕ → ℕ
amount_of turn index = get_or (entering turn) index 0

abbrev pub credit_of : Turn → ℕ → ℕ
credit_of turn index = get_or (leaving turn) index 0

-- It is sent on: its credit, no more than it brings, goes to the next segment if its route passes; else it stays as it is (rules 5.5 and 13.4).
pub record SentOn (turn : Turn) (index : ℕ) : Type 0 where
  pub no_more : credit_of turn index ≤ amount_of turn index
  pub goes_on :
      passes turn.own (get_or turn.standings index nowhere) ≡ true →
      get_or (afterwards turn) index nowhere ≡ record { before = turn.segment.next; amount = credit_of turn index }
  pub stays :
      passes turn.own (get_or turn.standings index nowhere) ≡ false →
      get_or (afterwards turn) index nowhere ≡ get_or turn.standings index nowhere

-- It is credited its proportional part of the outflow, rounded down or up, and sent on with that (rule 13.4).
pub record Credited (turn : Turn) (index : ℕ) : Type 0 where
  pub rounded :
      (credit_of turn index ≡ amount_of turn index * turn.segment.outflow / sum (entering turn))
      ⊎ (credit_of turn index ≡ rounded_up (amount_of turn index * turn.segment.outflow) (sum (entering turn)))
  pub sent_on_lem : SentOn turn index

-- ---- all plants at a segment
-- What the charges add up to, beside the emission, the inflow and the number of plants on the segment (rule 13.10).
pub record AddUp (emission inflow plants charges : ℕ) : Type 0 where
  -- no less than E
  pub no_less : emission ≤ charges
  -- with inflow less than a kg more for each plant
  pub fewer : 0 < inflow → charges < emission + plants
  -- without inflow there is no emission and no charge
  pub none : inflow ≡ 0 → (emission ≡ 0) × (charges ≡ 0)
