-- The account of a segment's turn: inflow, outflow, emission, set of plants, and the charges.
use Rattle.std.specs.Prelude.{ℕ, suc, ◌+◌, ◌*◌, ◌/◌, ◌%◌, ◌^◌, Bool, cond, List, [], ◌∷◌, map, eqb, get_or}
use Rattle.fields.specs.Lists.{sum}
use Rattle.records.specs.declared.line.Line.{Line}
use Rattle.records.specs.Classes.{segment_owner}
use Rattle.accounts.specs.Emissions.{emission}
use Rattle.accounts.specs.Sums.{rounded_up}
use Rattle.accounts.specs.Flow.{Standing, passes, amounts, Turn}

-- A segment's account: its number, what each plant brings, A, D, E and the set of plants (rule 7.2).
pub record Account : Type 0 where
  pub own : ℕ
  pub entering : List ℕ
  pub inflow : ℕ
  pub outflow : ℕ
  pub emission : ℕ
  pub plants : ℕ

-- Who passes a segment, as a number: plant 1 has the lowest bit. A plant that brings nothing is in it, too (rule 5.7).
unfoldable pub set_of : (own bit : ℕ) → List Standing → ℕ
set_of own bit [] = 0
set_of own bit (standing ∷ rest) = cond (passes own standing) (2 ^ bit) 0 + set_of own (suc bit) rest

-- Whether a set has the member at an index from 0: whether that bit is set (rule 5.7).
abbrev pub has_bit : (set index : ℕ) → Bool
has_bit set index = eqb (set / 2 ^ index % 2) 1

-- The account of a segment's turn: the inflow is the sum of all amounts, the emission is that of its lines (rules 4.3, 5.3 and 5.7).
unfoldable pub account : List Line → Turn → Account
account lines turn = record {
  own = turn.own;
  entering = amounts turn.own turn.standings;
  inflow = sum (amounts turn.own turn.standings);
  outflow = turn.segment.outflow;
  emission = emission segment_owner turn.own lines;
  plants = set_of turn.own 0 turn.standings;
}

-- What a segment charges for an amount: its part of the emission, rounded up; 0 without inflow, as n / 0 is 0 (rule 6.1).
abbrev pub charge : Account → ℕ → ℕ
charge segment amount = rounded_up (amount * segment.emission) segment.inflow

-- What a segment charges to the plant at an index from 0 (rule 6.1).
abbrev pub charge_to : ℕ → Account → ℕ
charge_to index segment = charge segment (get_or segment.entering index 0)

-- What all segments charge to it (rule 6.2).
abbrev pub charges : ℕ → List Account → ℕ
charges index accounts = sum (map (charge_to index) accounts)
