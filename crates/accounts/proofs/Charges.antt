-- Laws of one charge, ceil(a × E / A): it is the plant's part of the emission, or less than one kg more; and a larger emission lowers none.
use Prim.Native.Nat.{ℕ, zero, suc, ◌+◌, ◌-◌, ◌*◌, ◌≤◌, ◌<◌}
use mathlib.Core.Path.{◌≡◌, refl}
use mathlib.Core.List.{List}
use native.Mathlib.Nat.{le_trans, zero-mul, mul-le-mul_left, div-zero, div-mul-le_self, div-lt_iff_lt-mul}
use native.Mathlib.Omega.{arith}
use lib.ListN.{get_or}
use Rattle.fields.specs.Lists.{sum}
use Rattle.records.specs.declared.line.Line.{Line}
use Rattle.records.specs.Classes.{segment_owner}
use Rattle.accounts.specs.Emissions.{emission}
use Rattle.accounts.specs.Flow.{Turn}
use Rattle.accounts.specs.Accounts.{Account, account, charge, charge_to}
use Rattle.accounts.specs.Shares.{entering}
use Rattle.accounts.proofs.Credits.{div_mono, up_least, up_part}

-- ---- a segment's account, and the charge for an amount
module _ (a : Account) where
  -- without inflow nothing is charged
  pub charge_without_inflow : (amount : ℕ) → a.inflow ≡ 0 → charge a amount ≡ 0
  charge_without_inflow amount none = rw none (div-zero _)

  -- a plant that brings nothing is charged nothing
  pub charge_nothing : charge a 0 ≡ 0
  charge_nothing = by_inflow a.inflow refl
    where
      by_inflow : (inflow : ℕ) → a.inflow ≡ inflow → charge a 0 ≡ 0
      by_inflow zero none = charge_without_inflow 0 none
      by_inflow (suc less) some =
          let below_one : charge a 0 < 1 = (div-lt_iff_lt-mul {k = a.inflow} (omega arith)).1 (omega (arith, zero-mul a.emission)) in
          omega arith

  -- rounded up: no less than the part, taken times the inflow
  pub charge_least : (amount : ℕ) → 0 < a.inflow → amount * a.emission ≤ charge a amount * a.inflow
  charge_least amount = up_least a.inflow (amount * a.emission)

  -- by less than one kg
  pub charge_most : (amount : ℕ) → charge a amount * a.inflow ≤ amount * a.emission + (a.inflow - 1)
  charge_most amount = le_trans (div-mul-le_self _ a.inflow) (omega arith)

  -- for no more than the inflow it is no more than the emission
  pub charge_within : (amount : ℕ) → amount ≤ a.inflow → charge a amount ≤ a.emission
  charge_within amount = up_part a.inflow amount a.emission

-- ---- if the lines give a segment a larger emission, no plant's charge there is less: its amount and the inflow are the same
pub charge_no_less :
    (less more : List Line) (turn : Turn) → emission segment_owner turn.own less ≤ emission segment_owner turn.own more →
    (index : ℕ) → charge_to index (account less turn) ≤ charge_to index (account more turn)
unfolding account
charge_no_less less more turn larger index =
    let amount : ℕ = get_or (entering turn) index 0 in
    let inflow : ℕ = sum (entering turn) in
    let part : List Line → ℕ = λ lines. amount * emission segment_owner turn.own lines + (inflow - 1) in
    omega (arith, div_mono inflow (part less) (part more) (omega (arith, mul-le-mul_left amount larger)))
