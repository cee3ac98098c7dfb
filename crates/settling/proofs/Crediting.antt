-- The loop of the credits: plant by plant, what was shared so far is the definitions' credits up to there.
use Prim.Native.Nat.{ℕ, zero, suc, ◌+◌, ◌-◌, ◌*◌, ◌/◌, ◌≤◌, ◌<◌}
use mathlib.Core.Path.{◌≡◌, sym, ap, ◌∙◌}
use mathlib.Core.List.{List, ◌∷◌, ◌++◌, append-nil}
use native.Mathlib.Nat.{zero-mul, zero-div, div-zero, mul-le-mul_right, mul-div_cancel_left}
use native.Mathlib.Omega.{arith}
use lib.ListN.{length, set, take, drop, length-drop, length-set, drop_of_length-le}
use lib.Seq.{take-suc-set, append_snoc}
use Rattle.fields.specs.Lists.{sum}
use Rattle.accounts.specs.Flow.{credits_from, credits}
use Rattle.accounts.proofs.Credits.{div_mono}

-- what the plants before p brought, its part of the outflow, and their credits, which are written
pub record Crediting (inflow outflow : ℕ) (entering written : List ℕ) (before shared p : ℕ) : Type 0 where
  pub within : p ≤ length entering
  pub room : length entering ≤ length written
  pub inflow_is : before + sum (drop p entering) ≡ inflow
  pub shared_is : shared ≡ before * outflow / inflow
  pub credited : take p written ++ credits_from inflow outflow before (drop p entering) ≡ credits outflow entering

-- before the first plant nothing is shared
pub crediting_start :
    (inflow outflow : ℕ) (entering written : List ℕ) → inflow ≡ sum entering → length entering ≤ length written →
    Crediting inflow outflow entering written 0 0 0
crediting_start inflow outflow entering written e room = record {
  within = omega arith;
  room = room;
  inflow_is = omega arith;
  shared_is = rw (zero-mul, zero-div);
  credited = rw e;
}

-- the amount that enters next
abbrev pub Next : (entering : List ℕ) (p amount : ℕ) → Type 0
Next entering p amount = drop p entering ≡ amount ∷ drop (suc p) entering

-- no more is shared than left
share_most : (inflow outflow n : ℕ) → n ≤ inflow → n * outflow / inflow ≤ outflow
share_most zero outflow n most = rw (div-zero (n * outflow)) (omega arith)
share_most (suc a) outflow n most =
    omega (arith, div_mono (suc a) (n * outflow) (suc a * outflow) (mul-le-mul_right outflow most), mul-div_cancel_left outflow {n = suc a} (omega arith))

module _ {inflow outflow : ℕ} {entering written : List ℕ} {before shared p : ℕ} (c : Crediting inflow outflow entering written before shared p) where
  -- with it no more than the inflow came
  pub so_far_most : (amount : ℕ) → Next entering p amount → before + amount ≤ inflow
  unfolding sum
  so_far_most amount next = omega (arith, rw next at c.inflow_is)

  -- what is shared does not shrink
  pub shared_most : (amount part : ℕ) → part ≡ (before + amount) * outflow / inflow → shared ≤ part
  shared_most amount part part_is =
      rw (part_is, c.shared_is) (div_mono inflow (before * outflow) ((before + amount) * outflow) (omega arith))

  -- nor is more shared than left
  pub part_most : (amount part : ℕ) → Next entering p amount → part ≡ (before + amount) * outflow / inflow → part ≤ outflow
  part_most amount part next part_is = rw part_is (share_most inflow outflow (before + amount) (so_far_most amount next))

  -- one plant more
  pub crediting_on :
      (amount part : ℕ) → Next entering p amount → part ≡ (before + amount) * outflow / inflow →
      Crediting inflow outflow entering (set written p (part - shared)) (before + amount) part (suc p)
  unfolding credits_from sum
  crediting_on amount part next part_is =
      let more : p < length entering = omega (arith, length-drop p entering, ap length next) in
      record {
        within = more;
        room = rw (length-set written p (part - shared)) c.room;
        inflow_is = omega (arith, rw next at c.inflow_is);
        shared_is = part_is;
        credited =
            rw (take-suc-set written p (part - shared) (omega arith), append_snoc, part_is, c.shared_is) (rw next at c.credited);
      }

  -- all plants
  pub crediting_end : length entering ≤ p → take p written ≡ credits outflow entering
  unfolding credits_from
  crediting_end h = sym (append-nil (take p written)) ∙ rw (drop_of_length-le entering h) at c.credited
