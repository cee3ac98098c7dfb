-- Laws of division and rounding, and of credits: each is the plant's proportional part, rounded, and no more than it brought; all
-- add up to the outflow.
use Prim.Native.Nat.{ℕ, zero, suc, ◌+◌, ◌-◌, ◌*◌, ◌/◌, ◌≤◌, ◌<◌}
use mathlib.Core.Path.{◌≡◌, refl, sym, ap, ◌∙◌}
use mathlib.Core.List.{List, [], ◌∷◌}
use mathlib.Core.Logic.{◌⊎◌, inl, inr}
use native.Mathlib.Nat.{add-zero, add_assoc, mul_comm, add-mul, mul-le-mul_left, not-suc-le-zero, le_of_suc-le-suc, div-zero, mul-div_cancel_left, div-mul-le_self, le-div_iff_mul-le, div-lt_iff_lt-mul, lt-div-mul-add}
use native.Mathlib.Decide.{dec_le}
use native.Mathlib.Omega.{arith}
use lib.ListN.{length, get_or, take, get_or-eq_default}
use Rattle.fields.specs.Lists.{sum}
use Rattle.accounts.specs.Sums.{rounded_up}
use Rattle.accounts.specs.Flow.{credit, credits_from, credits}

-- ---- division
-- it keeps an order, also by 0
pub div_mono : (d m n : ℕ) → m ≤ n → m / d ≤ n / d
div_mono zero m n h = rw (div-zero m, div-zero n) (omega arith)
div_mono (suc d) m n h = (le-div_iff_mul-le {k = suc d} (omega arith)).1 (omega (arith, div-mul-le_self m (suc d)))

-- the quotient of a sum: no less than both quotients rounded down, no more than with the second one rounded up, also by 0
div_sum : (d m n : ℕ) → (m / d + n / d ≤ (m + n) / d) × ((m + n) / d ≤ m / d + rounded_up n d)
div_sum zero m n = omega (arith, div-zero m, div-zero n, div-zero (m + n), div-zero (n + (0 - 1)))
div_sum (suc d) m n =
    let up = lt-div-mul-add {a = n + (suc d - 1)} {b = suc d} (omega arith) in
    let most : (m + n) / suc d < suc (m / suc d + rounded_up n (suc d)) =
    (div-lt_iff_lt-mul {k = suc d} (omega arith)).1 (omega (arith, lt-div-mul-add {a = m} {b = suc d} (omega arith), up)) in
    ((le-div_iff_mul-le {k = suc d} (omega arith)).1 (omega (arith, div-mul-le_self m (suc d), div-mul-le_self n (suc d))), omega (arith, most))

-- ---- rounded up
-- no more than any number that is large enough
pub up_most : (d n most : ℕ) → n ≤ most * d → rounded_up n d ≤ most
up_most zero n most h = omega (arith, div-zero (n + (0 - 1)))
up_most (suc d) n most h =
    let below : rounded_up n (suc d) < suc most = (div-lt_iff_lt-mul {k = suc d} (omega arith)).1 (omega (arith, h)) in
    omega (arith, below)

-- no less than the number itself, taken times the divisor
pub up_least : (d n : ℕ) → 0 < d → n ≤ rounded_up n d * d
up_least d n some = omega (arith, lt-div-mul-add {a = n + (d - 1)} some)

-- a part of a whole is no more than the whole
pub up_part : (d amount whole : ℕ) → amount ≤ d → rounded_up (amount * whole) d ≤ whole
up_part d amount whole part = up_most d (amount * whole) whole (omega (arith, mul-le-mul_left whole part, mul_comm amount whole))

-- at most one more than rounded down
up_next : (d n : ℕ) → 0 < d → rounded_up n d ≤ suc (n / d)
up_next d n some = up_most d n (suc (n / d)) (omega (arith, lt-div-mul-add {a = n} {b = d} some))

-- ---- one credit for each amount
pub credits_length : (inflow outflow before : ℕ) (entering : List ℕ) → length (credits_from inflow outflow before entering) ≡ length entering
unfolding credits_from
credits_length inflow outflow before [] = refl
credits_length inflow outflow before (amount ∷ rest) = ap suc (credits_length inflow outflow (before + amount) rest)

-- the credit at an index is that of the amount there, with the sum of the amounts before it
credit_at :
    (inflow outflow before : ℕ) (entering : List ℕ) (p : ℕ) → p < length entering →
    get_or (credits_from inflow outflow before entering) p 0 ≡ credit inflow outflow (before + sum (take p entering)) (get_or entering p 0)
unfolding credits_from sum
credit_at inflow outflow before [] p h = absurd (not-suc-le-zero h)
credit_at inflow outflow before (amount ∷ rest) zero h = ap (λ (n : ℕ). credit inflow outflow n amount) (sym (add-zero before))
credit_at inflow outflow before (amount ∷ rest) (suc p) h =
    credit_at inflow outflow (before + amount) rest p (le_of_suc-le-suc h)
    ∙ ap (λ (n : ℕ). credit inflow outflow n (get_or rest p 0)) (add_assoc before amount (sum (take p rest)))

-- ---- a credit is the plant's proportional part, rounded
module _ (inflow outflow before amount : ℕ) where
  -- the plant's proportional part, rounded down and rounded up
  abbrev down : ℕ
  down = amount * outflow / inflow

  abbrev up : ℕ
  up = rounded_up (amount * outflow) inflow

  -- what is shared up to and including a plant is what is shared before it and its part, rounded down or up
  shared :
      (before * outflow / inflow + down ≤ (before + amount) * outflow / inflow)
      × ((before + amount) * outflow / inflow ≤ before * outflow / inflow + up)
  shared = rw (add-mul before amount outflow) (div_sum inflow (before * outflow) (amount * outflow))

  -- so its credit is the one or the other
  credit_rounded : 0 < inflow → (credit inflow outflow before amount ≡ down) ⊎ (credit inflow outflow before amount ≡ up)
  credit_rounded some = by_side (dec_le (credit inflow outflow before amount) down)
    where
      next : up ≤ suc down
      next = up_next inflow (amount * outflow) some

      by_side :
          Dec (credit inflow outflow before amount ≤ down) →
          (credit inflow outflow before amount ≡ down) ⊎ (credit inflow outflow before amount ≡ up)
      by_side (yes least) = inl (omega (arith, shared, least))
      by_side (no more) = inr (omega (arith, shared, more, next))

  -- no credit is over what the plant brought
  credit_most : outflow ≤ inflow → credit inflow outflow before amount ≤ amount
  credit_most h = omega (arith, shared, up_most inflow (amount * outflow) amount (mul-le-mul_left amount h))

-- the same of the credit at an index: the plant's proportional part, rounded
pub credited_rounded :
    (outflow : ℕ) (entering : List ℕ) (p : ℕ) → p < length entering → 0 < sum entering →
    let part = get_or entering p 0 * outflow in
    (get_or (credits outflow entering) p 0 ≡ part / sum entering) ⊎ (get_or (credits outflow entering) p 0 ≡ rounded_up part (sum entering))
credited_rounded outflow entering p below some =
    rw (credit_at (sum entering) outflow 0 entering p below)
    (credit_rounded (sum entering) outflow (0 + sum (take p entering)) (get_or entering p 0) some)

-- and no more than it brought, also behind the last plant, as both are 0 there
pub credited_most : (outflow : ℕ) (entering : List ℕ) (p : ℕ) → outflow ≤ sum entering → get_or (credits outflow entering) p 0 ≤ get_or entering p 0
credited_most outflow entering p h = by_index (dec_le (suc p) (length entering))
  where
    by_index : Dec (p < length entering) → get_or (credits outflow entering) p 0 ≤ get_or entering p 0
    by_index (yes q) =
        rw (credit_at (sum entering) outflow 0 entering p q)
        (credit_most (sum entering) outflow (0 + sum (take p entering)) (get_or entering p 0) h)
    by_index (no q) =
        rw (get_or-eq_default (credits outflow entering) 0 {n = p} (omega (arith, credits_length (sum entering) outflow 0 entering))) (omega arith)

-- ---- credits add up
-- two plants, one after the other, are credited what one that brings both amounts would be
credits_two :
    (inflow outflow before one two : ℕ) →
    credit inflow outflow before one + credit inflow outflow (before + one) two ≡ credit inflow outflow before (one + two)
credits_two inflow outflow before one two =
    let both : (before + one + two) * outflow / inflow ≡ (before + (one + two)) * outflow / inflow =
    ap (λ (n : ℕ). n * outflow / inflow) (add_assoc before one two) in
    omega (arith, (shared inflow outflow before one).0, (shared inflow outflow (before + one) two).0, both)

-- so all plants from one on are credited what one that brings all their amounts would be
credits_from_lem :
    (inflow outflow before : ℕ) (entering : List ℕ) →
    sum (credits_from inflow outflow before entering) ≡ credit inflow outflow before (sum entering)
unfolding credits_from sum
credits_from_lem inflow outflow before [] = omega (arith, shared inflow outflow before 0, up_most inflow (0 * outflow) 0 (omega arith))
credits_from_lem inflow outflow before (amount ∷ rest) =
    ap (λ (n : ℕ). credit inflow outflow before amount + n) (credits_from_lem inflow outflow (before + amount) rest)
    ∙ credits_two inflow outflow before amount (sum rest)

-- one that brings the whole inflow is credited the outflow, if that is no more
credit_whole : (inflow outflow : ℕ) → outflow ≤ inflow → credit inflow outflow 0 inflow ≡ outflow
credit_whole inflow outflow h =
    let up = up_most inflow (inflow * outflow) outflow (omega (arith, mul_comm inflow outflow)) in
    omega (arith, h, shared inflow outflow 0 inflow, down inflow h, up)
  where
    down : (inflow : ℕ) → outflow ≤ inflow → inflow * outflow / inflow ≡ outflow
    down zero none = omega (arith, none, div-zero (0 * outflow))
    down (suc a) some = mul-div_cancel_left outflow {n = suc a} (omega arith)

-- so all credits add up to the outflow
pub credits_sum : (outflow : ℕ) (entering : List ℕ) → outflow ≤ sum entering → sum (credits outflow entering) ≡ outflow
credits_sum outflow entering h = credits_from_lem (sum entering) outflow 0 entering ∙ credit_whole (sum entering) outflow h
