-- What is written in the shortest form reads back, and what is read was in the shortest form.
use Prim.Native.Nat.{ℕ, zero, suc, ◌+◌, ◌-◌, ◌*◌, ◌/◌, ◌%◌, ◌^◌, ◌≤◌, ◌<◌}
use mathlib.Core.Path.{◌≡◌, refl, sym, ap, ap₂, ◌∙◌}
use mathlib.Core.List.{List, [], ◌∷◌, ◌++◌}
use mathlib.Core.Logic.{◌⊎◌, inl, inr, ⊎_elim}
use mathlib.Core.Bool.{false, true≢false}
use native.Mathlib.Nat.{mod-lt, mod-eq_of_lt, div-lt_iff_lt-mul, le-div_iff_mul-le, pow-suc}
use native.Mathlib.Decide.{dec_le, dec_lt}
use native.Mathlib.Omega.{arith}
use lib.ListN.{length, get_or, take, drop, take-append-drop, length-drop}
use lib.Seq.{drop-append_seam, get_or-drop, drop-drop, length-take-le}
use lib.Dec.{lit<}
use lib.Pow.{pow_pos}
use borrow.Author.Tests.{lt-ltb, le-ltb, lt-leb}
use Rattle.number.specs.Groups.{value, padded, group_bits, radix, group, most_groups, largest, before, gather}
use Rattle.number.specs.Groups.Gathering.{long}
use Rattle.number.specs.Writing.{writing, written, AreBytes}
use Rattle.number.specs.Reading.{reading, read_at, from, formed, found_of, too_large}
use Rattle.number.specs.Reading.Found.{number, fault}
use Rattle.number.proofs.Values.{group_more}
use Rattle.number.proofs.Gathering.{gather_more}
use Rattle.number.proofs.FrontGroups.{Fronts, gathers, some}
use Rattle.number.proofs.FrontGroups.Fronts.{last_group, group_before}
use Rattle.number.proofs.Forming.{last, last_behind, padded_zero, padded_single, padded_other}
use Rattle.number.proofs.Findings.{Reads, reads, front_reads, at_front}
use Rattle.number.proofs.Laws.{bounds}

-- ---- one group
-- a number below the radix is one group
pub writing_last : (k v : ℕ) → v < radix → writing (suc k) v ≡ v ∷ []
unfolding writing
writing_last k v h = rw (lt-ltb v radix h)

-- a larger one is a group that says another follows, and the rest
pub writing_more : (k v : ℕ) → radix ≤ v → writing (suc k) v ≡ (radix + group v) ∷ writing k (v / radix)
unfolding writing
writing_more k v h = rw (le-ltb v radix h)

-- ---- what is written is there
record Written (k v : ℕ) (t : List ℕ) : Type 0 where
  groups : List ℕ
  front : Fronts k (writing k v ++ t) groups
  value_is : value groups ≡ v
  size_is : length groups ≡ length (writing k v)
  last_is : 0 < v → last groups ≡ 0 → ⊥
  single : v < radix → length groups ≤ 1

-- a number of one group
one_last : (k v : ℕ) (t : List ℕ) → v < radix → Written (suc k) v t
unfolding value
one_last k v t h =
    let same : v % radix ≡ v = mod-eq_of_lt h in
    record {
      groups = v % radix ∷ [];
      front = rw (writing_last k v h) (last_group h);
      value_is = omega arith;
      size_is = rw (writing_last k v h);
      last_is = λ p e. omega arith;
      single = λ _. omega arith;
    }

-- a group in front of the rest
one_more : (k v : ℕ) (t : List ℕ) → radix ≤ v → Written k (v / radix) t → Written (suc k) v t
unfolding value
one_more k v t h w =
    let byte = radix + v % radix in
    let says_more : radix ≤ byte = omega arith in
    record {
      groups = byte % radix ∷ w.groups;
      front = rw (writing_more k v h) (group_before says_more w.front);
      value_is = rw w.value_is (omega arith);
      size_is = rw (writing_more k v h) (ap suc w.size_is);
      last_is = λ p e. w.last_is (omega arith) (sym (last_behind (byte % radix) w.groups (some w.front)) ∙ e);
      single = λ b. absurd (omega arith);
    }

-- a number that takes more than one group is allowed more than one
more_allowed : (k v : ℕ) → radix ≤ v → v < 2 ^ (group_bits * suc k) → 0 < k
more_allowed zero v h b = absurd (omega arith)
more_allowed (suc k) v h b = omega arith

-- a number that a given count of groups can hold is written in them
stands_written : (k v : ℕ) (t : List ℕ) → 0 < k → v < 2 ^ (group_bits * k) → Written k v t
stands_written zero v t h b = absurd (omega arith)
stands_written (suc k) v t h b = by_size (dec_lt v radix) (stands_written k (v / radix) t)
  where
    by_size : Dec (v < radix) → (0 < k → v / radix < 2 ^ (group_bits * k) → Written k (v / radix) t) → Written (suc k) v t
    by_size (yes small) rest = one_last k v t small
    by_size (no large) rest = one_more k v t (omega arith) (rest (more_allowed k v (omega arith) b) ((div-lt_iff_lt-mul (lit< tt)).1 (rw (group_more k) at b)))

-- a number within the limit reads back, whatever follows
pub reads_back : (v : ℕ) (t : List ℕ) → v ≤ largest → reading (written v ++ t) ≡ number v (length (written v))
unfolding written
reads_back v t h =
    front_reads (writing most_groups v ++ t) w.groups v (length (writing most_groups v)) w.front
    (record { shortest = shortest (dec_lt v radix); value_is = w.value_is; size_is = w.size_is; small = h })
  where
    w : Written most_groups v t
    w = stands_written most_groups v t (lit< tt) (omega arith)

    shortest : Dec (v < radix) → padded w.groups ≡ false
    shortest (yes small) = padded_single w.groups (w.single small)
    shortest (no large) = padded_other w.groups (w.last_is (omega arith))

-- and wherever it is
pub reads_back_at : (p : List ℕ) (v : ℕ) (t : List ℕ) → v ≤ largest → read_at (p ++ (written v ++ t)) (length p) ≡ number v (length p + length (written v))
unfolding read_at
reads_back_at p v t h =
    ap (λ (s : List ℕ). from (length p) (reading s)) (drop-append_seam p (written v ++ t))
    ∙ ap (from (length p)) (reads_back v t h)

-- ---- a number over the limit is fault 3, whatever follows
-- one that a given count of groups cannot hold takes all of them, and each says that another follows
too_many : (k v : ℕ) (t : List ℕ) → 2 ^ (group_bits * k) ≤ v → gather k (writing k v ++ t) ≡ long
unfolding gather writing
too_many zero v t large = refl
too_many (suc k) v t large =
    let power : 2 ^ (group_bits * suc k) ≡ 2 ^ (group_bits * k) * radix = group_more k in
    let some : 1 ≤ 2 ^ (group_bits * k) = pow_pos (group_bits * k) in
    let more : radix ≤ v = omega (arith, power, some, large) in
    let rest : 2 ^ (group_bits * k) ≤ v / radix = (le-div_iff_mul-le {k = radix} (lit< tt)).1 (rw power at large) in
    rw (writing_more k v more) (gather_more k (radix + v % radix) (writing k (v / radix) ++ t) (omega arith) ∙ ap (before ((radix + v % radix) % radix)) (too_many k (v / radix) t rest))

-- so does every number over the limit that five groups cannot hold; one that they hold is too large by its value
pub over_the_limit : (v : ℕ) (t : List ℕ) → largest < v → reading (written v ++ t) ≡ fault too_large
unfolding written reading formed
over_the_limit v t large = by_size (dec_lt v (2 ^ (group_bits * most_groups)))
  where
    by_size : Dec (v < 2 ^ (group_bits * most_groups)) → found_of (gather most_groups (writing most_groups v ++ t)) ≡ fault too_large
    by_size (yes small) =
        let w : Written most_groups v t = stands_written most_groups v t (lit< tt) small in
        ap found_of (gathers w.front)
        ∙ rw (padded_other w.groups (w.last_is (omega arith)), lt-leb (value w.groups) largest (omega (arith, w.value_is))) refl
    by_size (no not_small) = ap found_of (too_many most_groups v t (omega arith))

-- and wherever it is
pub over_the_limit_at : (p : List ℕ) (v : ℕ) (t : List ℕ) → largest < v → read_at (p ++ (written v ++ t)) (length p) ≡ fault too_large
unfolding read_at
over_the_limit_at p v t large =
    ap (λ (s : List ℕ). from (length p) (reading s)) (drop-append_seam p (written v ++ t))
    ∙ ap (from (length p)) (over_the_limit v t large)

-- ---- what is there is what is written
-- groups that do not end in a zero group have a value above 0
positive : (gs : List ℕ) → (last gs ≡ 0 → ⊥) → 0 < value gs
unfolding value
positive [] h = absurd (h refl)
positive (g ∷ []) h = omega arith
positive (g ∷ (k ∷ gs)) h =
    let rest = positive (k ∷ gs) (λ e. h (last_behind g (k ∷ gs) (omega arith) ∙ e)) in
    omega arith

-- bytes whose groups have the shortest form are what is written for their value
form_is : {k : ℕ} {s gs : List ℕ} → Fronts k s gs → AreBytes s → (length gs ≤ 1) ⊎ (last gs ≡ 0 → ⊥) → take (length gs) s ≡ writing k (value gs)
unfolding value
form_is (last_group {k} {b} h) bytes form =
    let same : b ≡ 0 * radix + b % radix = omega (arith, mod-eq_of_lt h) in
    sym (writing_last k (0 * radix + b % radix) (omega arith) ∙ ap (λ (x : ℕ). x ∷ []) (sym same))
form_is (group_before {k} {b} {s} {gs} h r) bytes form =
    let other : last gs ≡ 0 → ⊥ =
    λ e. ⊎_elim (λ one. omega (arith, some r)) (λ nz. nz (last_behind (b % radix) gs (some r) ∙ e)) form in
    let several = positive gs other in
    let v = value gs * radix + b % radix in
    let low : b % radix < radix = mod-lt b (lit< tt) in
    let head : b ≡ radix + v % radix = omega (arith, bytes 0) in
    let tail : value gs ≡ v / radix = omega arith in
    sym (writing_more k v (omega arith) ∙ ap₂ (λ (x : ℕ) (y : List ℕ). x ∷ y) (sym head) (ap (writing k) (sym tail) ∙ sym (form_is r (λ i. bytes (suc i)) (inr other))))

-- the shortest form: one group, or a last group that is not zero
shortest_form : (gs : List ℕ) → padded gs ≡ false → (length gs ≤ 1) ⊎ (last gs ≡ 0 → ⊥)
shortest_form gs p = by_length (dec_le (length gs) 1)
  where
    by_length : Dec (length gs ≤ 1) → (length gs ≤ 1) ⊎ (last gs ≡ 0 → ⊥)
    by_length (yes one) = inl one
    by_length (no several) = inr (λ e. true≢false (sym (padded_zero gs (omega arith) e) ∙ p))

-- the bytes of a number at the front of others are what is written
front_form : (bytes : List ℕ) (v m : ℕ) → Reads bytes v m → AreBytes bytes → take m bytes ≡ written v
unfolding written
front_form bytes v m r all =
    ap (λ (x : ℕ). take x bytes) (sym r.formed_so.size_is)
    ∙ form_is r.front all (shortest_form r.groups r.formed_so.shortest)
    ∙ ap (writing most_groups) r.formed_so.value_is

-- the bytes that were read as a number are its shortest form
pub record OneForm (file : List ℕ) (at v n : ℕ) : Type 0 where
  pub bytes_are : file ≡ take at file ++ (written v ++ drop n file)
  pub next_is : n ≡ at + length (written v)

pub one_form : (file : List ℕ) (at v n : ℕ) → AreBytes file → read_at file at ≡ number v n → OneForm file at v n
one_form file at v n all e =
    let (m, q, next_is) = at_front file at v n e in
    let b = bounds file at v n e in
    let from_there : AreBytes (drop at file) = λ i. rw (get_or-drop at file i 0) (all (at + i)) in
    let form : take m (drop at file) ≡ written v = front_form (drop at file) v m (reads (drop at file) v m q) from_there in
    let rest : drop m (drop at file) ≡ drop n file = drop-drop m at file ∙ ap (λ (x : ℕ). drop x file) (sym next_is) in
    let size : length (take m (drop at file)) ≡ m = length-take-le m (drop at file) (omega (arith, length-drop at file)) in
    record {
      bytes_are =
          sym (take-append-drop at file)
          ∙ ap (λ (s : List ℕ). take at file ++ s)
          (sym (take-append-drop m (drop at file)) ∙ ap₂ (λ (x y : List ℕ). x ++ y) form rest);
      next_is = next_is ∙ ap (λ (x : ℕ). at + x) (sym size ∙ ap length form);
    }

-- ---- the bytes of a number, by its value
-- if a power is above the value, its exponent is above the index of every group that is not zero
group_below : (groups : List ℕ) (i bytes : ℕ) → 0 < get_or groups i 0 → value groups < radix ^ bytes → i < bytes
unfolding value
group_below [] i bytes some small = absurd (omega arith)
group_below (g ∷ groups) zero zero some small = absurd (omega arith)
group_below (g ∷ groups) zero (suc bytes) some small = omega arith
group_below (g ∷ groups) (suc i) zero some small = let below = group_below groups i zero some (omega arith) in absurd (omega arith)
group_below (g ∷ groups) (suc i) (suc bytes) some small = let below = group_below groups i bytes some (omega (arith, pow-suc radix bytes)) in omega arith

-- so a number that was read takes no more bytes
pub few_bytes : (file : List ℕ) (at v n : ℕ) → read_at file at ≡ number v n → (bytes : ℕ) → 0 < bytes → v < radix ^ bytes → n ≤ at + bytes
few_bytes file at v n e bytes one small =
    let (m, q, next_is) = at_front file at v n e in
    let r = reads (drop at file) v m q in
    let groups = r.groups in
    let f = r.formed_so in
    let few : length groups ≤ bytes =
    ⊎_elim
    (λ single. omega arith)
    (λ other. let below = group_below groups (length groups - 1) bytes (omega (arith, other)) (rw f.value_is small) in omega arith)
    (shortest_form groups f.shortest) in
    omega (arith, f.size_is)
