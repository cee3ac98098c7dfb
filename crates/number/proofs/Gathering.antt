-- Laws of gathering a number's groups, over the count of groups: none is written out for a count of its own.
use Prim.Native.Nat.{ℕ, zero, suc, ◌-◌, ◌%◌, ◌≤◌, ◌<◌}
use mathlib.Core.Path.{◌≡◌, refl, sym, ap, ◌∙◌}
use mathlib.Core.List.{List, [], ◌∷◌, ◌++◌}
use mathlib.Core.Bool.{cond}
use mathlib.Core.Logic.{◌⊎◌, inl, inr, ⊎_elim}
use native.Mathlib.Decide.{dec_le}
use native.Mathlib.Omega.{arith}
use lib.ListN.{length, get_or, take, drop, set, drop_of_length-le, length-set}
use lib.Seq.{drop-cons, take-suc-set}
use borrow.Author.Tests.{le-leb, lt-leb}
use Rattle.number.specs.Groups.{Gathering, before, gather, follows, group, most_groups, radix}
use Rattle.number.specs.Groups.Gathering.{whole, cut, long}

-- ---- one group
-- a byte that says another follows: its group, before the rest
pub gather_more : (k b : ℕ) (s : List ℕ) → radix ≤ b → gather (suc k) (b ∷ s) ≡ before (b % radix) (gather k s)
unfolding gather
gather_more k b s h = rw (le-leb radix b h)

-- a byte that says none follows: its group alone
pub gather_last : (k b : ℕ) (s : List ℕ) → b < radix → gather (suc k) (b ∷ s) ≡ whole (b % radix ∷ [])
unfolding gather
gather_last k b s h = rw (lt-leb radix b h)

-- a byte says that none follows, or that another does
pub last_or_more : (b : ℕ) → (b < radix) ⊎ (radix ≤ b)
last_or_more b = decided (dec_le radix b)
  where
    decided : Dec (radix ≤ b) → (b < radix) ⊎ (radix ≤ b)
    decided (yes h) = inr h
    decided (no h) = inl (omega arith)

-- ---- what comes after does not matter, unless the bytes end first
pub gather_after : (k : ℕ) (s t : List ℕ) → (gather k s ≡ cut → ⊥) → gather k (s ++ t) ≡ gather k s
unfolding gather
gather_after zero s t h = refl
gather_after (suc k) [] t h = absurd (h refl)
gather_after (suc k) (b ∷ s) t h =
    ⊎_elim
    (λ last. gather_last k b (s ++ t) last ∙ sym (gather_last k b s last))
    (λ m.
    let rest : gather k s ≡ cut → ⊥ = λ e. h (gather_more k b s m ∙ ap (before (b % radix)) e) in
    gather_more k b (s ++ t) m ∙ ap (before (b % radix)) (gather_after k s t rest) ∙ sym (gather_more k b s m))
    (last_or_more b)

-- no more bytes are looked at than there may be groups
pub gather_take : (k : ℕ) (s : List ℕ) → gather k (take k s) ≡ gather k s
unfolding gather
gather_take zero s = refl
gather_take (suc k) [] = refl
gather_take (suc k) (b ∷ s) = ap (λ (r : Gathering). cond (follows b) (before (group b) r) (whole (group b ∷ []))) (gather_take k s)

-- ---- the groups that came, before what is still to come
unfoldable pub prepend : List ℕ → Gathering → Gathering
prepend [] r = r
prepend (g ∷ gs) r = before g (prepend gs r)

-- one group more, before what is still to come
prepend_one : (gs : List ℕ) (g : ℕ) (r : Gathering) → prepend (gs ++ g ∷ []) r ≡ prepend gs (before g r)
unfolding prepend
prepend_one [] g r = refl
prepend_one (h ∷ gs) g r = ap (before h) (prepend_one gs g r)

-- before a whole number they are its first groups
prepend_whole : (gs hs : List ℕ) → prepend gs (whole hs) ≡ whole (gs ++ hs)
unfolding prepend
prepend_whole [] hs = refl
prepend_whole (g ∷ gs) hs = ap (before g) (prepend_whole gs hs)

-- an end that a group in front does not change
prepend_end : (r : Gathering) → ((g : ℕ) → before g r ≡ r) → (gs : List ℕ) → prepend gs r ≡ r
unfolding prepend
prepend_end r same [] = refl
prepend_end r same (g ∷ gs) = ap (before g) (prepend_end r same gs) ∙ same g

-- ---- the loop: the first n groups have come, each saying that another follows
pub record Gathers (bytes groups : List ℕ) (n : ℕ) : Type 0 where
  pub within : n ≤ most_groups
  pub room : length groups ≡ most_groups
  pub whole_is : gather most_groups bytes ≡ prepend (take n groups) (gather (most_groups - n) (drop n bytes))

-- before the first turn none has come
pub start : (bytes groups : List ℕ) → length groups ≡ most_groups → Gathers bytes groups 0
unfolding prepend
start bytes groups room = record { within = omega arith; room = room; whole_is = refl }

module _ (bytes groups : List ℕ) (n : ℕ) (g : Gathers bytes groups n) (below : n < most_groups) where
  -- at least one group more may come
  left : most_groups - n ≡ suc (most_groups - suc n)
  left = omega arith

  -- no byte is left: the bytes end first
  pub cut_is : length bytes ≤ n → gather most_groups bytes ≡ cut
  unfolding gather
  cut_is h =
      g.whole_is
      ∙ rw (left, drop_of_length-le bytes h) (prepend_end cut (λ g. refl) (take n groups))

  module _ (more_bytes : n < length bytes) where
    -- the array has a place for the next group
    here : n < length groups
    here = rw g.room below

    -- the next byte
    abbrev pub byte : ℕ
    byte = get_or bytes n 0

    -- the byte says that none follows: the number is whole
    pub last_is : (x : ℕ) → x ≡ byte % radix → byte < radix → gather most_groups bytes ≡ whole (take (suc n) (set groups n x))
    last_is x e h =
        g.whole_is
        ∙ rw (
          left,
          drop-cons bytes n 0 more_bytes,
          gather_last (most_groups - suc n) (get_or bytes n 0) (drop (suc n) bytes) h,
          sym e,
        )
        (prepend_whole (take n groups) (x ∷ [])
        ∙ ap whole (sym (take-suc-set groups n x here)))

    -- or that another does: one group more has come
    pub turn : (x : ℕ) → x ≡ byte % radix → radix ≤ byte → Gathers bytes (set groups n x) (suc n)
    turn x e h =
        record {
          within = omega arith;
          room = length-set groups n x ∙ g.room;
          whole_is =
              g.whole_is
              ∙ rw (
                left,
                drop-cons bytes n 0 more_bytes,
                gather_more (most_groups - suc n) (get_or bytes n 0) (drop (suc n) bytes) h,
                sym e,
                take-suc-set groups n x here,
              )
              (sym (prepend_one (take n groups) x (gather (most_groups - suc n) (drop (suc n) bytes))));
        }

-- all groups that a number may have came, and say that another follows
pub more_is : (bytes groups : List ℕ) (n : ℕ) → Gathers bytes groups n → most_groups ≤ n → gather most_groups bytes ≡ long
unfolding gather
more_is bytes groups n g h =
    let all : most_groups - n ≡ 0 = omega arith in
    g.whole_is ∙ rw all (prepend_end long (λ g. refl) (take n groups))
