-- The books that hold the amounts while the segments are worked, and what a turn does to them: private functions promise this to each other.
use Rattle.std.specs.Prelude.{ℕ, suc, ◌≤◌, ◌<◌, ◌≡◌, ◌⊎◌, cond, ◌&&◌, List, [], ◌∷◌, ◌++◌, map, eqb, length, take, get_or, set, Ok, Err}
use Rattle.std.specs.Int.Bits.{bit_or}
use Rattle.number.specs.Groups.{largest}
use Rattle.fields.specs.Answers.{Answer, Verdict, accepts, refuses, refusing}
use Rattle.fields.specs.Tests.{Test}
use Rattle.fields.specs.Lists.{sum}
use Rattle.records.specs.declared.plant.Plant.{Plant}
use Rattle.records.specs.Segments.{most_segments}
use Rattle.accounts.specs.Flow.{Standing, nowhere, at_first, brings, credits}
use Rattle.accounts.specs.Accounts.{Account, set_of, has_bit}
use Rattle.accounts.specs.Order.{segment_tests}
use Rattle.settling.specs.declared.flow.Books.{Books}
use Rattle.settling.specs.declared.flow.Due.{Due}
use Rattle.settling.specs.Settled.{Settlement, nothing_settled, settled_by}

-- ---- tests, whatever follows them: none fails, or the first that fails refuses
abbrev pub Passes : Verdict → List Test → Type 0
Passes accepts tests = (rest : List Test) (settled : Settlement) → settled_by (tests ++ rest) settled ≡ settled_by rest settled
Passes (refuses notice) tests = (rest : List Test) (settled : Settlement) → settled_by (tests ++ rest) settled ≡ nothing_settled notice

-- ---- what the books hold
-- A plant's amount at a segment, each by its index.
abbrev pub cell : List (List ℕ) → (p s : ℕ) → ℕ
cell table p s = get_or (get_or table p []) s 0

-- What a plant, by its index, brings to the segment with a number: its row, and in front of it, for 0, what is stored for it (rules 5.2 and 5.6).
abbrev pub brought : Books → (p n : ℕ) → ℕ
brought books p n = get_or (get_or books.stored p 0 ∷ get_or books.amounts p []) n 0

-- What the plants bring to the segment at an index (rule 5.2).
abbrev pub column : Books → (s : ℕ) → List ℕ
column books s = map (λ (row : List ℕ). get_or row s 0) (take books.plants books.amounts)

-- A number is that of a segment with an index from one on, or 0, which is behind a store.
abbrev pub Ahead : (from n : ℕ) → Type 0
Ahead from n = (n ≡ 0) ⊎ (from < n)

-- The books hold where the plants stand: the amounts and the sets of the segments from an index on, and what is stored (rules 5.2, 5.6 and 5.7).
abbrev pub AmountsHold : List Standing → ℕ → Books → Type 0
AmountsHold standings from books = (p n : ℕ) → p < length standings → Ahead from n → brought books p n ≡ brings n (get_or standings p nowhere)

abbrev pub SetsHold : List Standing → ℕ → List ℕ → Type 0
SetsHold standings from sets = (s : ℕ) → from ≤ s → s < most_segments → get_or sets s 0 ≡ set_of (suc s) 0 standings

-- The books of so many plants, in which nothing is written yet.
pub record Blank (plants : ℕ) (books : Books) : Type 0 where
  pub plants_are : books.plants ≡ plants
  pub amounts : (p n : ℕ) → brought books p n ≡ 0
  pub members : (s : ℕ) → get_or books.sets s 0 ≡ 0

-- The books when all plants are at their start (rules 5.2 and 5.7).
pub record Started (plants : List Plant) (books : Books) : Type 0 where
  pub plants_are : books.plants ≡ length plants
  pub amounts : AmountsHold (map at_first plants) 0 books
  pub members : SetsHold (map at_first plants) 0 books.sets

-- ---- what is written into them
-- All that is no amount is the same.
pub record Besides (books books' : Books) : Type 0 where
  pub plants : books'.plants ≡ books.plants
  pub sets : books'.sets ≡ books.sets
  pub inflows : books'.inflows ≡ books.inflows

-- A plant brings another amount to the segment with a number.
pub record Brought (p number amount : ℕ) (books books' : Books) : Type 0 where
  pub besides : Besides books books'
  pub amounts : (q n : ℕ) → brought books' q n ≡ cond (eqb q p && eqb n number) amount (brought books q n)

-- The plants of a set bring their credits to it (rules 5.5 and 5.6).
pub record Sent (set : ℕ) (credited : List ℕ) (number : ℕ) (books books' : Books) : Type 0 where
  pub besides : Besides books books'
  pub amounts :
      (p n : ℕ) → p < books.plants → brought books' p n ≡ cond (has_bit set p && eqb n number) (get_or credited p 0) (brought books p n)

-- ---- a segment's turn
-- The account of the segment whose turn it is, as far as its tests need it (rule 8.6).
abbrev pub figures : Due → (inflow : ℕ) → Account
figures due inflow =
    record { own = suc due.index; entering = []; inflow = inflow; outflow = due.segment.outflow; emission = due.emission; plants = 0 }

-- What the tests of the segment give, if so much flows in: all pass, so that no figure is too large; or one refuses the period (rule 8.6).
abbrev pub Tested : Due → (inflow : ℕ) → Answer → Type 0
Tested due inflow (Ok done) =
    Passes accepts (segment_tests due.bytes (figures due inflow ∷ [])) × (inflow ≤ largest) × (due.segment.outflow ≤ inflow)
Tested due inflow (Err refusal) = Passes (refusing refusal) (segment_tests due.bytes (figures due inflow ∷ []))

module _ (due : Due) (books : Books) where
  -- Its whole account, by the books (rules 5.3 and 5.7).
  abbrev pub account_by : Account
  account_by = record {
    own = suc due.index;
    entering = column books due.index;
    inflow = sum (column books due.index);
    outflow = due.segment.outflow;
    emission = due.emission;
    plants = get_or books.sets due.index 0;
  }

  -- The books after the plants of its set went on with their credits (rules 5.4 to 5.7).
  pub record Moved (books' : Books) : Type 0 where
    pub plants : books'.plants ≡ books.plants
    pub amounts :
        (p n : ℕ) → p < books.plants →
        brought books' p n
        ≡ cond (has_bit account_by.plants p && eqb n due.segment.next) (get_or (credits due.segment.outflow account_by.entering) p 0) (brought books p n)
    pub members :
        (s : ℕ) → s < most_segments →
        get_or books'.sets s 0 ≡ cond (eqb (suc s) due.segment.next) (bit_or (get_or books.sets s 0) account_by.plants) (get_or books.sets s 0)
    pub inflows : books'.inflows ≡ set books.inflows due.index account_by.inflow

  -- What a turn gives: all tests pass, and the plants go on; or one refuses the period (rule 8.6).
  abbrev pub Worked : Answer → (books' : Books) → Type 0
  Worked (Ok done) books' = Passes accepts (segment_tests due.bytes (account_by ∷ [])) × Moved books'
  Worked (Err refusal) books' = Passes (refusing refusal) (segment_tests due.bytes (account_by ∷ []))
