-- The accounts by the books are those of the definitions, once all segments are worked.
use Rattle.std.proofs.Common.{◌≡◌, ℕ, zero, suc, ◌+◌, ◌*◌, ◌≤◌, ◌<◌, inl, List, [], ◌∷◌, map, length, drop, get_or, refl, sym, ap, ◌∙◌, arith}
use lib.ListN.{drop_of_length-le}
use lib.Seq.{drop-cons, get_or-take}
use borrow.Author.Tests.{eq-eqb}
use Rattle.fields.specs.Lists.{sum}
use Rattle.fields.specs.Tests.{listed}
use Rattle.fields.proofs.Sums.{part_of_sum}
use Rattle.records.specs.declared.line.Line.{Line}
use Rattle.records.specs.Plants.{no_plant}
use Rattle.records.specs.Segments.{no_segment}
use Rattle.records.specs.Periods.{Period}
use Rattle.accounts.specs.Sums.{rounded_up}
use Rattle.accounts.specs.Flow.{brings, amounts, Turn, nowhere}
use Rattle.accounts.specs.Accounts.{Account, account, charge_to, charges}
use Rattle.accounts.specs.Quantified.{turns_of, accounts_of}
use Rattle.accounts.specs.Shares.{no_turn}
use Rattle.accounts.proofs.Passing.{get_d_map}
use Rattle.accounts.proofs.Accepting.{accounts_length, account_at_lem}
use Rattle.accounts.proofs.TurnsOfPeriod.{after_all, turn_is, past_store}
use Rattle.gathering.specs.declared.gathering.Gathered.{Gathered}
use Rattle.gathering.proofs.Listing.{listed_same, listed_all, listed_map}
use Rattle.settling.specs.declared.flow.Books.{Books}
use Rattle.settling.specs.Settled.{plant_account_at, segment_account, plant_accounts, segment_accounts}
use Rattle.settling.specs.Books.{cell}
use Rattle.settling.specs.Inside.{charges_by, Chargeable, segments_in, period_in, EmissionsOf, Given, plant_account_by, segment_account_by}
use Rattle.settling.proofs.BooksAtTurn.{after, at, AtTurn, placed}

-- ---- all segments are worked
module _ {gathered : Gathered} (given : Given gathered) {books : Books} (worked : AtTurn gathered gathered.counts.segments books) where
  -- ---- what a plant brought to each segment, and what is stored for it
  module _ (p : ℕ) (here : p < gathered.counts.plants) where
    -- what it brought to a segment stands in the table
    brought_is : (s : ℕ) → s < gathered.counts.segments → get_or (amounts (suc s) (after gathered s)) p 0 ≡ cell books.amounts p s
    brought_is s below = get_d_map (brings (suc s)) (after gathered s) p nowhere 0 (placed given s p here) ∙ sym ((worked.past s below).amounts p here)

    -- it is no more than the inflow
    pub chargeable : Chargeable books p gathered.counts.segments
    chargeable s below = rw ((worked.past s below).inflow, ← brought_is s below) (part_of_sum (amounts (suc s) (after gathered s)) p)

    -- it is past its store, which has what it brought there
    stored_is : get_or books.stored p 0 ≡ (at gathered gathered.counts.segments p).amount
    stored_is =
        worked.amounts p 0 (placed given gathered.counts.segments p here) (inl refl)
        ∙ rw (eq-eqb (at gathered gathered.counts.segments p).before 0 past) refl
      where
        past : (at gathered gathered.counts.segments p).before ≡ 0
        past =
            ap (λ (s : ℕ). (at gathered s p).before) (sym given.segments_counted)
            ∙ rw (after_all (period_in gathered []))
            (past_store (period_in gathered []) gathered.counts (sym given.segments_counted) given.each_plant given.each_segment p (rw given.plants_counted here))

  -- ---- and the accounts, for lines by which the owners emit these kg
  module _ (lines : List Line) (is : EmissionsOf gathered lines) where
    -- the period of these lines, and its accounts, one for each segment
    abbrev period : Period
    period = period_in gathered lines

    abbrev accounts : List Account
    accounts = map (account lines) (turns_of period)

    counted : length accounts ≡ gathered.counts.segments
    unfolding accounts_of
    counted = accounts_length period ∙ given.segments_counted

    -- that of the next segment is the account of its turn
    abbrev turn : ℕ → Turn
    turn s = record { own = suc s; segment = get_or (segments_in gathered) s no_segment; standings = after gathered s }

    account_is : (s : ℕ) → s < gathered.counts.segments → get_or accounts s (account lines no_turn) ≡ account lines (turn s)
    unfolding accounts_of
    account_is s more =
        let below : s < length (segments_in gathered) = rw given.segments_counted more in
        account_at_lem period s (account lines no_turn) below ∙ ap (account lines) (turn_is period s below)

    next_account : (s : ℕ) → s < gathered.counts.segments → drop s accounts ≡ account lines (turn s) ∷ drop (suc s) accounts
    next_account s more =
        drop-cons accounts s (account lines no_turn) (rw counted more) ∙ ap (λ (a : Account). a ∷ drop (suc s) accounts) (account_is s more)

    -- behind the last there is none
    none_left : drop gathered.counts.segments accounts ≡ []
    none_left = drop_of_length-le accounts {i = gathered.counts.segments} (rw counted (omega arith))

    -- ---- the accounts of the segments
    segment_account_is : (s : ℕ) → s < gathered.counts.segments → segment_account_by gathered books s ≡ segment_account (account lines (turn s))
    unfolding account
    segment_account_is s here =
        let past = worked.past s here in
        rw (past.inflow, past.members, is.segments s here, get_or-take gathered.counts.segments gathered.segments s no_segment here) refl

    pub segments_are : listed (segment_account_by gathered books) 0 gathered.counts.segments ≡ segment_accounts period
    unfolding accounts_of
    segments_are =
        let none = account lines no_turn in
        listed_same (segment_account_by gathered books) (λ (s : ℕ). segment_account (get_or accounts s none)) gathered.counts.segments
        (λ s here. segment_account_is s here ∙ ap segment_account (sym (account_is s here)))
        ∙ sym (listed_map segment_account (λ (s : ℕ). get_or accounts s none) 0 gathered.counts.segments)
        ∙ ap (λ (n : ℕ). map segment_account (listed (λ (s : ℕ). get_or accounts s none) 0 n)) (sym counted)
        ∙ ap (map segment_account) (listed_all accounts none)

    -- ---- what is charged to a plant
    module _ (p : ℕ) (here : p < gathered.counts.plants) where
      -- by the segments up to a count of them
      abbrev charged_by : ℕ → ℕ
      charged_by = charges_by books p gathered.emissions.segments

      -- what one segment charges to it
      charge_is :
          (s : ℕ) → s < gathered.counts.segments →
          rounded_up (cell books.amounts p s * get_or gathered.emissions.segments s 0) (get_or books.inflows s 0) ≡ charge_to p (account lines (turn s))
      unfolding account
      charge_is s more = rw ((worked.past s more).inflow, is.segments s more, brought_is p here s more) refl

      -- what the segments so far charge to it, with what the others do, is all
      charged_so_far : (s : ℕ) → s ≤ gathered.counts.segments → charged_by s + sum (map (charge_to p) (drop s accounts)) ≡ charges p accounts
      unfolding charges_by sum
      charged_so_far zero fits = omega arith
      charged_so_far (suc s) fits =
          let left = ap (λ (left : List Account). sum (map (charge_to p) left)) (next_account s (omega arith)) in
          omega (arith, charged_so_far s (omega arith), left, charge_is s (omega arith))

      -- once all are counted these are its charges
      charged : charged_by gathered.counts.segments ≡ charges p accounts
      unfolding sum
      charged =
          let none : sum (map (charge_to p) (drop gathered.counts.segments accounts)) ≡ 0 = rw none_left refl in
          omega (arith, charged_so_far gathered.counts.segments (omega arith), none)

      -- ---- its account
      plant_account_is : plant_account_by gathered books p ≡ plant_account_at period p
      unfolding accounts_of
      plant_account_is =
          let arrived = ap (after gathered) (sym given.segments_counted) ∙ after_all period in
          rw (stored_is p here, is.plants p here, charged, arrived, get_or-take gathered.counts.plants gathered.plants p no_plant here) refl

    pub plants_are : listed (plant_account_by gathered books) 0 gathered.counts.plants ≡ plant_accounts period
    plants_are =
        listed_same (plant_account_by gathered books) (plant_account_at period) gathered.counts.plants plant_account_is
        ∙ ap (listed (plant_account_at period) 0) (sym given.plants_counted)
