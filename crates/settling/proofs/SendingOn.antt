-- A segment's turn in the books: the plants of its set go on to the next segment, or into the store, with their credits.
use Rattle.std.proofs.Common.{◌≡◌, ℕ, suc, ◌≤◌, ◌<◌, cond, ◌&&◌, eqb, List, length, take, get_or, bit_or, refl, sym, ap, ◌∙◌}
use lib.Dec.{eqb-suc-zero}
use lib.Seq.{get_or-take}
use Rattle.accounts.specs.Flow.{credits}
use Rattle.accounts.specs.Accounts.{has_bit}
use Rattle.settling.specs.declared.flow.Books.{Books}
use Rattle.settling.specs.declared.flow.Due.{Due}
use Rattle.settling.specs.Books.{brought, column, account_by}
use Rattle.settling.proofs.Joining.{with_members, members_join}

module _ (due : Due) (books : Books) where
  -- the credits of the turn stand at the front of an array: who is sent on has the credit
  pub credit_same :
      (array : List ℕ) → take books.plants array ≡ credits due.segment.outflow (column books due.index) → (p n : ℕ) → p < books.plants →
      let sends = has_bit (account_by due books).plants p && eqb n due.segment.next in
      cond sends (get_or array p 0) (brought books p n)
      ≡ cond sends (get_or (credits due.segment.outflow (column books due.index)) p 0) (brought books p n)
  credit_same array front p n here =
      ap (λ (credit : ℕ). cond (has_bit (account_by due books).plants p && eqb n due.segment.next) credit (brought books p n))
      (sym (get_or-take books.plants array p 0 here) ∙ ap (λ (l : List ℕ). get_or l p 0) front)

  -- whose set they join: no segment's behind a store
  pub members_stay :
      due.segment.next ≡ 0 → (s : ℕ) →
      get_or books.sets s 0
      ≡ cond (eqb (suc s) due.segment.next) (bit_or (get_or books.sets s 0) (account_by due books).plants) (get_or books.sets s 0)
  members_stay none s = rw (none, eqb-suc-zero s) refl

  pub members_go :
      0 < due.segment.next → due.segment.next ≤ length books.sets → (sets : List ℕ) → sets ≡ books.sets → (s : ℕ) →
      get_or (with_members sets due.segment.next (account_by due books).plants) s 0
      ≡ cond (eqb (suc s) due.segment.next) (bit_or (get_or books.sets s 0) (account_by due books).plants) (get_or books.sets s 0)
  members_go some fits sets same s = rw same (members_join books.sets due.segment.next (account_by due books).plants some fits s)
