-- The call refuses a file exactly for the first reason that holds, and then leaves both tables as they were; it accepts exactly
-- if none holds (rules 13.2 and 13.3). `specs/AllTests.antt` of `accounts` lists the reasons as tests, each at its place and offset, in order.
use Prim.Native.Nat.{ℕ}
use mathlib.Core.Path.{◌≡◌, refl, sym, ap, ◌∙◌}
use mathlib.Core.List.{List}
use Rattle.std.specs.Prelude.{Ok, Err}
use mathlib.Core.Logic.{◌↔◌}
use lib.ListN.{length}
use Rattle.fields.specs.Answers.{Notice, accepts, refuses}
use Rattle.fields.specs.Tests.{Test, FirstFails, NoneFails}
use Rattle.fields.proofs.Answers.{refuses_not_accepts}
use Rattle.accounts.specs.Order.{Ruling, refusal, accepted}
use Rattle.accounts.specs.Quantified.{rows}
use Rattle.accounts.specs.AllTests.{all_tests}
use Rattle.accounts.proofs.Order.{refused_exactly, accepted_is, accepted_exactly}
use Rattle.period.specs.Written.{Lent, Told, told, ruling_on, ruling_verdict, HandsBack, lent_after, QuantifyPromise}

-- ---- a verdict tells the ruling
-- a refusal
refusal_told : (ruling : Ruling) (notice : Notice) → ruling_verdict ruling ≡ refuses notice → ruling ≡ refusal notice
refusal_told (refusal other) notice e = cc
refusal_told (accepted plants segments) notice e = absurd (refuses_not_accepts (sym e))

-- an acceptance, with some rows
pub accepted_told :
    (ruling : Ruling) (Claim : Type 0) → ((plants segments : List ℕ) → ruling ≡ accepted plants segments → Claim) →
    ruling_verdict ruling ≡ accepts → Claim
accepted_told (refusal notice) Claim then e = absurd (refuses_not_accepts e)
accepted_told (accepted plants segments) Claim then e = then plants segments refl

-- what is handed back by a ruling says its verdict
pub handed_verdict : (r : Told) (ruling : Ruling) → HandsBack r ruling → told r ≡ ruling_verdict ruling
handed_verdict (Ok written) (accepted plants segments) handed = refl
handed_verdict (Ok written) (refusal notice) handed = absurd handed
handed_verdict (Err why) (accepted plants segments) handed = absurd handed
handed_verdict (Err why) (refusal notice) handed = ap (λ (n : Notice). refuses n) handed

-- ---- the call, lent two tables
module _ {file : List ℕ} {tables : Lent} {r : Told} {tables' : Lent} (promised : QuantifyPromise file tables r tables') where
  -- the ruling of the definitions, and all tests
  abbrev ruling : Ruling
  ruling = ruling_on file tables

  abbrev tests : List Test
  tests = all_tests file (length tables.plants) (length tables.segments)

  verdict : told r ≡ ruling_verdict ruling
  verdict = handed_verdict r ruling promised.hands_back

  -- refused with a notice: that is the first test that fails
  pub refuses_exactly : (notice : Notice) → (told r ≡ refuses notice) ↔ FirstFails tests notice
  refuses_exactly notice =
      let exactly = refused_exactly file (length tables.plants) (length tables.segments) notice in (
        λ tells. exactly.0 (refusal_told ruling notice (sym verdict ∙ tells)),
        λ first. verdict ∙ ap ruling_verdict (exactly.1 first),
      )

  -- accepted: none fails
  pub accepts_exactly : (told r ≡ accepts) ↔ NoneFails tests
  unfolding rows
  accepts_exactly =
      let plant_table = length tables.plants in
      let segment_table = length tables.segments in (
        λ tells. accepted_told ruling (NoneFails tests) (accepted_is file plant_table segment_table) (sym verdict ∙ tells),
        λ none. verdict ∙ ap ruling_verdict ((accepted_exactly file plant_table segment_table).1 none),
      )

  -- a refusal leaves both tables alone
  pub untouched : (notice : Notice) → told r ≡ refuses notice → tables' ≡ tables
  untouched notice tells =
      promised.leaves
      ∙ ap (λ (a : Ruling). lent_after a tables) (refusal_told ruling notice (sym verdict ∙ tells))
