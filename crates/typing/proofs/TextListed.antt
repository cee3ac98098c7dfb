-- A stray byte that is answered of a text: it is the first, and within the text.
use Prim.Native.Nat.{ℕ, ◌<◌}
use Rattle.std.proofs.Common.{Ok, Err}
use mathlib.Core.Path.{◌≡◌, refl}
use mathlib.Core.Bool.{Bool, true, false, cond, true≢false}
use mathlib.Core.List.{List}
use lib.Dec.{ltb}
use lib.ListN.{length}
use borrow.Author.Tests.{ltb-true}
use Rattle.typed.specs.declared.reading.Stray.{Stray}
use Rattle.typed.specs.Text.{numbers_in, first_stray}
use Rattle.typed.specs.Promises.{stray_in, answer_to}

module _ (text : List ℕ) where
  -- the test of a stray byte, as it was answered
  abbrev test : Bool
  test = ltb (first_stray text) (length text)

  pub record StrayThere (stray : Stray) : Type 0 where
    pub is_first : stray ≡ stray_in text
    pub tested : test ≡ true

  pub stray_there : (stray : Stray) → Err stray ≡ answer_to text → StrayThere stray
  stray_there stray e = by_test test refl e
    where
      by_test : (t : Bool) → test ≡ t → Err stray ≡ cond t (Err (stray_in text)) (Ok (length (numbers_in text))) → StrayThere stray
      by_test true is same = record { is_first = cc; tested = is }
      by_test false is same = absurd (true≢false (cc))

  pub stray_within : (stray : Stray) → Err stray ≡ answer_to text → stray.offset < length text
  stray_within stray e =
      let there = stray_there stray e in
      rw there.is_first (ltb-true (first_stray text) (length text) there.tested)
