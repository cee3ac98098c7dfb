-- `records::class::Class::of` meets its contract: no row before has the code, so the class is the first of those from here on that has it. Assumes nothing.
use Rattle.std.proofs.Common.{◌≡◌, ℕ, ◌+◌, ◌<◌, List, length, get_or, drop, arith, refl, sym, ◌∙◌, add-one, drop-cons, eq-eqb, ne_eqb}
use Rattle.records.specs.declared.class.Class.{Class}
use Rattle.records.specs.Classes.{classes, class_of, no_class, row_of}
use Rattle.records.proofs.class.Class.of.Goals as goal

module _ (table : List Class) (i code : ℕ) (inside : i < length table) where
  -- the next row has the code
  found : (get_or table i no_class).code ≡ code → row_of (drop i table) code ≡ get_or table i no_class
  found its = rw (drop-cons table i no_class inside, eq-eqb (get_or table i no_class).code code its) refl

  -- or a later one
  passed : ((get_or table i no_class).code ≡ code → ⊥) → row_of (drop i table) code ≡ row_of (drop (i + 1) table) code
  passed other = rw (add-one, drop-cons table i no_class inside, ne_eqb (get_or table i no_class).code code other) refl

pub loop-class-init : goal.loop-class-init
unfolding classes class_of
loop-class-init c = refl

pub returns-then-class-code : goal.returns-then-class-code
unfolding classes
returns-then-class-code c =
    let l = c.loop-class in
    sym (found classes l.class-index c.args.code (omega arith) c.if-class-code.true) ∙ l.invariant

pub loop-class-preserved : goal.loop-class-preserved
unfolding classes
loop-class-preserved c =
    let l = c.loop-class in
    sym (passed classes l.class-index c.args.code (omega arith) c.if-class-code.false) ∙ l.invariant
