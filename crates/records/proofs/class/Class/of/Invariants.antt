-- `records::class::Class::of` meets its contract: no row before has the code, so the class is the first of those from here on that has it. Assumes nothing.
use Rattle.std.proofs.Common.{◌≡◌, drop}
use Rattle.records.specs.Classes.{row_of, class_of}
use Rattle.records.proofs.class.Class.of.Given as goal

abbrev pub invariant-loop-class : goal.invariant-loop-class
invariant-loop-class l = row_of (drop l.class-index l.class-items) l.code ≡ class_of l.code
