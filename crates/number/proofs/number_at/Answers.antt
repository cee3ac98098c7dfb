-- `number::number_at` meets its contract: what was gathered from the byte on decides the case. Assumes nothing.
use Prim.Native.Nat.{ℕ, ◌-◌}
use mathlib.Core.Path.{◌≡◌, sym, ap, ◌∙◌}
use mathlib.Core.List.{List}
use native.Mathlib.Omega.{arith}
use lib.ListN.{length, take, drop, length-drop}
use lib.Seq.{take_all}
use Rattle.std.specs.Prelude.{Err}
use Rattle.std.proofs.Common.{rules}
use Rattle.number.specs.declared.Fault.{Fault}
use Rattle.number.specs.declared.Fault.TheVariants.{Ends, NotShortest, TooLarge}
use Rattle.number.specs.Groups.{gather, most_groups}
use Rattle.number.specs.Groups.Gathering.{whole, cut, long}
use Rattle.number.specs.Reading.{read_at}
use Rattle.number.specs.Finding.{finds}
use Rattle.number.specs.Inside.{Gathered}
use Rattle.number.proofs.FrontGroups.{fronts, within}
use Rattle.number.proofs.Findings.{gathered_is}
use Rattle.number.proofs.number_at.Goals as goal

-- the bytes from there on, to the end of the file
all : (file : List ℕ) (at : ℕ) → take (length file - at) (drop at file) ≡ drop at file
all file at = take_all (length file - at) (drop at file) (omega (arith, length-drop at file))

-- a fault of those bytes is that of the byte
fault_at : (file : List ℕ) (at : ℕ) (f : Fault) → Gathered (take (length file - at) (drop at file)) (Err f) → finds (Err f) ≡ read_at file at
fault_at file at Ends e = sym (gathered_is file at cut (sym (ap (gather most_groups) (all file at)) ∙ e))
fault_at file at NotShortest never = absurd never
fault_at file at TooLarge e = sym (gathered_is file at long (sym (ap (gather most_groups) (all file at)) ∙ e))

pub form-requires : goal.form-requires
form-requires c =
    let front = fronts most_groups _ c.in_ok-gather.field-0 c.in_ok-gather.ensures in
    omega (arith, within front, rw (all c.args.file.now c.args.at) at (within front), length-drop c.args.at c.args.file.now, c.well_formed)

pub returns-in_err-gather : goal.returns-in_err-gather
returns-in_err-gather c =
    let e : finds (Err c.in_err-gather.field-0.0) ≡ read_at c.args.file.now c.args.at = fault_at _ _ c.in_err-gather.field-0.0 c.in_err-gather.ensures in
    let is : c.from_residual.result ≡ Err c.in_err-gather.field-0.0 = search rules in
    ap finds is ∙ e

pub returns : goal.returns
returns c =
    c.form.ensures ∙ sym (gathered_is _ _ (whole _) (sym (ap (gather most_groups) (all c.args.file.now c.args.at)) ∙ c.in_ok-gather.ensures))
