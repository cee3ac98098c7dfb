-- 9: the bytes before its offset are a whole period, with as many numbers as its place says (rule 8.9).
use Prim.Native.Nat.{ℕ}
use mathlib.Core.Path.{◌≡◌}
use mathlib.Core.List.{List}
use native.Mathlib.Omega.{arith}
use lib.ListN.{take}
use Rattle.fields.specs.declared.reason.Reason.TheVariants.{BytesAfter}
use Rattle.fields.specs.Reasons.{number_of}
use Rattle.fields.specs.Answers.{Notice}
use Rattle.fields.specs.Readers.{read, refused}
use Rattle.fields.proofs.Offsets.{extra_bytes}
use Rattle.records.specs.Periods.{Period, period_file}
use Rattle.records.proofs.PeriodAlong.{period_along}

pub whole_period_before :
    (file : List ℕ) (told : Notice) → period_file file ≡ refused told → told.number ≡ number_of BytesAfter →
    (what : Period) × (period_file (take told.offset file) ≡ read what told.place told.offset)
unfolding period_file
whole_period_before file told e nine = extra_bytes (period_along file) (λ _ _ _ ((from, to), room) is. omega (arith, to, is)) told e nine
