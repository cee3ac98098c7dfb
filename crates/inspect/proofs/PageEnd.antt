-- How a page ends, by what the code found: where the walk stops, the number's fault, and what reading refuses.
use Prim.Native.Nat.{ℕ}
use mathlib.Core.Path.{◌≡◌, refl}
use mathlib.Core.Bool.{Bool}
use mathlib.Core.List.{List, ◌++◌}
use lib.Dec.{eqb}
use Rattle.std.specs.Prelude.{Result}
use lib.ListN.{length}
use Rattle.number.specs.Reading.{read_at}
use Rattle.number.specs.Finding.{finds, refusal_of}
use Rattle.fields.specs.Answers.{Answer, said}
use Rattle.fields.specs.Files.{read_verdict}
use Rattle.records.specs.Periods.{period_file}
use Rattle.number.specs.declared.Fault.{Fault}
use Rattle.number.specs.declared.Number.{Number}
use Rattle.inspector.specs.declared.field.Field.{Field}
use Rattle.inspect.specs.declared.ending.Stop.{Stop}
use Rattle.inspect.specs.Page.{marked, stop_of, stopped_at, closed_at, verdict_text, stop_line, page_end}

module _ (file : List ℕ) (cut : Bool) (place byte : ℕ) (field : Field) (found : Result Number Fault) (answer : Answer) where
  pub page_end_lem :
      {stop : Stop} {fault : ℕ} → finds found ≡ read_at file byte → said answer ≡ read_verdict (period_file file) →
      stop ≡ stop_of (finds found) cut (eqb byte (length file)) → fault ≡ refusal_of (finds found) →
      page_end file cut place byte field
      ≡ stopped_at stop file place byte field ++ closed_at stop (marked (said answer) byte) ++ verdict_text (said answer) ++ stop_line stop fault place byte
  unfolding page_end
  page_end_lem finding answered stopping faulty = rw (stopping, faulty, answered, finding) refl
