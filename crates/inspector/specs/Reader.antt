-- The inspector's reader: a lent file, and the byte where its next number starts (rule 11.3).
use Rattle.std.specs.Prelude.{ℕ, ◌≡◌, List}
use Rattle.std.specs.Borrow.{Bor}
use Rattle.number.specs.declared.Report.{Report}
use Rattle.number.specs.Reading.{Found, read_at, offset_at}
use Rattle.number.specs.Finding.{finds, ReadAtPromise}
use Rattle.number.specs.Counting.{end_of}
use Rattle.inspector.specs.declared.Inspector.{Inspector}
use Rattle.inspector.specs.declared.step.Step.{Step}

-- What a step finds, its offset, and the byte where the reader stands after it.
pub record Stepped : Type 0 where
  pub found : Found
  pub offset : ℕ
  pub at : ℕ

-- A step at a byte: what number reading reports there, and the byte behind that number; at a fault or the end the same byte (rule 11.3).
abbrev pub step_at : List ℕ → ℕ → Stepped
step_at file at = record { found = read_at file at; offset = offset_at file at; at = end_of at (read_at file at) }

-- A reader at the start of a file (rule 11.3).
abbrev pub begun : Bor (List ℕ) → Inspector
begun file = record { file = file; at = 0 }

-- Where a reader stands.
abbrev pub stands_at : Inspector → ℕ
stands_at reader = reader.at

-- What the next step of a reader finds.
abbrev pub finds_next : Inspector → Found
finds_next reader = (step_at reader.file.now reader.at).found

-- The reader after that step: the same file, and the byte that the step gives (rule 11.3).
abbrev pub stepped : Inspector → Inspector
stepped reader = record { file = reader.file; at = (step_at reader.file.now reader.at).at }

-- The code's step, as the definitions have it.
abbrev pub stepped_by : Step → Stepped
stepped_by step = record { found = finds step.report.number; offset = step.report.offset; at = step.at }

-- ---- what the public functions promise
-- `Inspector::new`
abbrev pub InspectorNewPromise : (file : Bor (List ℕ)) → Inspector → Type 0
InspectorNewPromise file r = r ≡ begun file

-- `Inspector::at`
abbrev pub InspectorAtPromise : Inspector → ℕ → Type 0
InspectorAtPromise reader r = r ≡ stands_at reader

-- `Inspector::step`: what number reading reports, and the reader afterwards.
pub record StepPromise (reader : Inspector) (r : Report) (reader' : Inspector) : Type 0 where
  pub reported : ReadAtPromise reader.file.now reader.at r
  pub moved : reader' ≡ stepped reader

-- `step_at`
abbrev pub StepAtPromise : (file : List ℕ) (at : ℕ) → Step → Type 0
StepAtPromise file at r = stepped_by r ≡ step_at file at
