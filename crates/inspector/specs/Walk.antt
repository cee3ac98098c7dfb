-- A walk: what a reader answers, step by step (rule 11.4).
use Rattle.std.specs.Prelude.{ℕ, ◌≡◌, List, [], ◌∷◌}
use Rattle.std.specs.Borrow.{Bor}
use Rattle.number.specs.Reading.{number, fault as one_fault}
use Rattle.inspector.specs.declared.Inspector.{Inspector}
use Rattle.inspector.specs.Reader.{begun, finds_next, stepped}

-- A walk from one reader to another: each step answers a number, and these are the values in order (rule 11.4).
pub data Walks : Inspector → List ℕ → Inspector → Type 0 where
  there : {reader : Inspector} → Walks reader [] reader
  step :
      {reader last : Inspector} {value next : ℕ} {values : List ℕ} → finds_next reader ≡ number value next →
      Walks (stepped reader) values last → Walks reader (value ∷ values) last

-- A walk from the start of a file that gives these values; it may go on behind them.
pub record Walked (file : Bor (List ℕ)) (values : List ℕ) : Type 0 where
  pub last : Inspector
  pub walks : Walks (begun file) values last

-- A walk from the start of a file that gives these values and stops with a fault at a byte, where the reader stays (rule 11.4).
pub record Stops (file : Bor (List ℕ)) (values : List ℕ) (refusal at : ℕ) : Type 0 where
  pub last : Inspector
  pub walks : Walks (begun file) values last
  pub stands : last ≡ record { file = file; at = at }
  pub fault : finds_next last ≡ one_fault refusal
  pub stays : stepped last ≡ last
