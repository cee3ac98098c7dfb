-- The worked period with its four rows, and fourteen changes of it, as one statement about the definitions (rule 13.11). And two lines of
-- one owner, which are rounded once (rule 4.3), of which one may be taken off (rule 4.4).
use Prim.Native.Nat.{ℕ}
use mathlib.Core.Path.{◌≡◌, refl}
use mathlib.Core.List.{List, [], ◌∷◌, ◌++◌, zip_with, flat_map}
use Rattle.number.specs.Groups.{gather, value, padded}
use Rattle.number.specs.Reading.{reading, read_at, formed}
use Rattle.number.specs.Counting.{start_of}
use Rattle.number.specs.Writing.{writing, written}
use Rattle.fields.specs.Answers.{notice}
use Rattle.fields.specs.Readers.{each, reads}
use Rattle.fields.specs.Tests.{tested_by, listed}
use Rattle.fields.specs.Lists.{sum}
use Rattle.records.specs.Classes.{plant_owner, classes, class_of}
use Rattle.records.specs.Lines.{line_of}
use Rattle.records.specs.Headers.{header}
use Rattle.records.specs.Periods.{plant, segment, line, records, period, period_file}
use Rattle.accounts.specs.Emissions.{chosen, grams_of, emission}
use Rattle.accounts.specs.Flow.{credits_from, passed, turns, arrived}
use Rattle.accounts.specs.Accounts.{set_of, account}
use Rattle.accounts.specs.Rows.{plant_rows, segment_rows}
use Rattle.accounts.specs.Order.{refusal, accepted, line_tests, emission_tests, segment_tests}
use Rattle.accounts.specs.Quantified.{accounts_of, rows, judged, quantified}
use Rattle.accounts.specs.Accepted.{held}

-- The numbers of the worked period; the changes are of the exports, the outflows, the second kind, and the first line's
-- quantity and factor.
abbrev pub numbers : (export₁ export₂ outflow₁ kind₂ outflow₂ quantity factor : ℕ) → List ℕ
numbers export₁ export₂ outflow₁ kind₂ outflow₂ quantity factor =
    1 ∷ 2 ∷ 2 ∷ 2
    ∷ export₁ ∷ 1 ∷ 1_000_000
    ∷ export₂ ∷ 1 ∷ 900_000
    ∷ 1 ∷ outflow₁ ∷ 2
    ∷ kind₂ ∷ outflow₂ ∷ 0
    ∷ 0 ∷ 1 ∷ 4 ∷ quantity ∷ factor
    ∷ 1 ∷ 1 ∷ 3 ∷ 101 ∷ 2650
    ∷ []

-- The file of some numbers, each in its shortest form.
abbrev pub file : List ℕ → List ℕ
file = flat_map written

-- The file of the worked period.
abbrev pub whole : List ℕ
whole = file (numbers 10000 5001 14900 6 14899 2000 350)

pub examples :
    -- the worked period, with tables just large enough
    (quantified whole 16 10
    ≡ accepted
    (10000 ∷ 9931 ∷ 69 ∷ 9931 ∷ 879 ∷ 9052 ∷ 9 ∷ 0
    ∷ 5001 ∷ 4968 ∷ 33 ∷ 4471 ∷ 90 ∷ 4381 ∷ 4 ∷ 0
    ∷ [])
    (15001 ∷ 14900 ∷ 101 ∷ 268 ∷ 3
    ∷ 14900 ∷ 14899 ∷ 1 ∷ 0 ∷ 3
    ∷ []))
    -- empty file
    × (quantified [] 16 10 ≡ refusal (notice 1 0 0))
    -- the byte 0x01 alone
    × (quantified (0x01 ∷ []) 16 10 ≡ refusal (notice 1 1 1))
    -- the bytes 0x80 0x00
    × (quantified (0x80 ∷ 0x00 ∷ []) 16 10 ≡ refusal (notice 2 0 0))
    -- the bytes 0x81 0xD0 0xAC 0xF3 0x0E
    × (quantified (0x81 ∷ 0xD0 ∷ 0xAC ∷ 0xF3 ∷ 0x0E ∷ []) 16 10 ≡ refusal (notice 3 0 0))
    -- the byte 0x02 alone
    × (quantified (0x02 ∷ []) 16 10 ≡ refusal (notice 4 0 0))
    -- the bytes 0x01 0x00
    × (quantified (0x01 ∷ 0x00 ∷ []) 16 10 ≡ refusal (notice 5 1 1))
    -- the worked period, second kind 5
    × (quantified (file (numbers 10000 5001 14900 5 14899 2000 350)) 16 10 ≡ refusal (notice 7 15 23))
    -- a byte behind the worked period, whichever it is
    × ((byte : ℕ) → quantified (whole ++ byte ∷ []) 16 10 ≡ refusal (notice 9 26 37))
    -- first line 4000000000 × 1000: plant 1 units 0, deficit 3999990248
    × (quantified (file (numbers 10000 5001 14900 6 14899 4_000_000_000 1000)) 16 10
    ≡ accepted
    (10000 ∷ 9931 ∷ 69 ∷ 9931 ∷ 4_000_000_179 ∷ 0 ∷ 0 ∷ 3_999_990_248
    ∷ 5001 ∷ 4968 ∷ 33 ∷ 4471 ∷ 90 ∷ 4381 ∷ 4 ∷ 0
    ∷ [])
    (15001 ∷ 14900 ∷ 101 ∷ 268 ∷ 3
    ∷ 14900 ∷ 14899 ∷ 1 ∷ 0 ∷ 3
    ∷ []))
    -- first line 4000000000 × 1001
    × (quantified (file (numbers 10000 5001 14900 6 14899 4_000_000_000 1001)) 16 10 ≡ refusal (notice 10 1 24))
    -- first outflow 15001
    × (quantified (file (numbers 10000 5001 15001 6 14899 2000 350)) 16 10
    ≡ accepted
    (10000 ∷ 9932 ∷ 68 ∷ 9932 ∷ 879 ∷ 9053 ∷ 9 ∷ 0
    ∷ 5001 ∷ 4967 ∷ 34 ∷ 4470 ∷ 90 ∷ 4380 ∷ 4 ∷ 0
    ∷ [])
    (15001 ∷ 15001 ∷ 0 ∷ 268 ∷ 3
    ∷ 15001 ∷ 14899 ∷ 102 ∷ 0 ∷ 3
    ∷ []))
    -- first outflow 15002
    × (quantified (file (numbers 10000 5001 15002 6 14899 2000 350)) 16 10 ≡ refusal (notice 12 1 37))
    -- nothing is exported and no meter shows anything, but there are lines
    × (quantified (file (numbers 0 0 0 6 0 2000 350)) 16 10 ≡ refusal (notice 13 1 33))
    -- a plant table that is one number short
    × (quantified whole 15 10 ≡ refusal (notice 14 16 37))
unfolding gather value padded reading formed writing written flat_map zip_with classes class_of read_at start_of each reads header plant segment line
    records period period_file sum chosen grams_of emission credits_from passed turns arrived set_of account plant_rows segment_rows tested_by listed line_tests emission_tests
    segment_tests accounts_of rows judged quantified held
examples = (
  refl,
  refl,
  refl,
  refl,
  refl,
  refl,
  refl,
  refl,
  λ byte. refl,
  refl,
  refl,
  refl,
  refl,
  refl,
  refl,
)

-- half a kg and half a kg more of one owner make one kg (rule 4.3)
pub two_lines_lem :
    let line = line_of plant_owner 1 3 500 1 in
    emission plant_owner 1 (line ∷ line ∷ []) ≡ 1
unfolding sum classes class_of chosen grams_of emission
two_lines_lem = refl

-- what is captured is taken off the fuel before the total is rounded, wherever its line stands: 1200 g or 2000 g less 1 kg are 1 kg (rule 4.4)
pub taken_off :
    let captured = line_of plant_owner 1 9 1 1000 in
    (emission plant_owner 1 (line_of plant_owner 1 3 1200 1 ∷ captured ∷ []) ≡ 1) × (emission plant_owner 1 (captured ∷ line_of plant_owner 1 3 2000 1 ∷ []) ≡ 1)
unfolding sum classes class_of chosen grams_of emission
taken_off = (refl, refl)
