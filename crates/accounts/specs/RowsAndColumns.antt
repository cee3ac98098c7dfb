-- The two tables by rows and columns: where each result stands.
use Rattle.std.specs.Prelude.{ℕ, zero, suc, ◌+◌, ◌*◌, ◌^◌, ◌<◌, List, take, drop, get_or}

-- The row at an index from 0, of a table with `numbers` entries in each row.
abbrev pub row_at : (numbers index : ℕ) → List ℕ → List ℕ
row_at numbers index table = take numbers (drop (numbers * index) table)

-- A number of that row, by its column from 0.
abbrev pub in_row : (numbers index column : ℕ) → List ℕ → ℕ
in_row numbers index column table = get_or (row_at numbers index table) column 0

-- A column of the first `count` rows, added up (rule 13.6).
unfoldable pub column_sum : (numbers column count : ℕ) → List ℕ → ℕ
column_sum numbers column zero table = 0
column_sum numbers column (suc count) table = column_sum numbers column count table + in_row numbers count column table

-- The bits of an entry (rule 10.4).
abbrev pub entry_bits : ℕ
entry_bits = 64

-- Each number of a table fits its entry (rules 9.3 and 10.4).
abbrev pub Entries : List ℕ → Type 0
Entries table = (i : ℕ) → get_or table i 0 < 2 ^ entry_bits

-- The columns of the plant table that the theorems name (rule 7.1).
abbrev pub exported_column : ℕ
exported_column = 0

abbrev pub stored_column : ℕ
stored_column = 1

abbrev pub associated_column : ℕ
associated_column = 4

abbrev pub units_column : ℕ
units_column = 6

-- Those of the segment table (rule 7.2).
abbrev pub inflow_column : ℕ
inflow_column = 0

abbrev pub outflow_column : ℕ
outflow_column = 1

abbrev pub loss_column : ℕ
loss_column = 2

abbrev pub emission_column : ℕ
emission_column = 3

abbrev pub set_column : ℕ
set_column = 4
