-- The promises of the two calls that write rows into a table of bytes, by the accounts that the rows are made of.
use Rattle.std.specs.Prelude.{ℕ, ◌*◌, ◌/◌, ◌≡◌, List, length, take}
use mathlib.Core.List.{flat_map}
use Rattle.accounts.specs.Order.{plant_row_numbers, segment_row_numbers}
use Rattle.settling.specs.declared.account.PlantAccount.{PlantAccount}
use Rattle.settling.specs.declared.account.SegmentAccount.{SegmentAccount}
use Rattle.period.specs.Written.{plant_row_of, segment_row_of}
use Rattle.plain.specs.Bytes.{number_bytes, bytes_overwritten}

-- How many rows of `numbers` numbers have room in a table (rule 10.5).
abbrev pub rows_there : (numbers : ℕ) → List ℕ → ℕ
rows_there numbers table = length table / (number_bytes * numbers)

-- The promises of `write_plants` and `write_segments`: the rows of the accounts, as far as there is room, are at the start of the table afterwards
-- (rules 7.1, 7.2 and 10.5).
abbrev pub WritePlantsPromise : (accounts : List PlantAccount) (table table' : List ℕ) → Type 0
WritePlantsPromise accounts table table' =
    table' ≡ bytes_overwritten (flat_map plant_row_of (take (rows_there plant_row_numbers table) accounts)) table

abbrev pub WriteSegmentsPromise : (accounts : List SegmentAccount) (table table' : List ℕ) → Type 0
WriteSegmentsPromise accounts table table' =
    table' ≡ bytes_overwritten (flat_map segment_row_of (take (rows_there segment_row_numbers table) accounts)) table
