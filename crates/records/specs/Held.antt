-- What a file holds, by what reading it gives.
use Rattle.std.specs.Prelude.{[]}
use Rattle.fields.specs.Readers.{Read, read, refused}
use Rattle.records.specs.Periods.{Period}

-- The records that were read; a refused file has none.
abbrev pub records_of : Read Period → Period
records_of (read period place at) = period
records_of (refused notice) = record { plants = []; segments = []; lines = [] }
