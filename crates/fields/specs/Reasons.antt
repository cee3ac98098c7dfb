-- The reasons to refuse, by their numbers.
use Rattle.std.specs.Prelude.{◌≡◌, ℕ}
use Rattle.number.specs.declared.Fault.{Fault}
use Rattle.number.specs.declared.Fault.TheVariants as faults
use Rattle.number.specs.Reading.{ends, not_shortest, too_large}
use Rattle.fields.specs.declared.reason.Reason.{Reason}
use Rattle.fields.specs.declared.reason.Reason.TheVariants.{Ends, NotShortest, TooLarge, WrongEdition, WrongCount, WrongPlant, WrongSegment, WrongLine, BytesAfter, TooManyGrams, InflowTooLarge, OutflowOverInflow, EmissionWithoutInflow, PlantTableShort, SegmentTableShort, CapturedOverFuel}

-- The number of each reason, by the table of chapter 8 (rule 8.1). The first three are those of number reading.
abbrev pub number_of : Reason → ℕ
number_of Ends = ends
number_of NotShortest = not_shortest
number_of TooLarge = too_large
number_of WrongEdition = 4
number_of WrongCount = 5
number_of WrongPlant = 6
number_of WrongSegment = 7
number_of WrongLine = 8
number_of BytesAfter = 9
number_of TooManyGrams = 10
number_of InflowTooLarge = 11
number_of OutflowOverInflow = 12
number_of EmissionWithoutInflow = 13
number_of PlantTableShort = 14
number_of SegmentTableShort = 15
number_of CapturedOverFuel = 16

-- What `Reason::number` promises: that number (rule 8.1).
abbrev pub ReasonNumberPromise : Reason → ℕ → Type 0
ReasonNumberPromise reason r = r ≡ number_of reason

-- The reason to refuse a file in which a number has a fault.
abbrev pub fault_reason : Fault → Reason
fault_reason faults.Ends = Ends
fault_reason faults.NotShortest = NotShortest
fault_reason faults.TooLarge = TooLarge
