-- Laws of the definitions: sums and credits, charges, the sets of plants, plants passed on from turn to turn, an owner's lines.
pub mod Credits
pub mod Charges
mod Bits
pub mod Sets
pub mod Passing
pub mod AsExported
pub mod OwnersLines
mod SameLines
-- Tests in their order; what acceptance means; the rows by their index, and the turns of a period.
pub mod Testing
pub mod Accepting
pub mod RowsAt
pub mod TurnsOfPeriod
-- What reading refuses is refused; a table with room for the most rows is answered as a longer one, and an accepted file's rows have room.
pub mod Refused
pub mod Room
-- Bytes past the longest file cannot change the answer.
pub mod Longer
-- A plant is credited its proportional part of the outflow; credits add up to it; exports are what is stored and what was lost.
pub mod ProportionalPart
pub mod CreditsAddUp
pub mod Balance
-- Where routes meet, and a plant that is alone on its route.
pub mod Meeting
mod AlongRoutes
pub mod AloneOnItsRoute
-- No plant gains from a larger line of emissions, nor loses from one of CO2 captured, which is taken off fuel alone; another plant's fraction and
-- lines do not matter; what the charges add up to.
pub mod LargerLine
pub mod CapturedFuel
pub mod OthersFractionAndLines
pub mod ChargesAddUp
pub mod ChargesCounted
-- No owner's grams pass the limit, and the numbers of both tables are 64-bit numbers.
pub mod GramsWithin
pub mod Fits
-- A file is refused exactly for the first reason that holds, and accepted exactly if none does.
pub mod Places
pub mod Order
-- Every refusal has the offset that is due to its number and place.
pub mod Offsets
-- No refusal has the number 0.
pub mod Numbered
-- How an answer is computed; the worked period and its changes.
pub mod Computed
pub mod Examples
