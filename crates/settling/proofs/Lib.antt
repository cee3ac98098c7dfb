-- The tests of a segment, in their order.
mod Tests
-- The credits, one after another; the columns of the table of amounts, what is filled plant by plant, and who joins a set.
mod Crediting
mod Columns
mod Cells
mod Joining
-- All plants at their start, and what a turn does to one of them.
mod OnePlantsTurn
mod Starting
-- How the plants of a set are sent on.
mod SendingOn
-- The turns of the definitions beside the books.
mod BooksAtTurn
mod TurnWorked
mod AccountsByBooks
-- A period settled, and the whole call.
mod SettledPeriod
mod Emitted
mod Answering
-- How many accounts there are at most; no two outcomes meet the promise of the call.
pub mod HowMany
pub mod Outcome
