-- `settling::flow::Books::segment_accounts` meets its contract: its loop fills the accounts, segment by segment. Assumes nothing.
use Rattle.records.specs.Segments.{most_segments}
use Rattle.gathering.proofs.Listing.{Filling}
use Rattle.settling.specs.Settled.{no_segment_account}
use Rattle.settling.specs.Inside.{segment_account_by}
use Rattle.settling.proofs.flow.Books.segment_accounts.Given as goal

abbrev pub invariant-loop-s : goal.invariant-loop-s
invariant-loop-s l = Filling no_segment_account most_segments (segment_account_by l.gathered l.self) l.accounts l.s
