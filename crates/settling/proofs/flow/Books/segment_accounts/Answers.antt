-- `settling::flow::Books::segment_accounts` meets its contract: its loop fills the accounts, segment by segment. Assumes nothing.
use Rattle.std.proofs.Common.{refl, arith}
use lib.Seq.{get_or-take}
use Rattle.records.specs.Segments.{most_segments, no_segment}
use Rattle.gathering.proofs.Listing.{filling_start, filling_on}
use Rattle.settling.specs.Settled.{no_segment_account}
use Rattle.settling.specs.Inside.{segment_account_by}
use Rattle.settling.proofs.flow.Books.segment_accounts.Goals as goal

pub loop-s-init : goal.loop-s-init
loop-s-init c = filling_start no_segment_account most_segments (segment_account_by c.args.gathered.now c.args.self.now)

pub loop-s-preserved : goal.loop-s-preserved
loop-s-preserved c =
    let l = c.loop-s in
    let gathered = c.args.gathered.now in
    let segment = get_or-take gathered.counts.segments gathered.segments l.s no_segment (omega arith) in
    filling_on no_segment_account most_segments (segment_account_by gathered c.args.self.now) l.accounts l.s _ l.invariant (omega arith) (rw segment refl)
