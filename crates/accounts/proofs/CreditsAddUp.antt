-- At every segment of a file that the call accepts, the plants' credits add up to the metered outflow: rounding loses no kg and adds none. Without
-- inflow the outflow is 0 and so is every credit. The segment's row says the same: its first number is what all plants bring, its
-- second what all are credited.
use Prim.Native.Nat.{ℕ, ◌<◌}
use mathlib.Core.Path.{◌≡◌, sym, ap, ◌∙◌}
use mathlib.Core.List.{List}
use lib.ListN.{length, get_or}
use Rattle.fields.specs.Lists.{sum}
use Rattle.records.specs.declared.segment.Segment.{Segment}
use Rattle.records.specs.Segments.{no_segment}
use Rattle.accounts.specs.Accounts.{account}
use Rattle.accounts.specs.Order.{segment_row_numbers}
use Rattle.accounts.specs.Accepted.{Accepted, held}
use Rattle.accounts.specs.RowsAndColumns.{in_row, inflow_column, outflow_column}
use Rattle.accounts.specs.Shares.{turn_at, entering, leaving}
use Rattle.accounts.proofs.Credits.{credits_sum}
use Rattle.accounts.proofs.Accepting.{accepted_means}
use Rattle.accounts.proofs.RowsAt.{segment_row_at_lem}
use Rattle.accounts.proofs.TurnsOfPeriod.{turn_segment, outflow_most}

module _ {file plants segments : List ℕ} (given : Accepted file plants segments) (s : ℕ) (segment : s < length (held file).segments) where
  -- the credits of a turn add up to the outflow that it shares out
  shared_out : sum (leaving (turn_at (held file) s)) ≡ (turn_at (held file) s).segment.outflow
  shared_out =
      credits_sum (turn_at (held file) s).segment.outflow (entering (turn_at (held file) s)) (outflow_most (accepted_means given) s segment)

  -- which is the one that the file says was metered
  pub credits_add_up : sum (leaving (turn_at (held file) s)) ≡ (get_or (held file).segments s no_segment).outflow
  credits_add_up = shared_out ∙ ap (λ (one : Segment). one.outflow) (turn_segment (held file) s segment)

  -- ---- the same by the segment's row
  -- what all plants bring
  pub inflow_told : sum (entering (turn_at (held file) s)) ≡ in_row segment_row_numbers s inflow_column segments
  unfolding account
  inflow_told = sym (ap (λ (row : List ℕ). get_or row inflow_column 0) (segment_row_at_lem (accepted_means given) s segment))

  -- and what all are credited
  pub outflow_told : sum (leaving (turn_at (held file) s)) ≡ in_row segment_row_numbers s outflow_column segments
  unfolding account
  outflow_told = shared_out ∙ sym (ap (λ (row : List ℕ). get_or row outflow_column 0) (segment_row_at_lem (accepted_means given) s segment))
