-- A period file by its parts: what it is read as, by what its header, its plants, its segments, its lines and its end give.
use Prim.Native.Nat.{ℕ, ◌^◌, ◌<◌}
use mathlib.Core.Path.{◌≡◌, sym, ap, ◌∙◌}
use mathlib.Core.List.{List}
use lib.ListN.{length}
use Rattle.std.proofs.Common.{Err}
use Rattle.fields.specs.declared.answer.Refusal.{Refusal}
use Rattle.fields.specs.declared.spot.Spot.{Spot}
use Rattle.fields.specs.Answers.{Answer, accepted, Notice, refusing, said}
use Rattle.fields.specs.Readers.{Reader, return, ◌>>=◌, Read, refused}
use Rattle.fields.specs.Files.{ended, read_verdict}
use Rattle.fields.specs.Spots.{first_spot, end_at, taking_at}
use Rattle.fields.specs.Reaching.{Reach, whole, stopped, reads_by, reads_from, read_to, refused_by, as_read}
use Rattle.fields.proofs.EndOfFile.{bytes_after, file_ends, end_verdict}
use Rattle.fields.proofs.Reaching.{after_whole, after_stopped, file_reads}
use Rattle.records.specs.declared.counts.Counts.{Counts}
use Rattle.records.specs.declared.line.Line.{Line}
use Rattle.records.specs.declared.plant.Plant.{Plant}
use Rattle.records.specs.declared.segment.Segment.{Segment}
use Rattle.records.specs.Headers.{header}
use Rattle.records.specs.Periods.{Period, period_of, plants_of, segments_of, lines_of, records, period, period_file, period_verdict}

-- what is said of a file that is refused
pub refusal_says : (file : List ℕ) (refusal : Refusal) → period_file file ≡ refused_by refusal → refusing refusal ≡ period_verdict file
refusal_says file refusal e = sym (ap (λ (outcome : Read Period). read_verdict outcome) e)

-- what follows the plants, the segments and the lines
module _ (counts : Counts) where
  abbrev from_lines : List Plant → List Segment → List Line → Reader Period
  from_lines plants segments lines = return (period_of plants segments lines)

  abbrev from_segments : List Plant → List Segment → Reader Period
  from_segments plants segments = lines_of counts >>= from_lines plants segments

  abbrev from_plants : List Plant → Reader Period
  from_plants plants = segments_of counts >>= from_segments plants

module _ (file : List ℕ) (long : length file < 2 ^ 64) where
  -- what a reading of all its parts gives is what the file is read as
  abbrev from : Reader Period → Spot → Type 0
  from reader at = reads_from period file first_spot ≡ reads_from reader file at

  by_parts : (outcome : Reach Period) → reads_from period file first_spot ≡ outcome → period_file file ≡ ended file (as_read outcome)
  unfolding period_file
  by_parts outcome e = file_reads file long period ∙ ap (λ (came : Reach Period). ended file (as_read came)) e

  -- the header is refused, and so is the file
  pub header_stopped : (notice : Notice) → reads_from header file first_spot ≡ stopped notice → period_file file ≡ refused notice
  unfolding period
  header_stopped notice e = by_parts (stopped notice) (after_stopped header records (taking_at file) first_spot notice e)

  -- the header is read
  module _ (counts : Counts) (first : Spot) (counts_read : reads_from header file first_spot ≡ whole counts first) where
    past_header : from (records counts) first
    unfolding period
    past_header = after_whole header records (taking_at file) first_spot counts first counts_read

    -- a plant is refused
    pub plants_stopped : (notice : Notice) → reads_from (plants_of counts) file first ≡ stopped notice → period_file file ≡ refused notice
    unfolding records
    plants_stopped notice e =
        by_parts (stopped notice) (past_header ∙ after_stopped (plants_of counts) (from_plants counts) (taking_at file) first notice e)

    -- the plants are read
    module _ (plants : List Plant) (second : Spot) (plants_read : reads_from (plants_of counts) file first ≡ whole plants second) where
      past_plants : from (from_plants counts plants) second
      unfolding records
      past_plants = past_header ∙ after_whole (plants_of counts) (from_plants counts) (taking_at file) first plants second plants_read

      -- a segment is refused
      pub segments_stopped : (notice : Notice) → reads_from (segments_of counts) file second ≡ stopped notice → period_file file ≡ refused notice
      segments_stopped notice e =
          by_parts (stopped notice) (past_plants ∙ after_stopped (segments_of counts) (from_segments counts plants) (taking_at file) second notice e)

      -- the segments are read
      module _ (segments : List Segment) (third : Spot) (segments_read : reads_from (segments_of counts) file second ≡ whole segments third) where
        past_segments : from (from_segments counts plants segments) third
        past_segments = past_plants ∙ after_whole (segments_of counts) (from_segments counts plants) (taking_at file) second segments third segments_read

        -- a line is refused
        pub lines_stopped : (notice : Notice) → reads_from (lines_of counts) file third ≡ stopped notice → period_file file ≡ refused notice
        lines_stopped notice e =
            by_parts (stopped notice) (past_segments ∙ after_stopped (lines_of counts) (from_lines counts plants segments) (taking_at file) third notice e)

        -- the lines are read: the end of the file is next
        module _ (lines : List Line) (last : Spot) (lines_read : reads_from (lines_of counts) file third ≡ whole lines last) where
          pub lines_whole : period_file file ≡ ended file (read_to (period_of plants segments lines) last)
          unfolding reads_by
          lines_whole =
              by_parts (whole (period_of plants segments lines) last)
              (past_segments ∙ after_whole (lines_of counts) (from_lines counts plants segments) (taking_at file) third lines last lines_read)

          -- what is said of the file is what is said of its end
          pub end_says : end_at file last ≡ period_verdict file
          end_says = sym (ap (λ (outcome : Read Period). read_verdict outcome) lines_whole ∙ end_verdict file last (period_of plants segments lines))

          module _ (answer : Answer) (is : said answer ≡ end_at file last) where
            -- bytes follow the last number
            pub bytes_left : (refusal : Refusal) → answer ≡ Err refusal → period_file file ≡ refused_by refusal
            bytes_left refusal e = lines_whole ∙ bytes_after file last answer is (period_of plants segments lines) refusal e

            -- none follow it: the period is read
            pub all_read : answer ≡ accepted → period_file file ≡ read_to (period_of plants segments lines) last
            all_read e = lines_whole ∙ file_ends file last answer is (period_of plants segments lines) e
