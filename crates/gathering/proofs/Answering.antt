-- The call, step by step: what the parts of the file give is the gathering of the definitions.
use Prim.Native.Nat.{ℕ, ◌^◌, ◌≤◌, ◌<◌, min}
use mathlib.Core.Path.{◌≡◌, refl, sym, ap, subst, ◌∙◌}
use mathlib.Core.List.{List}
use native.Mathlib.Decide.{dec_le}
use native.Mathlib.Omega.{arith}
use lib.ListN.{length}
use borrow.Author.Tests.{lt-ltb, le-ltb}
use Rattle.std.proofs.Common.{Ok, Err}
use Rattle.fields.specs.declared.answer.Refusal.{Refusal}
use Rattle.fields.specs.declared.spot.Spot.{Spot}
use Rattle.fields.specs.Answers.{Notice, notice_of, Verdict, accepts, refuses, refusing}
use Rattle.fields.specs.Readers.{each, refused}
use Rattle.fields.specs.Files.{ended}
use Rattle.fields.specs.Spots.{first_spot}
use Rattle.fields.specs.Reaching.{Reach, whole, stopped, reads_from, stopped_by, read_to}
use Rattle.fields.specs.Tests.{tested_by}
use Rattle.fields.proofs.EndOfFile.{more_left, none_left}
use Rattle.records.specs.declared.counts.Counts.{Counts}
use Rattle.records.specs.declared.line.Line.{Line}
use Rattle.records.specs.declared.plant.Plant.{Plant}
use Rattle.records.specs.declared.segment.Segment.{Segment}
use Rattle.records.specs.Headers.{header}
use Rattle.records.specs.Plants.{most_plants, no_plant}
use Rattle.records.specs.Segments.{most_segments, no_segment}
use Rattle.records.specs.Within.{CountsWithin, counts_of}
use Rattle.records.specs.Places.{line_start}
use Rattle.records.specs.Periods.{Period, period_of, plant, segment, plants_of, segments_of, lines_of, period_file}
use Rattle.records.proofs.Parts.{header_stopped, plants_stopped, segments_stopped, lines_stopped, lines_whole}
use Rattle.records.proofs.Starts.{first_line_starts}
use Rattle.records.proofs.RecordsWithin.{header_within, plants_within, segments_within, lines_within}
use Rattle.reading.specs.Found.{in_array}
use Rattle.accounts.specs.Order.{emission_tests}
use Rattle.gathering.specs.declared.emissions.Emissions.{Emissions}
use Rattle.gathering.specs.Gathered.{gathering_tests, Contents, nothing_gathered, gathered_of, gathered_after, gathering, OwnerEmissions, GatherPromise}
use Rattle.gathering.specs.Inside.{lines_ruling, AllEmitted}
use Rattle.gathering.proofs.Keeping.{Kept, all_kept, one_stopped}
use Rattle.gathering.proofs.Accepting.{decided, tests_decide}

module _ (file : List ℕ) where
  -- what is gathered of a file that is refused says so
  refused_so : (why : Refusal) → gathering file ≡ nothing_gathered (notice_of why) → GatherPromise file (Err why)
  refused_so why e = sym (ap (λ (contents : Contents). contents.verdict) e)

  -- a file that reading refuses
  read_refused : (why : Refusal) → period_file file ≡ refused (notice_of why) → GatherPromise file (Err why)
  unfolding gathering
  read_refused why e = refused_so why (ap (gathered_after file) e)

  module _ (long : length file < 2 ^ 64) where
    -- its header is refused
    pub header_out : (why : Refusal) → reads_from header file first_spot ≡ stopped_by why → GatherPromise file (Err why)
    header_out why e = read_refused why (header_stopped file long _ e)

    -- its header is read
    module _ {counts : Counts} {first : Spot} (header_read : whole counts first ≡ reads_from header file first_spot) where
      pub within : CountsWithin counts
      within = header_within file first_spot counts first (sym header_read)

      -- what its plants are, in an array
      abbrev plants_found : Reach (List Plant)
      plants_found = in_array no_plant most_plants (reads_from (each (λ (own : ℕ). plant counts) 1 (min counts.plants most_plants)) file first)

      -- a plant is refused
      pub plants_out : (why : Refusal) → stopped_by why ≡ plants_found → GatherPromise file (Err why)
      plants_out why e =
          read_refused why
          (plants_stopped file long counts first (sym header_read) _
          (one_stopped no_plant most_plants (λ (own : ℕ). plant counts) counts.plants file first within.most_plants_is _ e))

      -- its plants are read
      module _ {plants : List Plant} {second : Spot} (plants_read : whole plants second ≡ plants_found) where
        pub plants_kept : Kept no_plant most_plants (reads_from (plants_of counts) file first) plants second
        plants_kept = all_kept no_plant most_plants (λ (own : ℕ). plant counts) counts.plants file first within.most_plants_is plants second plants_read

        -- and below the same of its segments
        abbrev segments_found : Reach (List Segment)
        segments_found = in_array no_segment most_segments (reads_from (each (segment counts) 1 (min counts.segments most_segments)) file second)

        pub segments_out : (why : Refusal) → stopped_by why ≡ segments_found → GatherPromise file (Err why)
        segments_out why e =
            read_refused why
            (segments_stopped file long counts first (sym header_read) _ second plants_kept.came _
            (one_stopped no_segment most_segments (segment counts) counts.segments file second within.most_segments_is _ e))

        module _ {segments : List Segment} {third : Spot} (segments_read : whole segments third ≡ segments_found) where
          pub segments_kept : Kept no_segment most_segments (reads_from (segments_of counts) file second) segments third
          segments_kept = all_kept no_segment most_segments (segment counts) counts.segments file second within.most_segments_is segments third segments_read

          -- the first line starts behind all that comes before
          pub first_line : third.byte ≡ line_start file counts 0
          first_line = first_line_starts file counts first second third _ _ (sym header_read) plants_kept.came segments_kept.came

          -- the period of such lines
          abbrev period : List Line → Period
          period lines = period_of plants_kept.held segments_kept.held lines

          abbrev outcome : Reach (List Line)
          outcome = reads_from (lines_of counts) file third

          -- a line is refused
          line_stopped : (notice : Notice) → outcome ≡ stopped notice → gathering file ≡ nothing_gathered notice
          unfolding gathering
          line_stopped notice e =
              ap (gathered_after file) (lines_stopped file long counts first (sym header_read) _ second plants_kept.came _ third segments_kept.came notice e)

          -- all are read: as many as the header announced
          module _ (lines : List Line) (last : Spot) (came : outcome ≡ whole lines last) where
            announced_all : counts ≡ counts_of (period lines)
            announced_all =
                rw (
                  (plants_within file first counts _ second plants_kept.came).0,
                  (segments_within file second counts _ third segments_kept.came).0,
                  (lines_within file third counts lines last came).0,
                ) refl

            -- the end of the file is next, then 10, then 16
            line_read : gathering file ≡ decided (lines_ruling file counts (whole lines last)) (gathered_of file (period lines))
            unfolding gathering
            line_read =
                ap (gathered_after file) (lines_whole file long counts first (sym header_read) _ second plants_kept.came _ third segments_kept.came lines last came)
                ∙ by_end (dec_le (length file) last.byte)
              where
                by_end :
                    Dec (length file ≤ last.byte) →
                    gathered_after file (ended file (read_to (period lines) last)) ≡ decided (lines_ruling file counts (whole lines last)) (gathered_of file (period lines))
                by_end (yes h) =
                    rw (none_left (period lines) last.place file last.byte h, le-ltb last.byte (length file) h)
                    (tests_decide (gathering_tests file (period lines)) (gathered_of file (period lines))
                    ∙ ap (λ (c : Counts). decided (tested_by refuses (emission_tests (line_start file c) (length file) c.plants lines) accepts) (gathered_of file (period lines))) (sym announced_all))
                by_end (no h) =
                    let more : last.byte < length file = omega (arith, h) in
                    rw (more_left (period lines) last.place file last.byte more, lt-ltb last.byte (length file) more) refl

          -- the lines are refused
          pub lines_out : (why : Refusal) → refusing why ≡ lines_ruling file counts outcome → GatherPromise file (Err why)
          lines_out why told = refused_so why (by_outcome outcome refl told)
            where
              by_outcome :
                  (came : Reach (List Line)) → outcome ≡ came → refusing why ≡ lines_ruling file counts came →
                  gathering file ≡ nothing_gathered (notice_of why)
              by_outcome (stopped notice) e told' = line_stopped notice e ∙ sym (ap (λ (v : Verdict). decided v (gathering file)) told')
              by_outcome (whole lines last) e told' = line_read lines last e ∙ sym (ap (λ (v : Verdict). decided v (gathered_of file (period lines))) told')

          -- they are added up
          pub all_gathered :
              (emissions : Emissions) → AllEmitted file third counts emissions →
              GatherPromise file (Ok (record { counts = counts; plants = plants; segments = segments; emissions = emissions }))
          all_gathered emissions all =
              let announced = announced_all all.lines all.last all.came in
              rw (line_read all.lines all.last all.came ∙ ap (λ (v : Verdict). decided v (gathered_of file (period all.lines))) all.passed) (record {
                verdict = refl;
                counts = announced;
                plants = plants_kept.filled_so;
                segments = segments_kept.filled_so;
                emissions = subst (λ (c : Counts). OwnerEmissions emissions.plants emissions.segments c all.lines) announced all.emitted;
                bytes = all.all_bytes;
              })
