-- What the entry leaves in the historian's tables: what was there if the file is refused, else the bytes of its rows.
use Prim.Native.Nat.{ℕ}
use mathlib.Core.Path.{◌≡◌, refl, sym, ap, ◌∙◌}
use mathlib.Core.List.{List, flat_map}
use native.Mathlib.Omega.{arith}
use lib.ListN.{take}
use lib.Seq.{take_all}
use Rattle.std.specs.Prelude.{Ok, Err}
use Rattle.fields.specs.declared.answer.Refusal.{Refusal}
use Rattle.fields.specs.Answers.{accepted as done, accepts, refusing}
use Rattle.fields.proofs.Answers.{refuses_not_accepts}
use Rattle.accounts.specs.Order.{Ruling, refusal, accepted, plant_row_numbers, segment_row_numbers}
use Rattle.settling.specs.declared.settling.Settled.{Settled}
use Rattle.settling.specs.Settled.{SettlePromise}
use Rattle.period.specs.Written.{plant_row_of, segment_row_of, ruling_verdict, plant_entries, segment_entries}
use Rattle.period.proofs.Answering.{tables_say, verdict_is, rows_are, room_is}
use Rattle.plain.specs.Bytes.{whole_numbers, bytes_overwritten}
use Rattle.tables.specs.Rows.{rows_there, WritePlantsPromise, WriteSegmentsPromise}
use Rattle.historian.specs.Tables.{entry_ruling, TablesAfter}

module _ (file plants segments : List ℕ) where
  -- a refusal leaves the tables as they were
  pub tables_stay :
      (why : Refusal) → refusing why ≡ ruling_verdict (entry_ruling file plants segments) → TablesAfter file plants segments (Err why) plants segments
  unfolding flat_map
  tables_stay why says =
      let same = by_ruling (entry_ruling file plants segments) says in
      record { verdict = says; plants_after = same.0; segments_after = same.1 }
    where
      by_ruling :
          (a : Ruling) → refusing why ≡ ruling_verdict a →
          (plants ≡ bytes_overwritten (plant_entries a) plants) × (segments ≡ bytes_overwritten (segment_entries a) segments)
      by_ruling (refusal notice) e = (refl, refl)
      by_ruling (accepted plants_told segments_told) e = absurd (refuses_not_accepts e)

  -- acceptance writes the rows, for which there is room
  module _ (r : Settled) (settles : SettlePromise file (Ok r)) (passes : accepts ≡ tables_say file (whole_numbers plants) (whole_numbers segments) r settles) where
    pub tables_written :
        (plants' segments' : List ℕ) → WritePlantsPromise (take r.plant_count r.plants) plants plants' →
        WriteSegmentsPromise (take r.segment_count r.segments) segments segments' → TablesAfter file plants segments done plants' segments'
    tables_written plants' segments' plants_written segments_written =
        let rows = rows_are file (whole_numbers plants) (whole_numbers segments) r settles passes in
        let room = room_is file (whole_numbers plants) (whole_numbers segments) r settles passes in
        record {
          verdict = passes ∙ verdict_is file (whole_numbers plants) (whole_numbers segments) r settles;
          plants_after =
              plants_written
              ∙ ap (λ (l : List _). bytes_overwritten (flat_map plant_row_of l) plants) (take_all (rows_there plant_row_numbers plants) _ (omega (arith, room.0)))
              ∙ sym (ap (λ (a : Ruling). bytes_overwritten (plant_entries a) plants) rows);
          segments_after =
              segments_written
              ∙ ap (λ (l : List _). bytes_overwritten (flat_map segment_row_of l) segments) (take_all (rows_there segment_row_numbers segments) _ (omega (arith, room.1)))
              ∙ sym (ap (λ (a : Ruling). bytes_overwritten (segment_entries a) segments) rows);
        }
