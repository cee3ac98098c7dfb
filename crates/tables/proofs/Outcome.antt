-- No two outcomes meet a promise of this crate.
use Rattle.std.proofs.Common.{◌≡◌, ℕ, List, sym, ◌∙◌}
use Rattle.settling.specs.declared.account.PlantAccount.{PlantAccount}
use Rattle.settling.specs.declared.account.SegmentAccount.{SegmentAccount}
use Rattle.tables.specs.Rows.{WritePlantsPromise, WriteSegmentsPromise}

-- `write_plants` and `write_segments`: the table afterwards, of the same accounts and table before
pub one_plant_table :
    (accounts : List PlantAccount) (table after after' : List ℕ) → WritePlantsPromise accounts table after → WritePlantsPromise accounts table after' → after ≡ after'
one_plant_table accounts table after after' p q = p ∙ sym q

pub one_segment_table :
    (accounts : List SegmentAccount) (table after after' : List ℕ) →
    WriteSegmentsPromise accounts table after → WriteSegmentsPromise accounts table after' → after ≡ after'
one_segment_table accounts table after after' p q = p ∙ sym q
