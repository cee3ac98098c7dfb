-- No two outcomes meet a promise of this crate.
use Prim.Native.Nat.{ℕ}
use mathlib.Core.Path.{◌≡◌, sym, ◌∙◌}
use mathlib.Core.Bool.{Bool}
use mathlib.Core.List.{List}
use lib.ListN.{length, replicate, length-replicate}
use Rattle.fields.specs.declared.reason.Reason.{Reason}
use Rattle.fields.specs.Readers.{Reader}
use Rattle.records.specs.declared.class.Class.{Class}
use Rattle.records.specs.declared.counts.Counts.{Counts}
use Rattle.records.specs.declared.limits.Limits.{Limits}
use Rattle.records.specs.Limits.{LimitsPromise}
use Rattle.records.specs.Classes.{ClassPromise}
use Rattle.records.specs.FieldTests.{Allows, HeaderAllows, PlantAllows, SegmentAllows, LineAllows, HeaderReason}

-- a test that is right whatever numbers come before the field: zeros, for one
allows_once : {A : Type 0} (reader : Reader A) (field value : ℕ) (r s : Bool) → Allows reader field value r → Allows reader field value s → r ≡ s
allows_once reader field value r s p q =
    let before : List ℕ = replicate field 0 in
    let sized : length before ≡ field = length-replicate field 0 in
    p before sized ∙ sym (q before sized)

-- `Header::allows`, `Plant::allows`, `Segment::allows` and `Line::allows`: two answers of one field for one value are the same
pub one_header_allows : (field value : ℕ) (r s : Bool) → HeaderAllows field value r → HeaderAllows field value s → r ≡ s
one_header_allows = allows_once _

pub one_plant_allows : (counts : Counts) (field value : ℕ) (r s : Bool) → PlantAllows counts field value r → PlantAllows counts field value s → r ≡ s
one_plant_allows counts = allows_once _

pub one_segment_allows :
    (counts : Counts) (own : ℕ) (earlier : List ℕ) (field value : ℕ) (r s : Bool) → SegmentAllows counts own earlier field value r →
    SegmentAllows counts own earlier field value s → r ≡ s
one_segment_allows counts own earlier field value r s p q = p ∙ sym q

pub one_line_allows :
    (counts : Counts) (earlier : List ℕ) (field value : ℕ) (r s : Bool) → LineAllows counts earlier field value r →
    LineAllows counts earlier field value s → r ≡ s
one_line_allows counts earlier field value r s p q = p ∙ sym q

-- `Header::reason`, `Limits::new` and `Class::of`: their promises give the result itself
pub one_header_reason : (field : ℕ) (r s : Reason) → HeaderReason field r → HeaderReason field s → r ≡ s
one_header_reason field r s p q = p ∙ sym q

pub one_limits : (r s : Limits) → LimitsPromise r → LimitsPromise s → r ≡ s
one_limits r s p q = p ∙ sym q

pub one_class : (code : ℕ) (r s : Class) → ClassPromise code r → ClassPromise code s → r ≡ s
one_class code r s p q = p ∙ sym q
