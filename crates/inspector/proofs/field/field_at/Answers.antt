-- `inspector::field::field_at` meets its contract: it makes the tests of the definition, in their order. Assumes nothing.
use mathlib.Core.Path.{refl}
use native.Mathlib.Numerals.{add-one}
use borrow.Author.Tests.{lt-ltb, le-ltb}
use Rattle.inspector.specs.FieldsAt.{field_at}
use Rattle.inspector.proofs.field.field_at.Goals as goal

pub returns-then-place : goal.returns-then-place
unfolding field_at
returns-then-place c =
    let of-header = c.if-place.true in
    rw lt-ltb refl

pub returns-in_default : goal.returns-in_default
unfolding field_at
returns-in_default c =
    let after-header = c.if-place.false in
    rw (c.in_default.is, le-ltb) refl

pub returns-then-plant-counts : goal.returns-then-plant-counts
unfolding field_at
returns-then-plant-counts c =
    let after-header = c.if-place.false in
    let of-plant = c.if-plant-counts.true in
    simp (c.in-Some.is, le-ltb, lt-ltb, add-one) refl

pub returns-then-segment-counts : goal.returns-then-segment-counts
unfolding field_at
returns-then-segment-counts c =
    let after-header = c.if-place.false in
    let after-plants = c.if-plant-counts.false in
    let of-segment = c.if-segment-counts.true in
    simp (c.in-Some.is, le-ltb, lt-ltb, add-one) refl

pub returns-then-line-counts : goal.returns-then-line-counts
unfolding field_at
returns-then-line-counts c =
    let after-header = c.if-place.false in
    let after-plants = c.if-plant-counts.false in
    let after-segments = c.if-segment-counts.false in
    let of-line = c.if-line-counts.true in
    simp (c.in-Some.is, le-ltb, lt-ltb, add-one) refl

pub returns : goal.returns
unfolding field_at
returns c =
    let after-header = c.if-place.false in
    let after-plants = c.if-plant-counts.false in
    let after-segments = c.if-segment-counts.false in
    let after-lines = c.if-line-counts.false in
    simp (c.in-Some.is, le-ltb) refl
