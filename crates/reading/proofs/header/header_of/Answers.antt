-- `reading::header::header_of` meets its contract: it tells what the reading of the header gave. Assumes nothing.
use Rattle.std.proofs.Common.{◌≡◌, ℕ, ◌^◌, ◌<◌, List, length, Option, Some, None, Ok, Err, rules, arith, refl, sym, ap, ◌∙◌}
use Rattle.fields.specs.declared.answer.Refusal.{Refusal}
use Rattle.fields.specs.declared.spot.Spot.{Spot}
use Rattle.fields.specs.Spots.{first_spot}
use Rattle.fields.specs.Reaching.{as_read}
use Rattle.fields.proofs.Reaching.{first_counted, reads_as}
use Rattle.records.specs.declared.counts.Counts.{Counts}
use Rattle.records.specs.Headers.{header, telling, header_of}
use Rattle.reading.specs.Found.{RecordRead, ReadHeaderPromise}
use Rattle.reading.proofs.header.header_of.Goals as goal

-- the counts that were read are what the header tells, and of a refused one nothing
told :
    (file : List ℕ) → length file < 2 ^ 64 → (tells : Option Counts) (r : RecordRead Counts) → ReadHeaderPromise file r →
    ((counts : Counts) (next : Spot) → r ≡ Ok (counts, next) → tells ≡ Some counts) → ((refusal : Refusal) → r ≡ Err refusal → tells ≡ None) →
    tells ≡ header_of file
unfolding header_of
told file long tells (Ok (counts, next)) read counted none =
    counted counts next refl ∙ sym (ap telling (reads_as file long header first_spot (first_counted file) ∙ ap as_read (sym read)))
told file long tells (Err refusal) read counted none =
    none refusal refl ∙ sym (ap telling (reads_as file long header first_spot (first_counted file) ∙ ap as_read (sym read)))

pub returns : goal.returns
returns c = told c.args.file.now (omega arith) _ c.read_header.result c.read_header.ensures (λ counts next is. search rules) (λ refusal is. search rules)
