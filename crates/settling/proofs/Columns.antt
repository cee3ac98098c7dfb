-- Laws of a column of the table of amounts: what the plants bring to one segment.
use Rattle.std.proofs.Common.{◌≡◌, ℕ, ◌≤◌, ◌<◌, List, [], length, get_or, take, drop, ap, ◌∙◌, arith}
use lib.ListN.{length-map, drop_of_length-le, get_or-map}
use lib.Seq.{length-take-le, get_or-take, drop-cons}
use Rattle.settling.specs.declared.flow.Books.{Books}
use Rattle.settling.specs.Books.{cell, column}
use Rattle.settling.proofs.Crediting.{Next}

module _ (books : Books) (s : ℕ) where
  -- it has an amount for each of the plants
  pub column_length : length (column books s) ≡ books.plants
  column_length =
      length-map (take books.plants books.amounts) (λ (row : List ℕ). get_or row s 0)
      ∙ length-take-le books.plants books.amounts (omega (arith, books.few, books.rows))

  -- at an index that of the plant's row, as a loop over their rows takes it
  in_row : (p : ℕ) → get_or (column books s) p 0 ≡ get_or (get_or (take books.plants books.amounts) p []) s 0
  in_row p = get_or-map (λ (row : List ℕ). get_or row s 0) (take books.plants books.amounts) p []

  -- which is the plant's cell
  pub column_at : (p : ℕ) → p < books.plants → get_or (column books s) p 0 ≡ cell books.amounts p s
  column_at p here = in_row p ∙ ap (λ (row : List ℕ). get_or row s 0) (get_or-take books.plants books.amounts p [] here)

  -- it enters next
  pub column_next : (p : ℕ) → p < books.plants → Next (column books s) p (get_or (get_or (take books.plants books.amounts) p []) s 0)
  column_next p here = drop-cons (column books s) p 0 (rw column_length here) ∙ rw (in_row p)

  -- behind the last plant nothing enters
  pub column_end : (p : ℕ) → books.plants ≤ p → drop p (column books s) ≡ []
  column_end p behind = drop_of_length-le (column books s) {i = p} (rw column_length behind)
