-- What a function answers of a text that it hands over.
use Rattle.std.specs.Prelude.{ℕ, ◌≡◌, List, Option, Some, None, ◌⊎◌}

-- All of the text, or nothing. The logic cannot say that this text is what `write` was given.
abbrev pub HandedOver : (answered : Option (List ℕ)) (text : List ℕ) → Type 0
HandedOver answered text = (answered ≡ Some text) ⊎ (answered ≡ None)
