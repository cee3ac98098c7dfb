-- The bytes of digits, from that of 0 to that of 9.
use Rattle.std.proofs.Common.{◌≡◌, ℕ, ◌≤◌, true, arith}
use Rattle.std.proofs.lemmas.Bool.Decides.{nat_tests}
use Rattle.typed.specs.Text.{first_digit, last_digit, is_digit}

pub digit_bounds : (byte : ℕ) → is_digit byte ≡ true → (first_digit ≤ byte) × (byte ≤ last_digit)
digit_bounds byte is = (grind (arith, nat_tests), grind (arith, nat_tests))
