-- How many digits a number has.
use Rattle.std.proofs.Common.{◌≡◌, ◌≤◌, ◌<◌, ◌+◌, ◌/◌, ◌%◌, ◌^◌, ◌∙◌, ℕ, ap, decimal, length}
use Rattle.std.proofs.lemmas.Fmt.{decimal_digit, decimal_step_wide}
use Rattle.std.proofs.lemmas.List.{length_push}

-- one more than a tenth of it
pub one_more : (n : ℕ) → 10 ≤ n → n < 10 ^ 64 → length (decimal n) ≡ length (decimal (n / 10)) + 1
one_more n h small = ap length (decimal_step_wide n h small) ∙ length_push (decimal (n / 10)) (48 + n % 10)

pub one_digit : (n : ℕ) → n < 10 → length (decimal n) ≡ 1
one_digit n h = ap length (decimal_digit n h)
