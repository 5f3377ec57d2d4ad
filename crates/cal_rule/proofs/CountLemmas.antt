-- The numbers of COUNT and INTERVAL are above 0.
use Rattle.std.proofs.Common.{◌≡◌, ℕ, ◌<◌, ◌≤◌, Bool, true, false, ◌&&◌, nat_le, nat_lt, if◌then◌else◌, List, length, Option, Some, None, Result, Ok, Err, refl, arith}
use Rattle.std.specs.Char.{is_ascii_digit}
use Rattle.std.specs.List.{list_all}
use Rattle.std.specs.Result.{result_ok}
use Rattle.std.proofs.lemmas.Bool.{and_parts}
use Rattle.std.proofs.lemmas.Bool.Decides.{nat_tests}
use Rattle.word_values.specs.Numbers.{digits_value}
use Rattle.cal_rule.specs.Numbers.{count_in_range, count_read}
use Rattle.cal_rule.specs.RuleText.{said_with}
use Rattle.cal_rule.specs.declared.value_fault.ValueFault.{ValueFault}
use Rattle.cal_rule.specs.declared.value_fault.ValueFault.TheVariants.{Bad, OutOfRange}

abbrev ranged_if : Bool → ℕ → Result ℕ ValueFault
ranged_if b m = if b then Ok m else Err OutOfRange

abbrev spelled_if : Bool → ℕ → Result ℕ ValueFault
spelled_if b m = if b then count_in_range m else Err Bad

none-some : {A : Type 0} {n : ℕ} → ◌≡◌ {A = Option ℕ} None (Some n) → A
none-some e = cc

some-same : {m n : ℕ} → ◌≡◌ {A = Option ℕ} (Some m) (Some n) → m ≡ n
some-same e = cc

ranged : (b : Bool) (m n : ℕ) → (nat_le 1 m && nat_le m 999999999) ≡ b → result_ok (ranged_if b m) ≡ Some n → 0 < n
ranged true m n is e =
    let parts = and_parts (nat_le 1 m) (nat_le m 999999999) is in
    let some : 1 ≤ m = grind (arith, nat_tests, parts.0) in
    omega (arith, some, some-same e)
ranged false m n is e = none-some e

spelled : (b : Bool) (m n : ℕ) → result_ok (spelled_if b m) ≡ Some n → 0 < n
spelled true m n e = ranged (nat_le 1 m && nat_le m 999999999) m n refl e
spelled false m n e = none-some e

pub count-some : (text : Option (List ℕ)) (n : ℕ) → said_with count_read text ≡ Some n → 0 < n
count-some None n e = none-some e
count-some (Some text) n e =
    spelled (nat_lt 0 (length text) && list_all is_ascii_digit text) (digits_value text) n e
