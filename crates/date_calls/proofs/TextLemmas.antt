-- What stands behind the date of a text names its calendar.
use Rattle.std.proofs.Common.{◌≡◌, ◌∙◌, ◌++◌, ℕ, ◌+◌, ◌/◌, ◌%◌, min, length, Bool, true, false, List, ◌∷◌, Option, Some, None, refl, ap, arith}
use Rattle.std.specs.Prelude.{◌==◌, ◌||◌}
use Rattle.std.specs.Option.{option_and_then}
use Rattle.icu_calendar.specs.DateText.{FourDigits, Minus, Plus, YearForm, annotation, two_digits, year_text}
use Rattle.icu_calendar.specs.DateTextReading.{before_bracket, behind_key}
use Rattle.icu_calendar.proofs.NameLemmas.{before_bracket-written}
use Rattle.date_calls.specs.Texts.{IsNameIn, behind_date, name_behind}

no_sign : (n : ℕ) → (48 + n == 43 || 48 + n == 45) ≡ false
no_sign n = grind (arith)

-- the bytes of a date, and what stands behind them
behind_signed : (sign a b c d e f g h i j k l : ℕ) (rest : List ℕ) → (sign == 43 || sign == 45) ≡ true → behind_date (sign ∷ a ∷ b ∷ c ∷ d ∷ e ∷ f ∷ g ∷ h ∷ i ∷ j ∷ k ∷ l ∷ rest) ≡ rest
behind_signed sign a b c d e f g h i j k l rest signed =
    let text = sign ∷ a ∷ b ∷ c ∷ d ∷ e ∷ f ∷ g ∷ h ∷ i ∷ j ∷ k ∷ l ∷ rest in
    let count : min 13 (length text) ≡ 13 = omega (arith) in
    rw (signed, count) refl

behind_plain : (a b c d e f g h i j : ℕ) (rest : List ℕ) → (a == 43 || a == 45) ≡ false → behind_date (a ∷ b ∷ c ∷ d ∷ e ∷ f ∷ g ∷ h ∷ i ∷ j ∷ rest) ≡ rest
behind_plain a b c d e f g h i j rest plain =
    let text = a ∷ b ∷ c ∷ d ∷ e ∷ f ∷ g ∷ h ∷ i ∷ j ∷ rest in
    let count : min 10 (length text) ≡ 10 = omega (arith) in
    rw (plain, count) refl

behind-date : (form : YearForm) (n m d : ℕ) (rest : List ℕ) → behind_date (year_text form n ++ (45 ∷ two_digits m ++ (45 ∷ two_digits d ++ rest))) ≡ rest
behind-date FourDigits n m d rest = behind_plain (48 + n / 100 / 10) (48 + (n / 100) % 10) (48 + (n % 100) / 10) (48 + (n % 100) % 10) 45 (48 + m / 10) (48 + m % 10) 45 (48 + d / 10) (48 + d % 10) rest (no_sign (n / 100 / 10))
behind-date Plus n m d rest = behind_signed 43 (48 + n / 10000 / 10) (48 + (n / 10000) % 10) (48 + (n % 10000) / 100 / 10) (48 + ((n % 10000) / 100) % 10) (48 + ((n % 10000) % 100) / 10) (48 + ((n % 10000) % 100) % 10) 45 (48 + m / 10) (48 + m % 10) 45 (48 + d / 10) (48 + d % 10) rest refl
behind-date Minus n m d rest = behind_signed 45 (48 + n / 10000 / 10) (48 + (n / 10000) % 10) (48 + (n % 10000) / 100 / 10) (48 + ((n % 10000) / 100) % 10) (48 + ((n % 10000) % 100) / 10) (48 + ((n % 10000) % 100) % 10) 45 (48 + m / 10) (48 + m % 10) 45 (48 + d / 10) (48 + d % 10) rest refl

named : (critical : Bool) (name : Option (List ℕ)) → option_and_then before_bracket (behind_key (annotation critical name)) ≡ name
named false None = refl
named true None = refl
named false (Some name) = before_bracket-written name
named true (Some name) = before_bracket-written name

pub name-in : (bytes : List ℕ) (found : Option (List ℕ)) → found ≡ name_behind bytes → IsNameIn bytes found
name-in bytes found is t name text =
    let behind : behind_date bytes ≡ annotation text.critical name =
    ap behind_date text.text ∙ behind-date text.form text.number t.month t.day (annotation text.critical name) in
    is ∙ ap (λ (s : List ℕ). option_and_then before_bracket (behind_key s)) behind ∙ named text.critical name
