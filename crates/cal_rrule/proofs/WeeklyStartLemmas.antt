-- The weeks on which blocks of WEEKLY begin.
use Rattle.std.proofs.Common.{◌≡◌, ◌∙◌, ℕ, ◌+◌, ◌-◌, ◌*◌, ◌/◌, ◌%◌, ◌<◌, ◌≤◌, nat_lt, true, false, Option, Some, None, MatchOption, ℤ, pos, ◌+ℤ◌, ◌-ℤ◌, ◌≤ℤ◌, ◌<ℤ◌, refl, sym, ap, subst, arith}
use Rattle.std.specs.Int.{int_rem_euclid}
use Rattle.std.proofs.Math.Nat.{add-mul}
use Rattle.std.proofs.lemmas.Bool.Decides.{nat_tests}
use Rattle.std.proofs.lemmas.Nat.{div-add-mod', le-div, mul-le}
use Rattle.cal_days.specs.Day.{IsValidDay}
use Rattle.cal_days.proofs.Signed.{signed}
use Rattle.cal_types.specs.Weekday.{weekday_number}
use Rattle.cal_types.specs.declared.weekday.Weekday.{Weekday}
use Rattle.cal_rrule.specs.Blocks.{weekly_periods}
use Rattle.cal_rrule.specs.Weekly.{IsBlockStart, block_start}
use Rattle.cal_rrule.specs.Weeks.{IsWeekOf}
use Rattle.cal_rrule.proofs.WeekStartLemmas.{week-of}

-- how many periods a block has
pub periods-great : (interval : ℕ) → 63 < interval → 1 ≡ weekly_periods interval
periods-great interval more =
    let test : nat_lt 63 interval ≡ true = grind (arith, nat_tests, more) in
    rw test refl

pub periods-small : (interval : ℕ) → interval ≤ 63 → 63 / interval ≡ weekly_periods interval
periods-small interval few =
    let test : nat_lt 63 interval ≡ false = grind (arith, nat_tests, few) in
    rw test refl

one-less : (q i r : ℕ) → 0 < q → 0 < i → q * i + r ≡ 63 → (q - 1) * i ≤ 62
one-less q i r some positive whole =
    let back : (q - 1) + 1 ≡ q = omega (arith, some) in
    let product : ((q - 1) + 1) * i ≡ q * i = ap (λ (m : ℕ). m * i) back in
    let split : ((q - 1) + 1) * i ≡ (q - 1) * i + 1 * i = add-mul (q - 1) 1 i in
    let one : 1 * i ≡ i = omega arith in
    omega (arith, product, split, one, whole, positive)

pub quotient-some : (interval : ℕ) → 0 < interval → interval ≤ 63 → 0 < 63 / interval
quotient-some interval some few =
    let least : 1 ≤ 63 / interval = le-div 1 63 interval some (omega (arith, few)) in omega (arith, least)

pub periods-few : (interval : ℕ) → 0 < interval → interval ≤ 63 → (63 / interval - 1) * interval ≤ 62
periods-few interval some few =
    one-less (63 / interval) interval (63 % interval) (quotient-some interval some few) some (div-add-mod' 63 interval)

-- weeks between blocks
pub next-great : (interval : ℕ) → 63 < interval → interval ≡ weekly_periods interval * interval
next-great interval more =
    let one : 1 * interval ≡ interval = omega arith in
    sym one ∙ ap (λ (q : ℕ). q * interval) (periods-great interval more)

pub next-small : (interval : ℕ) → interval ≤ 63 → 63 / interval * interval ≡ weekly_periods interval * interval
next-small interval few = ap (λ (q : ℕ). q * interval) (periods-small interval few)

pub next-some : (interval : ℕ) → 0 < interval → interval ≤ 63 → 0 < 63 / interval * interval
next-some interval some few =
    let product : 1 * interval ≤ 63 / interval * interval =
    mul-le 1 interval (63 / interval) interval (quotient-some interval some few) (omega arith) in
    omega (arith, product, some)

pub next-most : (interval : ℕ) → 63 / interval * interval ≤ 63
next-most interval = let whole = div-add-mod' 63 interval in omega (arith, whole)

-- days that are few or many by a division
pub quotient-few : (n weeks block : ℕ) → block ≤ n / weeks → block * weeks ≤ n
quotient-few n weeks block low =
    let whole = div-add-mod' n weeks in
    let product : block * weeks ≤ n / weeks * weeks = mul-le block weeks (n / weeks) weeks low (omega arith) in
    omega (arith, whole, product)

quotient-more : (n weeks block : ℕ) → 0 < weeks → n / weeks < block → n < block * weeks
quotient-more n weeks block some low =
    let whole = div-add-mod' n weeks in
    let rest : n % weeks < weeks = omega (arith, some) in
    let product : (n / weeks + 1) * weeks ≤ block * weeks = mul-le (n / weeks + 1) weeks block weeks (omega (arith, low)) (omega arith) in
    let split : (n / weeks + 1) * weeks ≡ n / weeks * weeks + 1 * weeks = add-mul (n / weeks) 1 weeks in
    let one : 1 * weeks ≡ weeks = omega arith in
    omega (arith, whole, rest, product, split, one)

group : (a b c : ℕ) → a * (b * c) ≡ a * b * c
group a b c = omega arith

times-group : (block interval weeks : ℕ) → weeks ≡ weekly_periods interval * interval →
    block * weeks ≡ block * weekly_periods interval * interval
times-group block interval weeks is =
    ap (λ (m : ℕ). block * m) is ∙ group block (weekly_periods interval) interval

-- the days that a block begins behind the start's week
pub ahead-none : (block interval weeks : ℕ) → weeks ≡ weekly_periods interval * interval → 0 < weeks →
    110000000 / weeks < block → 770000000 < 7 * (block * weekly_periods interval * interval)
ahead-none block interval weeks is some more =
    let product = quotient-more 110000000 weeks block some more in
    omega (arith, product, times-group block interval weeks is)

pub ahead-some : (block interval weeks : ℕ) (days : ℤ) → weeks ≡ weekly_periods interval * interval → 0 < weeks →
    block ≤ 110000000 / weeks → days ≡ pos (7 * (block * weeks)) →
    (days ≡ pos (7 * (block * weekly_periods interval * interval)))
    × (7 * (block * weekly_periods interval * interval) < 800000000) × (block < 200000000)
ahead-some block interval weeks days is some few at =
    let product = quotient-few 110000000 weeks block few in
    let same = times-group block interval weeks is in
    let least : block * 1 ≤ block * weeks = mul-le block 1 block weeks (omega arith) some in
    let one : block * 1 ≡ block = omega arith in (
      at ∙ ap (λ (m : ℕ). pos (7 * m)) same,
      omega (arith, product, same),
      omega (arith, product, least, one),
    )

-- a block whose days are too many begins behind every valid day
pub start-none : (day last w : ℤ) (interval block : ℕ) → IsValidDay day → IsValidDay last → day <ℤ (w +ℤ pos 7) →
    770000000 < 7 * (block * weekly_periods interval * interval) → last <ℤ block_start w interval block
start-none day last w interval block valid end high more = omega (arith, signed, valid, end, high, more)

-- a start that was found
pub start-found : (w last day : ℤ) (interval block : ℕ) (found : Option ℤ) → day ≡ block_start w interval block →
    block < 200000000 → MatchOption found (last <ℤ day) (λ n. (n ≡ day) × (n ≤ℤ last)) →
    IsBlockStart w interval block last found
start-found w last day interval block None is few past = subst (λ (d : ℤ). last <ℤ d) is past
start-found w last day interval block (Some n) is few held = (held.0 ∙ is, held.1, few)

-- there is a week of each day
pub week-finds : (start : Weekday) (n : ℤ) → (w : ℤ) × IsWeekOf start n w
week-finds start n =
    (n -ℤ int_rem_euclid (n -ℤ pos (weekday_number start)) (pos 7), week-of start n _ (weekday_number start) refl refl)
