-- The year that lies so many years after a year.
use Rattle.std.proofs.Common.{◌≡◌, ◌∙◌, ℕ, ◌&&◌, nat_le, int_lt, Bool, true, false, cond, Option, Some, None, MatchOption, Ok, Err, ℤ, pos, negsuc, ◌+ℤ◌, ◌≤ℤ◌, ◌<ℤ◌, refl, sym, ap, subst, to_z, of_z, w64, arith}
use mathlib.Core.Bool.{true≢false}
use Rattle.std.proofs.lemmas.Bool.Decides.{nat_tests}
use Rattle.cal_days.specs.Day.{IsFieldYear, IsValidDay}
use Rattle.cal_days.proofs.RangeLemmas.{true-is_between}
use Rattle.cal_days.proofs.Signed.{by_bool, signed}
use Rattle.cal_errors.specs.declared.errors.DateFromFieldsError.{DateFromFieldsError}
use Rattle.cal_errors.specs.declared.errors.DateFromFieldsError.TheVariants as fault
use Rattle.cal_types.specs.CalendarList.{CalendarList, Date, IsLawful, IsOn, IsValidDate, date, month_count, month_length, start_of_year}
use Rattle.cal_types.specs.Resolving.{Resolved, after, resolve, resolved_in_month, valid_date}
use Rattle.cal_types.specs.YearNames.{YearNames}
use Rattle.cal_types.specs.declared.options.MissingFieldsStrategy.TheVariants as missing
use Rattle.cal_types.specs.declared.options.Overflow.TheVariants.{Reject}
use Rattle.cal_types.proofs.ListLemmas.{day_number-first, first-date, first-place, on-unique, start_of_year-later, start_of_year-next, year_length-some}
use Rattle.cal_rrule.specs.Looks.{IsYearLook, look_year}
use Rattle.cal_rrule.specs.Stretches.{InStretch, end_of}
use Rattle.cal_rrule.specs.declared.year_look.YearLook.{YearLook}
use Rattle.cal_rrule.proofs.MonthStepLemmas.{first-on}
use Rattle.cal_rrule.proofs.ProbeLemmas.{day_bag, resolve-day}
use Rattle.cal_rrule.proofs.WordLemmas.{from_to, held-word, later, none_later, up_next}
use Rattle.cal_rrule.proofs.YearLookLemmas.{year-on}

-- a year's first day, from fields
pub resolve-first : (c : CalendarList) (names : YearNames) (y : ℤ) → IsLawful c → IsFieldYear y →
    resolve c names (day_bag y 1 1) Reject missing.Reject ≡ valid_date c (date y 1 1)
resolve-first c names y law field =
    resolve-day c names y 1 1 (true-is_between _ _ y field)
    ∙ by_place (nat_le 1 1 && nat_le 1 (month_count c y)) month
    ∙ by_day (nat_le 1 1 && nat_le 1 (month_length c y 1)) day
  where
    month : (nat_le 1 1 && nat_le 1 (month_count c y)) ≡ true
    month = let some : nat_le 1 (month_count c y) ≡ true = grind (arith, nat_tests, law.count y) in rw some refl

    day : (nat_le 1 1 && nat_le 1 (month_length c y 1)) ≡ true
    day =
        let length = (law.lengths y 1 (first-place c y law)).0 in
        let some : nat_le 1 (month_length c y 1) ≡ true = grind (arith, nat_tests, length) in
        rw some refl

    by_place : (b : Bool) → b ≡ true →
        after (cond b (Ok 1) (Err (fault.InvalidOrdinalMonth (month_count c y)))) (λ (j : ℕ). resolved_in_month c y j Reject 1)
        ≡ resolved_in_month c y 1 Reject 1
    by_place true e = refl
    by_place false e = absurd (true≢false (sym e))

    by_day : (b : Bool) → b ≡ true →
        after (cond b (Ok 1) (Err (fault.InvalidDay (month_length c y 1)))) (λ (d : ℕ). valid_date c (date y 1 d))
        ≡ valid_date c (date y 1 1)
    by_day true e = refl
    by_day false e = absurd (true≢false (sym e))

-- it is valid
pub first-ok : (u t : Date) (b : Bool) → ◌≡◌ {A = Resolved Date} (Ok u) (cond b (Ok t) (Err fault.Overflow)) → (b ≡ true) × (u ≡ t)
first-ok u t true e = (refl, same e)
  where
    same : ◌≡◌ {A = Resolved Date} (Ok u) (Ok t) → u ≡ t
    same e = cc
first-ok u t false e = absurd (never e)
  where
    never : ◌≡◌ {A = Resolved Date} (Ok u) (Err fault.Overflow) → ⊥
    never e = cc

-- or it isn't
pub first-err : (error : DateFromFieldsError) (t : Date) (b : Bool) →
    ◌≡◌ {A = Resolved Date} (Err error) (cond b (Ok t) (Err fault.Overflow)) → b ≡ true → ⊥
first-err error t true e h = never e
  where
    never : ◌≡◌ {A = Resolved Date} (Err error) (Ok t) → ⊥
    never e = cc
first-err error t false e h = true≢false (sym h)

-- the year of a year's first day
pub year-starts : (c : CalendarList) → IsLawful c → (y : ℤ) (look : YearLook) (n : ℤ) → IsYearLook c look → n ≡ start_of_year c y →
    InStretch (look_year look) n → look.year ≡ y
year-starts c law y look n is first within =
    let own = year-on c look n is within in
    let on = subst (λ (m : ℤ). IsOn c m (date y 1 1)) (day_number-first c y ∙ sym first) (first-on c law y 1 (first-place c y law)) in
    sym own.2 ∙ ap (λ (u : Date). u.year) (on-unique c n own.0 (date y 1 1) own.1 on)

-- years in order begin in order
pub starts-order : (c : CalendarList) (y z : ℤ) → y ≤ℤ z → start_of_year c y ≤ℤ start_of_year c z
starts-order c y z order = by_bool (int_lt y z)
    (λ e. let later = start_of_year-later c y z (omega (arith, signed, e)) in omega (arith, signed, later))
    (λ e. let same : y ≡ z = omega (arith, signed, e, order) in
    let starts = ap (start_of_year c) same in omega (arith, signed, starts))

-- a year behind the next one begins more than a day behind a day
pub begins-behind : (c : CalendarList) → IsLawful c → (high : YearLook) (last z : ℤ) → IsYearLook c high →
    InStretch (look_year high) last → (high.year +ℤ pos 1) <ℤ z → (last +ℤ pos 1) <ℤ start_of_year c z
begins-behind c law high last z is within more =
    let next = start_of_year-next c high.year in
    let later = start_of_year-later c (high.year +ℤ pos 1) z more in
    let some = year_length-some c law (high.year +ℤ pos 1) in
    omega (arith, signed, is.is_start, is.is_whole, within.1, next, later, some)

-- the next year begins where a year ends
pub begins-next : (c : CalendarList) (high : YearLook) (z : ℤ) → IsYearLook c high → z ≡ high.year +ℤ pos 1 →
    start_of_year c z ≡ end_of (look_year high)
begins-next c high z is same =
    let starts = ap (start_of_year c) same in
    omega (arith, signed, is.is_start, is.is_whole, start_of_year-next c high.year, starts)

-- a year up to that of a day begins up to it
pub begins-before : (c : CalendarList) (high : YearLook) (last z : ℤ) → IsYearLook c high → InStretch (look_year high) last →
    z ≤ℤ high.year → start_of_year c z ≤ℤ last
begins-before c high last z is within order =
    omega (arith, signed, is.is_start, within.0, starts-order c z high.year order)

-- and a later year than another one behind that
pub begins-from : (c : CalendarList) (look : YearLook) (z : ℤ) → IsYearLook c look → look.year <ℤ z →
    end_of (look_year look) ≤ℤ start_of_year c z
begins-from c look z is more =
    omega (arith, signed, is.is_start, is.is_whole, start_of_year-later c look.year z more)

-- a year whose first day is valid can be named by fields
pub first-valid : (c : CalendarList) (z : ℤ) → IsLawful c → IsValidDay (start_of_year c z) → IsValidDate c (date z 1 1)
first-valid c z law valid =
    let first = day_number-first c z in
    record { date = first-date c z law; valid = (omega (arith, signed, valid.0, first), omega (arith, signed, valid.1, first)) }

-- a year that was found
abbrev pub IsFound : CalendarList → ℤ → ℤ → YearLook → Type 0
IsFound c z last found = IsYearLook c found × (found.year ≡ z) × (found.first ≤ℤ (last +ℤ pos 1))

-- a year up to that of a last day, by its number
pub found-numbered : (c : CalendarList) (look high : YearLook) (years : ℕ) (n last : ℤ) → IsYearLook c look → IsYearLook c high →
    InStretch (look_year high) last → negsuc 365242498 ≤ℤ end_of (look_year look) → IsValidDay last → (years ≡ 0 → ⊥) →
    (look.year +ℤ pos years) ≤ℤ high.year → n ≡ look.year +ℤ pos years → (r : Option YearLook) →
    MatchOption r (¬ (IsValidDay (start_of_year c n))) (λ f. IsYearLook c f × (f.year ≡ n)) →
    MatchOption r ((last +ℤ pos 1) <ℤ start_of_year c (look.year +ℤ pos years)) (IsFound c (look.year +ℤ pos years) last)
found-numbered c look high years n last one two within low valid some order number None none =
    absurd (none (subst IsValidDay (sym starts) (from_to low begins, from_to before valid.1)))
  where
    starts : start_of_year c n ≡ start_of_year c (look.year +ℤ pos years)
    starts = ap (start_of_year c) number

    begins : end_of (look_year look) ≤ℤ start_of_year c (look.year +ℤ pos years)
    begins = begins-from c look (look.year +ℤ pos years) one (later look.year years some)

    before : start_of_year c (look.year +ℤ pos years) ≤ℤ last
    before = begins-before c high last (look.year +ℤ pos years) two within order
found-numbered c look high years n last one two within low valid some order number (Some f) found =
    (found.0, found.1 ∙ number, up_next f.first (start_of_year c (look.year +ℤ pos years)) last (found.0.is_start ∙ own) before)
  where
    own : start_of_year c f.year ≡ start_of_year c (look.year +ℤ pos years)
    own = ap (start_of_year c) (found.1 ∙ number)

    before : start_of_year c (look.year +ℤ pos years) ≤ℤ last
    before = begins-before c high last (look.year +ℤ pos years) two within order

-- the year itself
pub found-own : (c : CalendarList) (look high : YearLook) (years : ℕ) (last : ℤ) → IsYearLook c look → IsYearLook c high →
    InStretch (look_year high) last → years ≡ 0 → look.year ≤ℤ high.year → IsFound c (look.year +ℤ pos years) last look
found-own c look high years last one two within zero order =
    let before = begins-before c high last look.year two within order in
    (one, none_later look.year years zero, up_next look.first (start_of_year c look.year) last one.is_start before)

-- a year with a valid day can be named by fields
pub year-least : (c : CalendarList) → IsLawful c → ((u : Date) → IsValidDate c u → IsFieldYear u.year) → (year : YearLook) (day : ℤ) →
    IsYearLook c year → InStretch (look_year year) day → IsValidDay day → IsFieldYear year.year
year-least c law ranged year day is within valid =
    let own = year-on c year day is within in
    let on = own.1 in
    subst IsFieldYear own.2
    (ranged own.0 (record { date = on.date; valid = (omega (arith, signed, on.day, valid.0), omega (arith, signed, on.day, valid.1)) }))

-- the year of a last day
pub last-year : (c : CalendarList) → IsLawful c → ((u : Date) → IsValidDate c u → IsFieldYear u.year) → (high : YearLook) (n last : ℤ) →
    n ≡ last → IsValidDay last → IsYearLook c high → InStretch (look_year high) (to_z w64 (of_z w64 n)) →
    InStretch (look_year high) last × IsFieldYear high.year
last-year c law ranged high n last same valid is within = (in_high, year-least c law ranged high last is in_high valid)
  where
    in_high : InStretch (look_year high) last
    in_high = subst (λ (d : ℤ). InStretch (look_year high) d) (held-word n last same valid) within
