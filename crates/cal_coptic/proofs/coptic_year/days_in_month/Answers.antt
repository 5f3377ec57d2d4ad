use Rattle.std.proofs.Common.{◌≡◌, ◌∙◌, ℕ, Bool, ℤ, if◌then◌else◌, refl, sym, ap, arith}
use Rattle.cal_days.specs.Coptic.{coptic_leap}
use Rattle.cal_types.specs.CalendarList.{month_length}
use Rattle.cal_base.specs.laws.GregorianMonths.{leap_is}
use Rattle.cal_coptic.specs.CopticList.{coptic_month_length, coptic_list}
use Rattle.cal_coptic.specs.laws.CopticLaws.{month_length-coptic, coptic_month_length-twelve}
use Rattle.cal_coptic.proofs.coptic_year.days_in_month.Goals as goal

pub returns-then-month-le12 : goal.returns-then-month-le12
returns-then-month-le12 c =
    let number = c.args.year.number in
    sym (month_length-coptic number c.args.month ∙ coptic_month_length-twelve (coptic_leap number) c.args.month c.requires.0 (omega (arith, c.if-month-le12.true)))

-- the epagomenal days, where the test of a leap year is known
last_month : (number : ℤ) (leap : Bool) (month : ℕ) → month ≡ 13 → coptic_leap number ≡ leap → month_length coptic_list number month ≡ (if leap then 6 else 5)
last_month number leap month last e =
    month_length-coptic number month ∙ (ap (coptic_month_length (coptic_leap number)) last ∙ ap (λ (b : Bool). if b then 6 else 5) e)

pub returns-then-is_leap : goal.returns-then-is_leap
returns-then-is_leap c =
    let number = c.args.year.number in
    let leap = leap_is coptic_leap c.is_leap.result number number refl c.is_leap.ensures in
    sym (last_month number _ c.args.month (omega (arith, c.if-month-le12.false, c.requires)) (leap ∙ c.if-is_leap.true))

pub returns-else-is_leap : goal.returns-else-is_leap
returns-else-is_leap c =
    let number = c.args.year.number in
    let leap = leap_is coptic_leap c.is_leap.result number number refl c.is_leap.ensures in
    sym (last_month number _ c.args.month (omega (arith, c.if-month-le12.false, c.requires)) (leap ∙ c.if-is_leap.false))
