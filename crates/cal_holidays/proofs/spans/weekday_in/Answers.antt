use Rattle.std.proofs.Common.{◌≡◌, ◌∙◌, ◌+ℤ◌, ◌-ℤ◌, pos, ap, sym, subst, arith, ℤ, to_z, of_z, w64}
use Rattle.cal_days.specs.Day.{IsBetween}
use Rattle.cal_days.specs.Division.{floor_mod}
use Rattle.cal_days.proofs.Signed.{signed}
use Rattle.cal_holidays.specs.NamedDays.{HasWeekday, IsInWeek}
use Rattle.cal_holidays.specs.declared.holiday_rule.SpanWeek.TheVariants.{From, UpTo}
use Rattle.cal_holidays.proofs.NthLemmas.{after_week, before_week}
use Rattle.cal_holidays.proofs.spans.weekday_in.Goals as goal

pub returns-in-From-clause-on : goal.returns-in-From-clause-on
returns-in-From-clause-on c =
    let sunday = to_z w64 (of_z w64 c.since_sunday-sunday.result) in
    let day = to_z w64 (of_z w64 c.to_i64_date.result) in
    let s : sunday ≡ c.since_sunday-sunday.result = omega (arith, signed, c.since_sunday-sunday.ensures.bound) in
    let d : day ≡ c.args.day = omega (arith, signed, c.to_i64_date.ensures.value, c.requires) in
    let is = after_week c.args.weekday sunday day c.on_or_after.result (s ∙ c.since_sunday-sunday.ensures.value) c.on_or_after.ensures in
    let held : to_z w64 (of_z w64 c.on_or_after.result) ≡ c.on_or_after.result = omega (arith, signed, is.1, d, c.requires) in
    subst (HasWeekday c.args.weekday) (sym held) is.0

pub returns-in-From-clause-within : goal.returns-in-From-clause-within
returns-in-From-clause-within c =
    let sunday = to_z w64 (of_z w64 c.since_sunday-sunday.result) in
    let day = to_z w64 (of_z w64 c.to_i64_date.result) in
    let s : sunday ≡ c.since_sunday-sunday.result = omega (arith, signed, c.since_sunday-sunday.ensures.bound) in
    let d : day ≡ c.args.day = omega (arith, signed, c.to_i64_date.ensures.value, c.requires) in
    let is = after_week c.args.weekday sunday day c.on_or_after.result (s ∙ c.since_sunday-sunday.ensures.value) c.on_or_after.ensures in
    let held : to_z w64 (of_z w64 c.on_or_after.result) ≡ c.on_or_after.result = omega (arith, signed, is.1, d, c.requires) in
    subst (λ w. IsInWeek w c.args.day (to_z w64 (of_z w64 c.on_or_after.result))) (sym c.in-From.is)
    (omega (arith, signed, is.1, d, held), omega (arith, signed, is.1, d, held))

pub returns-in-UpTo-clause-on : goal.returns-in-UpTo-clause-on
returns-in-UpTo-clause-on c =
    let sunday = to_z w64 (of_z w64 c.since_sunday-sunday.result) in
    let day = to_z w64 (of_z w64 c.to_i64_date-in-UpTo.result) in
    let s : sunday ≡ c.since_sunday-sunday.result = omega (arith, signed, c.since_sunday-sunday.ensures.bound) in
    let d : day ≡ c.args.day = omega (arith, signed, c.to_i64_date-in-UpTo.ensures.value, c.requires) in
    let is = before_week c.args.weekday sunday day c.on_or_before.result (s ∙ c.since_sunday-sunday.ensures.value) c.on_or_before.ensures in
    let held : to_z w64 (of_z w64 c.on_or_before.result) ≡ c.on_or_before.result = omega (arith, signed, is.1, d, c.requires) in
    subst (HasWeekday c.args.weekday) (sym held) is.0

pub returns-in-UpTo-clause-within : goal.returns-in-UpTo-clause-within
returns-in-UpTo-clause-within c =
    let sunday = to_z w64 (of_z w64 c.since_sunday-sunday.result) in
    let day = to_z w64 (of_z w64 c.to_i64_date-in-UpTo.result) in
    let s : sunday ≡ c.since_sunday-sunday.result = omega (arith, signed, c.since_sunday-sunday.ensures.bound) in
    let d : day ≡ c.args.day = omega (arith, signed, c.to_i64_date-in-UpTo.ensures.value, c.requires) in
    let is = before_week c.args.weekday sunday day c.on_or_before.result (s ∙ c.since_sunday-sunday.ensures.value) c.on_or_before.ensures in
    let held : to_z w64 (of_z w64 c.on_or_before.result) ≡ c.on_or_before.result = omega (arith, signed, is.1, d, c.requires) in
    subst (λ w. IsInWeek w c.args.day (to_z w64 (of_z w64 c.on_or_before.result))) (sym c.in-UpTo.is)
    (omega (arith, signed, is.1, d, held), omega (arith, signed, is.1, d, held))
