use Rattle.std.proofs.Common.{◌≡◌, ◌∙◌, ◌≤ℤ◌, ◌+ℤ◌, ◌-ℤ◌, pos, sym, arith}
use mathlib.Core.Bool.{true≢false}
use Rattle.cal_days.proofs.Signed.{signed}
use Rattle.cal_types.specs.MonthParts.{month_parts}
use Rattle.cal_rrule.specs.Looks.{IsKeptOfMonth, IsNamedOfMonth, look_stretch}
use Rattle.cal_rrule.specs.Stretches.{end_of}
use Rattle.cal_rrule.proofs.MaskLemmas.{adds-as}
use Rattle.cal_rrule.proofs.MonthDayLemmas.{marks-added, marks-none}
use Rattle.cal_rrule.proofs.month_days.kept_of_month.Goals as goal

pub returns-then-not-keeps_month : goal.returns-then-not-keeps_month
returns-then-not-keeps_month c =
    let a = c.args.asked.now in
    let look = c.args.look.now in
    let s = look_stretch look in
    let first : c.new.result ≡ look.first -ℤ pos 1 = omega (arith, signed) in
    marks-none c.new-days.result (look.first -ℤ pos 1) (end_of s +ℤ pos 1)
    (IsKeptOfMonth a.rule (month_parts look.month) a.day_of_month s)
    (c.new-days.ensures.first ∙ first) c.new-days.ensures.none
    (λ n p. true≢false (sym (c.keeps_month.ensures.1 p.0) ∙ c.if-not-keeps_month.true))

pub returns : goal.returns
returns c =
    let a = c.args.asked.now in
    let look = c.args.look.now in
    let s = look_stretch look in
    let first : c.new.result ≡ look.first -ℤ pos 1 = omega (arith, signed) in
    let keeps = c.keeps_month.ensures.0 c.if-not-keeps_month.false in
    let few : (end_of s +ℤ pos 1) ≤ℤ ((look.first -ℤ pos 1) +ℤ pos 448) = omega (arith, signed, look.short) in
    marks-added c.new-days.result c.add_days.new.days (look.first -ℤ pos 1) (end_of s +ℤ pos 1)
    (IsKeptOfMonth a.rule (month_parts look.month) a.day_of_month s)
    (c.new-days.ensures.first ∙ first) c.new-days.ensures.none
    (adds-as c.new-days.result c.add_days.new.days (IsNamedOfMonth a.rule a.day_of_month s)
    (IsKeptOfMonth a.rule (month_parts look.month) a.day_of_month s) c.add_days.ensures
    (λ n. (λ p. (keeps, p), λ q. q.1))) few
