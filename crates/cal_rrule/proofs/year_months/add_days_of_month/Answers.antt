use Rattle.std.proofs.Common.{◌≡◌, false, true, rules, arith}
use Rattle.cal_days.proofs.Signed.{signed}
use Rattle.cal_rrule.specs.Looks.{look_stretch}
use Rattle.cal_rrule.specs.Periods.{NoDays, NoMonthDays}
use Rattle.cal_rrule.specs.Stretches.{end_of}
use Rattle.cal_rrule.proofs.AskedLemmas.{there-by}
use Rattle.cal_rrule.proofs.MaskLemmas.{adds-run}
use Rattle.cal_rrule.proofs.YearLookLemmas.{year-by_days, year-by_month, year-by_start}
use Rattle.cal_rrule.proofs.year_months.add_days_of_month.Goals as goal

pub returns-then-not-asked : goal.returns-then-not-asked
returns-then-not-asked c =
    let a = c.args.asked.now in
    let fails : a.missing.month_days ≡ false = search rules in
    let first : c.new-first.result ≡ c.args.look.now.first = omega (arith, signed) in
    let days : c.from-length.result ≡ c.args.look.now.days = search rules in
    let adds = rw (c.month_days.ensures, c.skip-skip.ensures, first, days) at c.add_month_days.ensures in
    year-by_days a.rule a.day_of_month (look_stretch c.args.look.now) c.args.days.now c.add_month_days.new.days
    (there-by (NoMonthDays a.rule) a.missing.month_days c.requires.no_month_days fails) adds

pub returns-then-days : goal.returns-then-days
returns-then-days c =
    let a = c.args.asked.now in
    let lacks : a.missing.month_days ≡ true = search rules in
    let first : c.new-first.result ≡ c.args.look.now.first = omega (arith, signed) in
    let days : c.from-length.result ≡ c.args.look.now.days = search rules in
    let day : c.from.result ≡ a.day_of_month = search rules in
    let adds = rw (c.skip-skip.ensures, first, days, day) at c.add_named.ensures in
    year-by_start a.rule a.day_of_month (look_stretch c.args.look.now) c.args.days.now c.add_named.new.days
    (c.requires.no_month_days.0 lacks) ((c.days.ensures a.rule c.requires).0 c.if-days.true) adds

pub returns-else-days : goal.returns-else-days
returns-else-days c =
    let a = c.args.asked.now in
    let lacks : a.missing.month_days ≡ true = search rules in
    let first : c.new-first.result ≡ c.args.look.now.first = omega (arith, signed) in
    let to : c.new.result ≡ end_of (look_stretch c.args.look.now) = omega (arith, signed, c.end.ensures) in
    let adds = rw (first, to) at (adds-run c.args.days.now c.insert_days.new.self c.new-first.result c.new.result c.insert_days.ensures.first c.insert_days.ensures.days) in
    year-by_month a.rule a.day_of_month (look_stretch c.args.look.now) c.args.days.now c.insert_days.new.self
    (c.requires.no_month_days.0 lacks)
    (there-by (NoDays a.rule) c.days.result (c.days.ensures a.rule c.requires) c.if-days.false) adds
