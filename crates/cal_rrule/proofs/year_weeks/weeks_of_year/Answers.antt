use Rattle.std.proofs.Common.{◌≡◌, ◌+ℤ◌, ℤ, pos, subst, sym, arith, to_z, of_z, w64}
use Rattle.cal_days.proofs.Signed.{signed}
use Rattle.cal_rrule.specs.Looks.{look_year}
use Rattle.cal_rrule.specs.Stretches.{end_of}
use Rattle.cal_rrule.specs.YearWeeks.{AreWeeksOf}
use Rattle.cal_rrule.proofs.YearWeekLemmas.{weeks-of}
use Rattle.cal_rrule.proofs.year_weeks.weeks_of_year.Goals as goal

pub weeks_until-count-requires-clause-few : goal.weeks_until-count-requires-clause-few
weeks_until-count-requires-clause-few c =
    let year = c.args.year.now in
    let fourth : c.new.result ≡ year.first +ℤ pos 3 = omega (arith, signed, year.near) in
    let week = c.week_of-first.ensures in
    omega (arith, signed, fourth, week.1, week.2, year.near, year.short, c.end.ensures)

pub returns-clause-weeks : goal.returns-clause-weeks
returns-clause-weeks c = λ list is.
    let year = c.args.year.now in
    let fourth : c.new.result ≡ year.first +ℤ pos 3 = omega (arith, signed, year.near) in
    let week = c.week_of-first.ensures in
    let first : c.new-2.result ≡ c.week_of-first.result = omega (arith, signed, fourth, week.1, week.2, year.near) in
    let end : c.new-3.result ≡ end_of (look_year year) = omega (arith, signed, year.near, year.short, c.end.ensures) in
    let own : to_z w64 (of_z w64 c.week_of-first.result) ≡ c.week_of-first.result =
    omega (arith, signed, fourth, week.1, week.2, year.near) in
    subst (λ (f : ℤ). AreWeeksOf list c.args.week_start year.year f c.weeks_until-count.result) (sym own)
    (weeks-of list c.args.week_start year c.week_of-first.result c.weeks_until-count.result is (rw fourth at week)
    (rw (first, end) at c.weeks_until-count.ensures.exact))

pub returns-clause-low : goal.returns-clause-low
returns-clause-low c =
    let year = c.args.year.now in
    let fourth : c.new.result ≡ year.first +ℤ pos 3 = omega (arith, signed, year.near) in
    omega (arith, signed, fourth, c.week_of-first.ensures.2)

pub returns-clause-high : goal.returns-clause-high
returns-clause-high c =
    let year = c.args.year.now in
    let fourth : c.new.result ≡ year.first +ℤ pos 3 = omega (arith, signed, year.near) in
    omega (arith, signed, fourth, c.week_of-first.ensures.1)
