use Rattle.std.proofs.Common.{◌≡◌, ◌+◌, ◌-◌, ◌≤◌, length, take, get_or, ap, arith, pos, ◌+ℤ◌, to_z, of_z, w32}
use Rattle.std.proofs.lemmas.Grind.{common_steps}
use Rattle.std.proofs.lemmas.List.{take_all}
use Rattle.std.proofs.lemmas.Option.{slice_get-get_or}
use Rattle.cal_days.specs.Day.{IsRuleYear}
use Rattle.cal_days.proofs.Signed.{signed, signed_casts}
use Rattle.cal_listed.specs.YearList.{days_in, days_in_years}
use Rattle.cal_listed.proofs.ListedLemmas.{month_count-short, is_listed, day_number-listed, day_number-in_years, listed-date}
use Rattle.cal_listed.proofs.listed_years.ListedYears.date_on.Goals as goal
use Rattle.cal_listed.proofs.listed_years.ListedYears.date_on.Goals.{then-day-self-via-then-day-self, then-day-self-via-else-day-self+then-day-self-2}

pub returns-then-day-self : goal.returns-then-day-self
returns-then-day-self c k list t listed on =
    let l = c.args.self.now in
    let within = day_number-in_years k l list t listed on.date in
    let whole = ap days_in_years (take_all (length l.years.now) l.years.now (omega arith)) in
    elim c.then-day-self.branch [
      | then-day-self-via-then-day-self w ↦ omega (arith, signed, within, on.day, w.if-day-self.true)
      | then-day-self-via-else-day-self+then-day-self-2 w ↦
          omega (arith, signed, within, on.day, whole, c.days_before_year-all.ensures.value, c.days_before_year-all.ensures.bound, w.from.ensures, w.if-day-self-2.true)
    ]

pub days_in-days-requires : goal.days_in-days-requires
days_in-days-requires c =
    month_count-short c.args.self.now.years.now c.loop-index.index c.index-self-index.result c.args.self.now.short c.loop-index-test.true

pub returns-then-left-days : goal.returns-then-left-days
returns-then-left-days c k list =
    let l = c.args.self.now in
    let index = c.loop-index.index in
    let months = get_or l.years.now index c.index-self-index.result in
    let there = slice_get-get_or l.years.now index c.index-self-index.result c.loop-index-test.true in
    let few : length l.years.now ≤ 10000 = l.few in
    let rule_year : IsRuleYear l.first_year = l.rule_year in
    let year : to_z w32 (of_z w32 (to_z w32 (of_z w32 l.first_year) +ℤ to_z w32 index)) ≡ l.first_year +ℤ pos index = omega (arith, signed_casts) in
    let y = to_z w32 (of_z w32 (to_z w32 (of_z w32 l.first_year) +ℤ to_z w32 index)) in
    let place = c.place_and_day-month.result.0 in
    let day = c.place_and_day-month.result.1 in
    let e = c.place_and_day-month.ensures in
    let within : days_in (take (place - 1) months.now) + day ≤ days_in (take place months.now) = omega (arith, e.day, e.within, e.value) in (
      is_listed k l list index months there y year,
      record {
        date = listed-date k l list index months there y year place day e.place.0 e.place.1 e.day within;
        day = omega (arith, signed, day_number-listed k l list index months there y year place day, e.value, c.loop-index.invariant, c.if-day-self.false, c.if-day-self-2.false, c.from.ensures, c.days_before_year-all.ensures.bound);
      },
    )

pub place_and_day-month-requires-clause-few : goal.place_and_day-month-requires-clause-few
place_and_day-month-requires-clause-few c = grind (arith, common_steps)

pub loop-index-preserved : goal.loop-index-preserved
loop-index-preserved c = grind (arith, common_steps)
