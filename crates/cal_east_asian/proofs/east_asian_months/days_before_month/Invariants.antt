use Rattle.std.proofs.Common.{◌≡◌, ◌-◌, ◌≤◌, ◌*◌}
use Rattle.cal_east_asian.specs.EastAsianPlaces.{days_of_months}
use Rattle.cal_east_asian.proofs.east_asian_months.days_before_month.Given as goal

-- the days of the months so far
abbrev pub invariant-months : goal.invariant-months
invariant-months l =
    record {
      first : 1 ≤ l.before;
      last : l.before ≤ l.fn.place;
      days : l.days ≡ days_of_months l.fn.long_months (l.before - 1);
      bound : l.days ≤ 30 * (l.before - 1);
    }

abbrev pub decreases-months : goal.decreases-months
decreases-months l = l.fn.place - l.before
