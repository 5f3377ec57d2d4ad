use Rattle.std.proofs.Common.{◌≡◌, ◌-◌, ◌≤◌, ◌*◌}
use Rattle.cal_hijri.specs.HijriMonths.{prior_days}
use Rattle.cal_hijri.proofs.hijri_year.days_before_month.Given as goal

-- the days of the months so far
abbrev pub invariant-months : goal.invariant-months
invariant-months l =
    record {
      first : 1 ≤ l.place;
      last : l.place ≤ l.fn.month;
      days : l.days ≡ prior_days l.fn.long_months l.place;
      most : l.days ≤ 30 * (l.place - 1);
    }

abbrev pub decreases-months : goal.decreases-months
decreases-months l = l.fn.month - l.place
