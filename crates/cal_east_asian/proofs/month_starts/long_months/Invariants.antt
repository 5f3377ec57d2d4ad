use Rattle.std.proofs.Common.{◌≡◌, ℕ, ◌+◌, ◌-◌, ◌/◌, ◌%◌, ◌^◌, ◌<◌, ◌≤◌, pos}
use Rattle.cal_east_asian.specs.MonthStarts.{HaveMonthLengths, days_between}
use Rattle.cal_east_asian.proofs.month_starts.long_months.Given as goal

-- the months after the place are months of a year, and have these bits
abbrev pub invariant-months : goal.invariant-months
invariant-months l =
    record {
      last : l.month ≤ l.months;
      small : l.long_months < 2 ^ (l.months - l.month);
      lengths : HaveMonthLengths l.fn.starts l.month l.months;
      bits : (i : ℕ) → l.month + 1 ≤ i → i ≤ l.months → pos (29 + l.long_months / 2 ^ (i - l.month - 1) % 2) ≡ days_between l.fn.starts i;
    }

abbrev pub decreases-months : goal.decreases-months
decreases-months l = l.month
