use Rattle.std.proofs.Common.{◌≡◌, ℕ, ◌+◌, ◌-◌, ◌/◌, ◌%◌, ◌^◌, ◌<◌, ◌≤◌, pos}
use Rattle.cal_hijri.specs.MonthStarts.{HaveMonthLengths, days_between}
use Rattle.cal_hijri.proofs.hijri_year.long_months.Given as goal

-- the months from the place on are months of a year, and have these bits
abbrev pub invariant-months : goal.invariant-months
invariant-months l =
    record {
      last : l.month ≤ 12;
      small : l.long_months < 2 ^ (12 - l.month);
      lengths : HaveMonthLengths l.fn.starts l.month;
      bits : (i : ℕ) → l.month + 1 ≤ i → i ≤ 12 → pos (29 + l.long_months / 2 ^ (i - l.month - 1) % 2) ≡ days_between l.fn.starts i;
    }

abbrev pub decreases-months : goal.decreases-months
decreases-months l = l.month
