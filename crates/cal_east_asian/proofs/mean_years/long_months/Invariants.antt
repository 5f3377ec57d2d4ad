use Rattle.std.proofs.Common.{◌≡◌, ◌+◌, ◌-◌, ◌*◌, ◌%◌, ◌^◌, ◌<◌, ◌≤◌}
use Rattle.cal_east_asian.specs.EastAsianYear.{months_of_year}
use Rattle.cal_east_asian.specs.MeanPlaces.{month_bits}
use Rattle.cal_east_asian.proofs.mean_years.long_months.Given as goal

abbrev pub invariant-months : goal.invariant-months
invariant-months l = record {
  within : l.month ≤ 12;
  start : l.start ≡ (l.fn.time + 45842876 * l.month) % 86400000;
  fits : l.bits < 2 ^ (13 - l.month);
  exact : l.bits ≡ month_bits l.fn.time l.month (months_of_year l.fn.place - l.month);
}

abbrev pub decreases-months : goal.decreases-months
decreases-months l = l.month
