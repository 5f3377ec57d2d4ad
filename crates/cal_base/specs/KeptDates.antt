-- Dates as they are kept, in years that are their numbers.
use Rattle.cal_types.specs.CalendarList.{Date, date}
use Rattle.cal_arith.specs.declared.dates.Ymd.{Ymd}
use Rattle.cal_base.specs.declared.numbered_year.NumberedYear.{NumberedYear}

-- the date in the years of those numbers
abbrev pub kept_date : Ymd NumberedYear → Date
kept_date d = date d.year.number d.month d.day
