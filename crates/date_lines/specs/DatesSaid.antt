-- What the program's values of dates say.
use Rattle.std.specs.Prelude.{ℕ, List, Result, Ok, Err}
use Rattle.std.specs.Borrow.{Bor}
use Rattle.cal_types.specs.Bag.{bag_of}
use Rattle.cal_types.specs.MonthParts.{month_parts}
use Rattle.date_lines.specs.Dates as dates
use Rattle.date_lines.specs.Reading.{Reading, read_by}
use Rattle.date_lines.specs.declared.dates.DateText.{DateText}
use Rattle.date_lines.specs.declared.dates.DateText.TheVariants.{Day, Fields}
use Rattle.date_lines.specs.declared.dates.MonthText.{MonthText}
use Rattle.date_lines.specs.declared.dates.MonthText.TheVariants.{Code, Ordinal}
use Rattle.date_lines.specs.declared.dates.Numbers.{Numbers}

abbrev pub month_said : MonthText → dates.MonthText
month_said (Code m) = dates.Code (month_parts m)
month_said (Ordinal n) = dates.Ordinal n

abbrev pub numbers_said : Numbers → dates.Numbers
numbers_said n = record { year = n.year; month = month_said n.month; day = n.day }

abbrev pub date_said : DateText → dates.DateText
date_said (Day n) = dates.Day n
date_said (Fields f) = dates.Fields (bag_of f)

abbrev pub month_view : Result (MonthText × Bor (List ℕ)) (Bor (List ℕ)) → Reading dates.MonthText
month_view r = read_by month_said r

abbrev pub numbers_view : Result (Numbers × Bor (List ℕ)) (Bor (List ℕ)) → Reading dates.Numbers
numbers_view r = read_by numbers_said r

abbrev pub date_view : Result (DateText × Bor (List ℕ)) (Bor (List ℕ)) → Reading dates.DateText
date_view r = read_by date_said r

abbrev pub date_result : Result DateText ℕ → Result dates.DateText ℕ
date_result (Ok d) = Ok (date_said d)
date_result (Err place) = Err place
