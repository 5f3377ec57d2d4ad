-- The difference of two dates, which leads back.
-- Source: ECMAScript Temporal's NonISODateUntil and NonISODateAdd.
use Rattle.std.specs.Prelude.{ℤ, Ok}
use Rattle.cal_types.specs.declared.options.Overflow.TheVariants.{Constrain}
use Rattle.cal_types.specs.declared.duration.DateDuration.{DateDuration}
use Rattle.cal_types.specs.declared.duration.DateDurationUnit.{DateDurationUnit}
use Rattle.cal_types.specs.CalendarList.{CalendarList, Date}
use Rattle.cal_types.specs.Adding.{IsSum}
use Rattle.cal_types.specs.Difference.{IsDifference}

-- d is the difference from t to u, and added to t under Constrain it gives u; the limit on years is tested on the year
-- with the shift added
pub record IsUntil (c : CalendarList) (shift : ℤ) (t u : Date) (unit : DateDurationUnit) (d : DateDuration)
    : Type 0 where
  pub difference : IsDifference c t u unit d
  pub leads_back : IsSum c shift t d Constrain (Ok u)
