-- What belonging to the Indian calendar says.
use Rattle.std.specs.Prelude.{IsTrue}
use Rattle.cal_types.specs.CalendarList.{IsValidDate}
use Rattle.cal_types.proofs.DateTests.{is_valid_date-true}
use Rattle.cal_julian.specs.IndianList.{indian_list}
use Rattle.cal_julian.specs.IndianSystem.{indian_date, indian_belongs}
use Rattle.cal_julian.specs.declared.indian.IndianDateInner.{IndianDateInner}

-- what belongs is a date of the list
pub indian_belongs-dated : (d : IndianDateInner) → IsTrue (indian_belongs d) → IsValidDate indian_list (indian_date d)
indian_belongs-dated d h = is_valid_date-true indian_list (indian_date d) h
