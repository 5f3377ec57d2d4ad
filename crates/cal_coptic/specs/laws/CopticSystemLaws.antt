-- What belonging to the Coptic calendar says.
use Rattle.std.specs.Prelude.{IsTrue}
use Rattle.cal_types.specs.CalendarList.{IsValidDate}
use Rattle.cal_types.proofs.DateTests.{is_valid_date-true}
use Rattle.cal_coptic.specs.CopticList.{coptic_list}
use Rattle.cal_coptic.specs.CopticSystem.{coptic_date, coptic_belongs}
use Rattle.cal_coptic.specs.declared.coptic.CopticDateInner.{CopticDateInner}

-- what belongs is a date of the list
pub coptic_belongs-dated : (d : CopticDateInner) → IsTrue (coptic_belongs d) → IsValidDate coptic_list (coptic_date d)
coptic_belongs-dated d h = is_valid_date-true coptic_list (coptic_date d) h
