-- Fields that name a date outside of the valid days.
use Rattle.std.specs.Prelude.{Bool, true, false}
use Rattle.cal_errors.specs.declared.errors.DateFromFieldsError.{DateFromFieldsError}
use Rattle.cal_errors.specs.declared.errors.DateFromFieldsError.TheVariants as fault

abbrev pub is_out_of_range : DateFromFieldsError → Bool
is_out_of_range fault.Overflow = true
is_out_of_range _ = false
