-- Which error of a bag of fields stands for an error of its parts.
use Rattle.cal_errors.specs.declared.errors.MonthError.{MonthError}
use Rattle.cal_errors.specs.declared.errors.MonthError.TheVariants.{NotInCalendar, NotInYear}
use Rattle.cal_errors.specs.declared.errors.EcmaReferenceYearError.{EcmaReferenceYearError}
use Rattle.cal_errors.specs.declared.errors.EcmaReferenceYearError.TheVariants.{Unimplemented, UseRegularIfConstrain}
use Rattle.cal_errors.specs.declared.errors.EcmaReferenceYearError.TheVariants as reference_year
use Rattle.cal_errors.specs.declared.errors.DateFromFieldsError.{DateFromFieldsError}
use Rattle.cal_errors.specs.declared.errors.DateFromFieldsError.TheVariants.{NotEnoughFields, MonthNotInCalendar, MonthNotInYear}

-- the error of fields whose month isn't there
abbrev pub fields_error_of_month : MonthError → DateFromFieldsError
fields_error_of_month NotInCalendar = MonthNotInCalendar
fields_error_of_month NotInYear = MonthNotInYear

-- the error of fields without a year whose month and day have no reference year
abbrev pub fields_error_of_reference_year : EcmaReferenceYearError → DateFromFieldsError
fields_error_of_reference_year Unimplemented = NotEnoughFields
fields_error_of_reference_year reference_year.MonthNotInCalendar = MonthNotInCalendar
fields_error_of_reference_year UseRegularIfConstrain = MonthNotInYear
