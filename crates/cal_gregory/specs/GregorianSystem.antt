-- The Gregorian calendar: the Gregorian list with the eras `ce` and `bce`.
use Rattle.std.specs.Prelude.{Bool, pos}
use Rattle.cal_types.specs.CalendarList.{Date}
use Rattle.cal_types.specs.CalendarSystem.{CalendarSystem}
use Rattle.cal_types.specs.Eras.{common_era_reads}
use Rattle.cal_base.specs.OffsetSystem.{offset_system, offset_date, kept_belongs}
use Rattle.cal_gregory.specs.CommonEra.{common_era_year}
use Rattle.cal_gregory.specs.declared.gregorian.GregorianDateInner.{GregorianDateInner}

-- extended years are ISO years
abbrev pub gregorian_system : CalendarSystem
gregorian_system = offset_system (pos 0) common_era_reads (λ t. common_era_year t.year)

-- the date that an inner date stands for
abbrev pub gregorian_date : GregorianDateInner → Date
gregorian_date d = offset_date (pos 0) d.0.parts

-- it is a date of the list, and its day number is in the valid range
abbrev pub gregorian_belongs : GregorianDateInner → Bool
gregorian_belongs d = kept_belongs d.0.parts
