-- The ISO calendar: the Gregorian list with one era, whose code is `default`.
use Rattle.std.specs.Prelude.{Bool, codes, pos}
use Rattle.cal_types.specs.CalendarList.{CalendarList, Date}
use Rattle.cal_types.specs.CalendarSystem.{CalendarSystem}
use Rattle.cal_types.specs.Eras.{only_era_reads}
use Rattle.cal_base.specs.OffsetList.{offset_list}
use Rattle.cal_base.specs.OffsetSystem.{offset_system, offset_date, kept_belongs}
use Rattle.cal_base.specs.declared.iso.IsoDateInner.{IsoDateInner}
use Rattle.cal_base.specs.IsoEra.{iso_era_year}

-- extended years are ISO years
abbrev pub iso_list : CalendarList
iso_list = offset_list (pos 0)

abbrev pub iso_system : CalendarSystem
iso_system = offset_system (pos 0) (only_era_reads (codes "default")) iso_era_year

-- the date that an inner date stands for
abbrev pub iso_date : IsoDateInner → Date
iso_date d = offset_date (pos 0) d.0.parts

-- it is a date of the list, and its day number is in the valid range
abbrev pub iso_belongs : IsoDateInner → Bool
iso_belongs d = kept_belongs d.0.parts
