-- The Buddhist calendar: the Gregorian list, counted from ISO year -543, with the one era `be`.
use Rattle.std.specs.Prelude.{Bool, codes}
use Rattle.cal_types.specs.CalendarList.{Date}
use Rattle.cal_types.specs.CalendarSystem.{CalendarSystem}
use Rattle.cal_types.specs.Eras.{only_era_reads}
use Rattle.cal_base.specs.OffsetSystem.{offset_system, offset_date, kept_belongs}
use Rattle.cal_gregory.specs.BuddhistEra.{buddhist_offset, buddhist_era_year}
use Rattle.cal_gregory.specs.declared.buddhist.BuddhistDateInner.{BuddhistDateInner}

abbrev pub buddhist_system : CalendarSystem
buddhist_system = offset_system buddhist_offset (only_era_reads (codes "be")) (λ t. buddhist_era_year t.year)

-- the date that an inner date stands for
abbrev pub buddhist_date : BuddhistDateInner → Date
buddhist_date d = offset_date buddhist_offset d.0.parts

-- it is a date of the list, and its day number is in the valid range
abbrev pub buddhist_belongs : BuddhistDateInner → Bool
buddhist_belongs d = kept_belongs d.0.parts
