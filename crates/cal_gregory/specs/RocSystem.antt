-- The calendar of the Republic of China: the Gregorian list, counted from ISO year 1911,
-- with the eras `roc` and `broc`.
use Rattle.std.specs.Prelude.{Bool}
use Rattle.cal_types.specs.CalendarList.{Date}
use Rattle.cal_types.specs.CalendarSystem.{CalendarSystem}
use Rattle.cal_base.specs.OffsetSystem.{offset_system, offset_date, kept_belongs}
use Rattle.cal_gregory.specs.RocEra.{roc_offset, roc_era_year, roc_reads}
use Rattle.cal_gregory.specs.declared.roc.RocDateInner.{RocDateInner}

abbrev pub roc_system : CalendarSystem
roc_system = offset_system roc_offset roc_reads (λ t. roc_era_year t.year)

-- the date that an inner date stands for
abbrev pub roc_date : RocDateInner → Date
roc_date d = offset_date roc_offset d.0.parts

-- it is a date of the list, and its day number is in the valid range
abbrev pub roc_belongs : RocDateInner → Bool
roc_belongs d = kept_belongs d.0.parts
