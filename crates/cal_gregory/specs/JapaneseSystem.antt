-- The Japanese calendar: the Gregorian list with the eras of Japan.
use Rattle.std.specs.Prelude.{Bool, pos}
use Rattle.cal_types.specs.CalendarList.{Date}
use Rattle.cal_types.specs.CalendarSystem.{CalendarSystem}
use Rattle.cal_base.specs.OffsetSystem.{offset_system, offset_date, kept_belongs}
use Rattle.cal_gregory.specs.JapaneseEraList.{japanese_era_year, japanese_reads}
use Rattle.cal_gregory.specs.JapaneseEras.{listed_eras, no_later_era}
use Rattle.cal_gregory.specs.declared.japanese.Japanese.{Japanese}
use Rattle.cal_gregory.specs.declared.japanese.JapaneseDateInner.{JapaneseDateInner}

-- the calendar with the eras up to Reiwa
abbrev pub japanese_up_to_reiwa : Japanese
japanese_up_to_reiwa = record { eras = no_later_era }

-- extended years are ISO years
abbrev pub japanese_system : Japanese → CalendarSystem
japanese_system s = offset_system (pos 0) (japanese_reads (listed_eras s.eras)) (japanese_era_year (listed_eras s.eras))

-- the date that an inner date stands for
abbrev pub japanese_date : JapaneseDateInner → Date
japanese_date d = offset_date (pos 0) d.0.parts

-- it is a date of the list, and its day number is in the valid range
abbrev pub japanese_belongs : JapaneseDateInner → Bool
japanese_belongs d = kept_belongs d.0.parts
