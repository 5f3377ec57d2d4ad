-- The Ethiopian calendar in one of its era styles.
use Rattle.std.specs.Prelude.{Bool, ℕ, List, codes, ◌+ℤ◌}
use Rattle.cal_errors.specs.declared.algorithm.CalendarAlgorithm.{CalendarAlgorithm}
use Rattle.cal_errors.specs.declared.algorithm.CalendarAlgorithm.TheVariants.{Ethioaa, Ethiopic}
use Rattle.cal_types.specs.declared.month_info.LeapStatus.TheVariants.{Normal}
use Rattle.cal_types.specs.declared.year.YearInfo.TheVariants.{Era}
use Rattle.cal_days.specs.Coptic.{coptic_leap}
use Rattle.cal_types.specs.CalendarList.{Date, is_valid_date}
use Rattle.cal_types.specs.CalendarSystem.{CalendarSystem}
use Rattle.cal_base.specs.OwnYears.{own_system}
use Rattle.cal_base.specs.KeptDates.{kept_date as in_numbered_years}
use Rattle.cal_types.specs.Renumbered.{counted_date}
use Rattle.cal_coptic.specs.EthiopianEra.{ethiopian_era_year}
use Rattle.cal_coptic.specs.EthiopianList.{coptic_offset, ethiopian_list, ethiopian_years}
use Rattle.cal_coptic.specs.EthiopianNames.{ethiopian_names}
use Rattle.cal_coptic.specs.declared.ethiopian.EthiopianDateInner.{EthiopianDateInner}
use Rattle.cal_coptic.specs.declared.ethiopian.EthiopianEraStyle.{EthiopianEraStyle}
use Rattle.cal_coptic.specs.declared.ethiopian.EthiopianEraStyle.TheVariants.{AmeteMihret, AmeteAlem}

-- no month is a leap month; adding tests its limit on the Coptic year
abbrev pub ethiopian_system : EthiopianEraStyle → CalendarSystem
ethiopian_system style =
    own_system (ethiopian_years (coptic_offset style)) (ethiopian_names style)
    (λ y. coptic_leap (y +ℤ coptic_offset style)) (λ y. Era (ethiopian_era_year style y)) (λ _ _. Normal)
    (λ _ _ month. month)

-- the date that an inner date stands for, in Coptic years
abbrev pub kept_date : EthiopianDateInner → Date
kept_date d = in_numbered_years d.0.parts

-- the same, in extended years
abbrev pub ethiopian_date : EthiopianEraStyle → EthiopianDateInner → Date
ethiopian_date style d = counted_date (coptic_offset style) (kept_date d)

-- it is a date of the list, and its day number is in the valid range
abbrev pub ethiopian_belongs : EthiopianEraStyle → EthiopianDateInner → Bool
ethiopian_belongs style d = is_valid_date (ethiopian_list (coptic_offset style)) (ethiopian_date style d)

-- each style has a name and an algorithm of its own
abbrev pub ethiopian_name : EthiopianEraStyle → List ℕ
ethiopian_name AmeteMihret = codes "Ethiopian"
ethiopian_name AmeteAlem = codes "Ethiopian (Amete Alem)"

abbrev pub ethiopian_algorithm : EthiopianEraStyle → CalendarAlgorithm
ethiopian_algorithm AmeteMihret = Ethiopic
ethiopian_algorithm AmeteAlem = Ethioaa
