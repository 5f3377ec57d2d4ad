-- The Ethiopian calendar as a list of years: those of the Coptic calendar, counted from another year in each era style.
-- Source: Reingold and Dershowitz, Calendrical Calculations, chapter 4; the era codes of CLDR (UTS 35).
use Rattle.std.specs.Prelude.{Bool, true, false, ℤ, pos, neg_ℤ, ◌+ℤ◌, ◌-ℤ◌}
use Rattle.cal_types.specs.CalendarList.{CalendarList}
use Rattle.cal_types.specs.Renumbered.{renumbered}
use Rattle.cal_arith.specs.Given.{CalendarYears}
use Rattle.cal_coptic.specs.CopticList.{coptic_list, coptic_year}
use Rattle.cal_base.specs.declared.numbered_year.NumberedYear.{NumberedYear}
use Rattle.cal_coptic.specs.declared.ethiopian.EthiopianEraStyle.{EthiopianEraStyle}
use Rattle.cal_coptic.specs.declared.ethiopian.EthiopianEraStyle.TheVariants.{AmeteMihret, AmeteAlem}

-- the Coptic year less the extended year: Coptic year 1 is the year 277 of Amete Mihret,
-- and the year 5777 of Amete Alem
abbrev pub coptic_offset : EthiopianEraStyle → ℤ
coptic_offset AmeteMihret = neg_ℤ (pos 276)
coptic_offset AmeteAlem = neg_ℤ (pos 5776)

-- whether two styles are the same
abbrev pub is_same_style : EthiopianEraStyle → EthiopianEraStyle → Bool
is_same_style AmeteMihret AmeteMihret = true
is_same_style AmeteMihret AmeteAlem = false
is_same_style AmeteAlem AmeteMihret = false
is_same_style AmeteAlem AmeteAlem = true

-- the list whose extended year y is the Coptic year y + offset
abbrev pub ethiopian_list : ℤ → CalendarList
ethiopian_list offset = renumbered offset coptic_list

-- its years, which keep the Coptic year
abbrev pub ethiopian_years : ℤ → CalendarYears NumberedYear
ethiopian_years offset = record {
  list = ethiopian_list offset;
  year_of = λ y. coptic_year (y +ℤ offset);
  extended = λ year. year.number -ℤ offset;
  offset = offset;
}
