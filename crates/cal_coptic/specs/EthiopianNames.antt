-- What the eras of the Ethiopian calendar read as, and its reference years.
-- Source: the era codes of CLDR (UTS 35).
use Rattle.std.specs.Prelude.{ℕ, List, Option, None, codes, ℤ, pos, ◌-ℤ◌}
use Rattle.cal_types.specs.Eras.{only_era_reads}
use Rattle.cal_types.specs.PlainMonths.{is_plain_month}
use Rattle.cal_types.specs.YearNames.{YearNames, is_code, year_in_era, reference_of_known}
use Rattle.cal_coptic.specs.CopticNames.{coptic_reference_year}
use Rattle.cal_coptic.specs.EthiopianList.{coptic_offset}
use Rattle.cal_coptic.specs.declared.ethiopian.EthiopianEraStyle.{EthiopianEraStyle}
use Rattle.cal_coptic.specs.declared.ethiopian.EthiopianEraStyle.TheVariants.{AmeteMihret, AmeteAlem}

-- the Incarnation Era, and the Era of the World, whose year 5501 is the first of the Incarnation Era
abbrev pub incarnation_reads : List ℕ → ℤ → Option ℤ
incarnation_reads era n =
    year_in_era (is_code era (codes "am")) n
    (year_in_era (is_code era (codes "aa")) (n -ℤ pos 5500) None)

-- Amete Alem has the Era of the World alone, in which years are numbered as its extended years
abbrev pub ethiopian_reads : EthiopianEraStyle → List ℕ → ℤ → Option ℤ
ethiopian_reads AmeteMihret era n = incarnation_reads era n
ethiopian_reads AmeteAlem era n = only_era_reads (codes "aa") era n

-- the reference year of a day is that of the Coptic calendar
abbrev pub ethiopian_names : EthiopianEraStyle → YearNames
ethiopian_names style =
    record {
      reads = ethiopian_reads style;
      reference = λ m d.
          reference_of_known (is_plain_month 13 m) (coptic_reference_year m.number d -ℤ coptic_offset style);
    }
