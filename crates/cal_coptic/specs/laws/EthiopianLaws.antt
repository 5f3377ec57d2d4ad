-- The bounds of the Ethiopian years, what their eras read as, and their names.
use Rattle.std.proofs.Common.{◌≡◌, ◌↔◌, ℕ, Bool, true, false, List, None, Some, if◌then◌else◌, IsTrue, refl, sym, ap, subst, ◌∙◌, arith, ℤ, pos, ◌+ℤ◌, ◌-ℤ◌}
use Rattle.std.specs.Prelude.{codes, int_lt}
use Rattle.std.specs.Cmp.{IsEquivalence}
use Rattle.cal_days.specs.Day.{IsConstructorYear, IsNearEra, IsFieldYear, IsRuleYear, IsShiftedYear}
use Rattle.cal_days.specs.Coptic.{coptic_start, coptic_year_length}
use Rattle.cal_days.proofs.Signed.{signed}
use Rattle.cal_types.specs.Year.{extended_year_of}
use Rattle.cal_types.specs.declared.year.EraYear.{EraYear}
use Rattle.cal_types.specs.declared.year.YearInfo.TheVariants.{Era}
use Rattle.cal_types.specs.PlainMonths.{HasPlainMonths}
use Rattle.cal_types.specs.CalendarList.{date, start_of_year, year_length, IsLawful, IsOn}
use Rattle.cal_types.specs.RenumberedBounds.{IsShift}
use Rattle.cal_types.specs.YearNames.{is_code}
use Rattle.cal_types.proofs.EraLemmas.{only_era_reads-in_range, only_era_reads-near}
use Rattle.cal_types.proofs.PlainMonthLemmas.{plain-lawful, renumbered-plain}
use Rattle.cal_types.proofs.RenumberedLemmas.{start_of_year-renumbered, year_length-renumbered}
use Rattle.cal_types.proofs.YearNameLemmas.{year_in_era-some, no_era-some}
use Rattle.cal_arith.specs.Given.{IsGiven}
use Rattle.cal_base.specs.OwnYears.{IsSharedYear}
use Rattle.cal_coptic.specs.CopticList.{coptic_list, coptic_year}
use Rattle.cal_coptic.specs.laws.CopticLaws.{coptic_list-plain, start_of_year-coptic, year_length-coptic}
use Rattle.cal_types.proofs.CountedDateLemmas.{shifted_year, counted-on}
use Rattle.cal_coptic.specs.EthiopianEra.{ethiopian_era_year}
use Rattle.cal_coptic.specs.EthiopianList.{coptic_offset, is_same_style, ethiopian_list, ethiopian_years}
use Rattle.cal_coptic.specs.EthiopianNames.{incarnation_reads, ethiopian_reads}
use Rattle.cal_base.specs.declared.numbered_year.NumberedYear.{NumberedYear}
use Rattle.cal_coptic.specs.declared.ethiopian.Ethiopian.{Ethiopian}
use Rattle.cal_coptic.specs.declared.ethiopian.EthiopianEraStyle.{EthiopianEraStyle}
use Rattle.cal_coptic.specs.declared.ethiopian.EthiopianEraStyle.TheVariants.{AmeteMihret, AmeteAlem}

-- the years of both styles lie near the Coptic ones
pub coptic_offset-small : (style : EthiopianEraStyle) → IsShift (coptic_offset style)
coptic_offset-small AmeteMihret = (omega (arith, signed), omega (arith, signed))
coptic_offset-small AmeteAlem = (omega (arith, signed), omega (arith, signed))

-- each year has the plain months 1 to 13
pub ethiopian_list-plain : (offset : ℤ) → HasPlainMonths 13 (ethiopian_list offset)
ethiopian_list-plain offset = renumbered-plain 13 coptic_list coptic_list-plain offset

pub ethiopian_list-lawful : (offset : ℤ) → IsLawful (ethiopian_list offset)
ethiopian_list-lawful offset = plain-lawful 13 (ethiopian_list offset) (ethiopian_list-plain offset)

-- a year starts where the Coptic one does
first_days : (offset number : ℤ) → start_of_year (ethiopian_list offset) (number -ℤ offset) ≡ start_of_year coptic_list number
first_days offset number = start_of_year-renumbered offset coptic_list (number -ℤ offset) ∙ ap (start_of_year coptic_list) (shifted_year offset number)

pub start_of_year-ethiopian : (offset number : ℤ) → start_of_year (ethiopian_list offset) (number -ℤ offset) ≡ coptic_start number
start_of_year-ethiopian offset number = first_days offset number ∙ start_of_year-coptic number

-- and is as long
pub year_days-ethiopian : (offset number : ℤ) → year_length (ethiopian_list offset) (number -ℤ offset) ≡ year_length coptic_list number
year_days-ethiopian offset number = year_length-renumbered offset coptic_list (number -ℤ offset) ∙ ap (year_length coptic_list) (shifted_year offset number)

pub year_length-ethiopian : (offset number : ℤ) → year_length (ethiopian_list offset) (number -ℤ offset) ≡ coptic_year_length number
year_length-ethiopian offset number = year_days-ethiopian offset number ∙ year_length-coptic number

-- a day of a year has the same month and day of the month
pub day_of_year-ethiopian : (offset number : ℤ) (p month day : ℕ) → IsOn coptic_list (start_of_year coptic_list number +ℤ pos p) (date number month day) → IsOn (ethiopian_list offset) (start_of_year (ethiopian_list offset) (number -ℤ offset) +ℤ pos p) (date (number -ℤ offset) month day)
day_of_year-ethiopian offset number p month day h =
    subst (λ (z : ℤ). IsOn (ethiopian_list offset) (z +ℤ pos p) (date (number -ℤ offset) month day)) (sym (first_days offset number))
    (counted-on offset coptic_list (start_of_year coptic_list number +ℤ pos p) (date number month day) h)

-- a year comes back from its extended year
pub coptic_year-extended : (offset : ℤ) (year : NumberedYear) → (ethiopian_years offset).year_of ((ethiopian_years offset).extended year) ≡ year
coptic_year-extended offset year = ap coptic_year (shifted_year offset year.number)

pub is_year-of_both : (offset : ℤ) (year : NumberedYear) → IsTrue true ↔ ((ethiopian_years offset).year_of ((ethiopian_years offset).extended year) ≡ year)
is_year-of_both offset year = (λ _. coptic_year-extended offset year, λ _. refl)

-- the Coptic year of a given year
pub given-coptic : (style : EthiopianEraStyle) (year : NumberedYear) → IsGiven (ethiopian_years (coptic_offset style)) year → IsShiftedYear year.number
given-coptic style year given =
    let small = coptic_offset-small style in
    (omega (arith, signed, small, given.range), omega (arith, signed, small, given.range))

-- what the eras read as keeps the bounds of extended years
incarnation_reads-in_range : (era : List ℕ) (n y : ℤ) → IsFieldYear n → incarnation_reads era n ≡ Some y → IsRuleYear y
incarnation_reads-in_range era n y h e =
    year_in_era-some IsRuleYear (is_code era (codes "am")) n _ (omega (arith, signed, h), omega (arith, signed, h))
    (year_in_era-some IsRuleYear (is_code era (codes "aa")) (n -ℤ pos 5500) None (omega (arith, signed, h), omega (arith, signed, h)) (no_era-some IsRuleYear)) y e

incarnation_reads-near : (era : List ℕ) (n y : ℤ) → IsConstructorYear n → incarnation_reads era n ≡ Some y → IsNearEra y
incarnation_reads-near era n y h e =
    year_in_era-some IsNearEra (is_code era (codes "am")) n _ (omega (arith, signed, h), omega (arith, signed, h))
    (year_in_era-some IsNearEra (is_code era (codes "aa")) (n -ℤ pos 5500) None (omega (arith, signed, h), omega (arith, signed, h)) (no_era-some IsNearEra)) y e

pub ethiopian_reads-in_range : (style : EthiopianEraStyle) (era : List ℕ) (n y : ℤ) → IsFieldYear n → ethiopian_reads style era n ≡ Some y → IsRuleYear y
ethiopian_reads-in_range AmeteMihret era n y h e = incarnation_reads-in_range era n y h e
ethiopian_reads-in_range AmeteAlem era n y h e = only_era_reads-in_range (codes "aa") era n y h e

pub ethiopian_reads-near : (style : EthiopianEraStyle) (era : List ℕ) (n y : ℤ) → IsConstructorYear n → ethiopian_reads style era n ≡ Some y → IsNearEra y
ethiopian_reads-near AmeteMihret era n y h e = incarnation_reads-near era n y h e
ethiopian_reads-near AmeteAlem era n y h e = only_era_reads-near (codes "aa") era n y h e

either_extended : (b : Bool) (p q : EraYear) (y : ℤ) → p.extended_year ≡ y → q.extended_year ≡ y → (if b then p else q).extended_year ≡ y
either_extended true p q y e f = e
either_extended false p q y e f = f

-- a year in its era has its extended year
pub ethiopian_year-named : (style : EthiopianEraStyle) (y : ℤ) → extended_year_of (Era (ethiopian_era_year style y)) ≡ y
ethiopian_year-named AmeteMihret y = either_extended (int_lt y (pos 1)) _ _ y refl refl
ethiopian_year-named AmeteAlem y = refl

pub style-same : (s t : EthiopianEraStyle) → is_same_style s t ≡ true → s ≡ t
style-same AmeteMihret AmeteMihret h = refl
style-same AmeteMihret AmeteAlem h = cc
style-same AmeteAlem AmeteMihret h = cc
style-same AmeteAlem AmeteAlem h = refl

style-itself : (s : EthiopianEraStyle) → is_same_style s s ≡ true
style-itself AmeteMihret = refl
style-itself AmeteAlem = refl

style-back : (s t : EthiopianEraStyle) → is_same_style s t ≡ is_same_style t s
style-back AmeteMihret AmeteMihret = refl
style-back AmeteMihret AmeteAlem = refl
style-back AmeteAlem AmeteMihret = refl
style-back AmeteAlem AmeteAlem = refl

-- calendars of one style are alike
pub styles_alike : IsEquivalence (λ (s t : Ethiopian). is_same_style s.era_style t.era_style)
styles_alike = record {
  refl = λ s. style-itself s.era_style;
  symm = λ s t. style-back s.era_style t.era_style;
  congr = λ s t u h. ap (λ (style : EthiopianEraStyle). is_same_style style u.era_style) (style-same s.era_style t.era_style h);
}

-- and have the same years
pub style_years-shared : (s t : EthiopianEraStyle) (y : NumberedYear) → is_same_style s t ≡ true → IsGiven (ethiopian_years (coptic_offset s)) y → IsSharedYear (ethiopian_years (coptic_offset s)) (ethiopian_years (coptic_offset t)) y
style_years-shared s t y h given =
    subst (λ (style : EthiopianEraStyle). IsSharedYear (ethiopian_years (coptic_offset s)) (ethiopian_years (coptic_offset style)) y) (style-same s t h)
    (record { given = given; start = refl; months = refl })
