-- The numbers of a row are those of a year.
use Rattle.std.proofs.Common.{ℕ, ◌≤◌, ◌<◌, ◌%◌, ◌^◌, nat_eq, min, IsTrue, refl, arith}
use Rattle.cal_days.proofs.Signed.{signed, by_bool}
use Rattle.cal_east_asian.specs.EastAsianYear.{is_leap_place, months_of_year, IsEastAsianYear}
use Rattle.cal_east_asian.specs.laws.RuleYearLaws.{rule_year-rule}
use Rattle.cal_east_asian.specs.declared.east_asian_row.EastAsianRow.{EastAsianRow}
use Rattle.cal_east_asian.specs.RowParts.{place_or_none, row_number, row_start}

place-valid : (p : ℕ) → IsTrue (is_leap_place (place_or_none p))
place-valid p = by_bool {P = IsTrue (is_leap_place (place_or_none p))} (is_leap_place p) (λ on. rw on on) (λ off. rw off refl)

pub row-valid : (row : EastAsianRow) → IsEastAsianYear (row_number row) (row_start row) (place_or_none row.leap_month)
row-valid row =
    let few : min row.start_offset 34 ≤ 34 = omega arith in
    (rule_year-rule row.related_iso, ((omega (arith, signed), omega (arith, signed, few)), place-valid row.leap_month))

-- the bits above the last month's are of no month
pub row-few : (bits p : ℕ) → bits % 2 ^ months_of_year p < 2 ^ months_of_year p
row-few bits p =
    by_bool {P = bits % 2 ^ months_of_year p < 2 ^ months_of_year p} (nat_eq p 0)
    (λ none. rw none (omega arith))
    (λ some. rw some (omega arith))
