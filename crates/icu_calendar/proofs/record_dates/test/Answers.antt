use Rattle.std.proofs.Common.{◌≡◌, ◌∙◌, false, sym, ap, pos, neg_ℤ, FitsSigned, to_z, of_z, w32, rules, arith}
use Rattle.cal_days.specs.Day.{is_between}
use Rattle.cal_days.proofs.Signed.{signed}
use Rattle.icu_calendar.specs.RecordDates.{date_numbers}
use Rattle.icu_calendar.proofs.RecordLemmas.{refused, numbered-year, numbered-no_year}
use Rattle.icu_calendar.proofs.record_dates.test.Goals as goal

pub returns-then-year-le-MAX_YEAR : goal.returns-then-year-le-MAX_YEAR
returns-then-year-le-MAX_YEAR c =
    let fits : FitsSigned w32 c.args.date.year = search rules in
    let same : to_z w32 (of_z w32 c.args.date.year) ≡ c.args.date.year = omega (arith, signed, fits) in
    rw same at c.test_in_year.ensures ∙ sym (numbered-year (date_numbers c.args.date) (omega (arith, signed), omega (arith, signed)))

pub returns-else-year : goal.returns-else-year
returns-else-year c =
    let fits : FitsSigned w32 c.args.date.year = search rules in
    let same : to_z w32 (of_z w32 c.args.date.year) ≡ c.args.date.year = omega (arith, signed, fits) in
    let out : is_between (neg_ℤ (pos 999999)) (pos 999999) c.args.date.year ≡ false = grind (arith, signed) in
    ap refused (rw same at c.out_of_range.ensures) ∙ sym (numbered-no_year (date_numbers c.args.date) out)
