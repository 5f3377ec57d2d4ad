use Rattle.std.proofs.Common.{◌≡◌, ℤ, pos, ◌-ℤ◌, sym, subst, FitsSigned, to_z, of_z, w32, rules, arith}
use Rattle.cal_days.specs.Day.{IsValidDay}
use Rattle.cal_days.proofs.Signed.{signed}
use Rattle.cal_types.specs.CalendarList.{IsDate, date}
use Rattle.cal_base.specs.IsoSystem.{iso_list}
use Rattle.cal_base.specs.laws.OffsetListLaws.{iso_year-extended}
use Rattle.icu_calendar.specs.RecordDates.{date_numbers}
use Rattle.icu_calendar.proofs.RecordLemmas.{numbered-is, numbered-valid}
use Rattle.icu_calendar.proofs.record_dates.day.Goals as goal

pub to_rata_die_inner-requires : goal.to_rata_die_inner-requires
to_rata_die_inner-requires c =
    let there = numbered-is (date_numbers c.args.date) c.requires in
    let fits : FitsSigned w32 c.args.date.year = search rules in
    let same : to_z w32 (of_z w32 c.args.date.year) -ℤ pos 0 ≡ c.args.date.year = omega (arith, signed, fits) in
    let back : to_z w32 (of_z w32 c.args.date.year) ≡ c.args.date.year = omega (arith, signed, fits) in
    record {
      year = record { same = iso_year-extended (pos 0) (record { number = to_z w32 (of_z w32 c.args.date.year) }); range = (omega (arith, signed, there.year, same), omega (arith, signed, there.year, same)) };
      date = subst (λ (y : ℤ). IsDate iso_list (date y c.args.date.month c.args.date.day)) (sym same) there.date;
    }

pub returns-clause-valid : goal.returns-clause-valid
returns-clause-valid c =
    let there = numbered-is (date_numbers c.args.date) c.requires in
    let fits : FitsSigned w32 c.args.date.year = search rules in
    let same : to_z w32 (of_z w32 c.args.date.year) -ℤ pos 0 ≡ c.args.date.year = omega (arith, signed, fits) in
    subst IsValidDay (sym (rw same at c.to_rata_die_inner.ensures)) (numbered-valid (date_numbers c.args.date) there)
