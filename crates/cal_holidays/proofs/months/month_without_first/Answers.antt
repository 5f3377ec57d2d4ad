use Rattle.std.proofs.Common.{◌≡◌, ◌∙◌, sym, ap, arith, rules, FitsSigned, to_z, of_z, w32, ℤ, refl}
use Rattle.cal_days.specs.Day.{is_covered_year}
use Rattle.cal_days.proofs.RangeLemmas.{is_between-true}
use Rattle.cal_days.proofs.Signed.{signed}
use Rattle.cal_types.specs.MonthParts.{month_parts}
use Rattle.cal_holidays.specs.MonthDays.{is_date_of}
use Rattle.cal_holidays.proofs.MonthLemmas.{covered-none, edge-none}
use Rattle.cal_holidays.proofs.months.month_without_first.Goals as goal

pub returns-then-is_covered_year : goal.returns-then-is_covered_year
returns-then-is_covered_year g c =
    let s = c.args.calendar.now in
    let list = (g.C.Calendar.system s).list in
    let fits : FitsSigned w32 c.args.year = search rules in
    let same : to_z w32 (of_z w32 c.args.year) ≡ c.args.year = omega (arith, signed) in
    let test = ap is_covered_year (sym same) ∙ sym c.if-is_covered_year.ensures in
    covered-none list (month_parts c.args.month) c.args.year (g.met.C.Calendar.covered s) (is_between-true _ _ c.args.year test) c.requires

pub returns-else-is_in : goal.returns-else-is_in
returns-else-is_in g c =
    let s = c.args.calendar.now in
    let list = (g.C.Calendar.system s).list in
    let m = month_parts c.args.month in
    let t = g.C.Calendar.date_of s c.from_rata_die-first.result in
    let fits : FitsSigned w32 c.args.year = search rules in
    let same : to_z w32 (of_z w32 c.args.year) ≡ c.args.year = omega (arith, signed) in
    let test = ap (λ (y : ℤ). is_date_of list m y t) (sym same) ∙ sym c.if-is_in.ensures in
    edge-none list m c.args.year c.new.result t (c.new.ensures ∙ refl) c.from_rata_die-first.ensures.on test c.requires
