use Rattle.std.proofs.Common.{sym}
use Rattle.cal_types.specs.MonthParts.{month_parts}
use Rattle.cal_types.specs.declared.options.Overflow.TheVariants.{Reject}
use Rattle.cal_arith.proofs.FieldLemmas.{ordinal_month-place}
use Rattle.cal_arith.proofs.constructing.made_in_year.Goals as goal

pub made_in_month-requires-clause-month : goal.made_in_month-requires-clause-month
made_in_month-requires-clause-month g c = record { year = c.requires.year; place = ordinal_month-place (g.C.YearShapes.years c.args.cal.now).list ((g.C.YearShapes.years c.args.cal.now).extended c.args.year) (month_parts c.args.month) Reject c.in-Ok.place (sym c.in-Ok.ensures) }
