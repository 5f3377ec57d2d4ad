use Rattle.std.proofs.Common.{◌≡◌, ◌&&◌, false, nat_le, to_z, of_z, w32, arith}
use Rattle.std.proofs.lemmas.Bool.Decides.{nat_tests}
use Rattle.cal_rule.proofs.UntilLemmas.{no-month, twelve_months}
use Rattle.cal_rule.proofs.until.day_of.Goals as goal

pub day_in_month-requires-clause-month : goal.day_in_month-requires-clause-month
day_in_month-requires-clause-month c = (omega arith, omega (arith, twelve_months (to_z w32 (of_z w32 c.args.year))))

pub returns-else-month-ge1 : goal.returns-else-month-ge1
returns-else-month-ge1 c =
    let out : (nat_le 1 c.args.month && nat_le c.args.month 12) ≡ false = grind (arith, nat_tests) in
    no-month c.args.year c.args.month c.args.day out
