use Rattle.std.proofs.Common.{refl}
use Rattle.cal_east_asian.proofs.LengtheningLemmas.{keeps-years}
use Rattle.cal_east_asian.proofs.east_asian_table.EastAsianTable.lengthened.Goals as goal

pub returns-in-Ok-clause-kept : goal.returns-in-Ok-clause-kept
returns-in-Ok-clause-kept c _ =
    keeps-years c.args.self.now.side c.args.self.now.rows.now c.args.rows.now c.args.self.now.accepted (c.in_default.ensures, c.in-Ok.ensures.exact.0 refl)

pub returns-in-Ok-clause-exact : goal.returns-in-Ok-clause-exact
returns-in-Ok-clause-exact c = (λ _. (c.in_default.ensures, c.in-Ok.ensures.exact.0 refl), λ _. refl)
