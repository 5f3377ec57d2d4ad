use Rattle.std.proofs.Common.{refl}
use Rattle.cal_hijri.proofs.LengtheningLemmas.{keeps-years}
use Rattle.cal_hijri.proofs.hijri_table.HijriTable.lengthened.Goals as goal

pub returns-in-Ok-clause-kept : goal.returns-in-Ok-clause-kept
returns-in-Ok-clause-kept c _ =
    keeps-years c.args.self.now.rows.now c.args.rows.now c.args.self.now.accepted (c.in_default.ensures, c.in-Ok.ensures.exact.0 refl)
