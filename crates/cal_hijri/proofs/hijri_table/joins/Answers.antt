use Rattle.std.proofs.Common.{◌∙◌, ap, arith}
use Rattle.cal_days.proofs.Signed.{signed}
use Rattle.cal_types.specs.laws.YearArguments.{IsAsked, year_before}
use Rattle.cal_hijri.specs.TableAccepted.{follows}
use Rattle.cal_hijri.specs.TableFriday.{friday_year}
use Rattle.cal_hijri.specs.declared.hijri_year.HijriYear.{HijriYear}
use Rattle.cal_hijri.proofs.hijri_table.joins.Goals as goal

pub returns-in-None : goal.returns-in-None
returns-in-None c =
    let near : IsAsked c.args.row.extended_year = (omega (arith, signed, c.requires), omega (arith, signed, c.requires)) in
    rw c.in-None.is (c.follows.ensures ∙ ap (λ (b : HijriYear). follows b c.args.row) (c.friday_year.ensures ∙ year_before friday_year c.args.row.extended_year 1 near (omega arith)))
