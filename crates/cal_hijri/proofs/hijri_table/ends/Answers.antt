use Rattle.std.proofs.Common.{◌∙◌, ap, arith}
use Rattle.cal_days.proofs.Signed.{signed}
use Rattle.cal_types.specs.laws.YearArguments.{IsAsked, year_after}
use Rattle.cal_hijri.specs.TableAccepted.{follows}
use Rattle.cal_hijri.specs.TableFriday.{friday_year}
use Rattle.cal_hijri.proofs.hijri_table.ends.Goals as goal

pub returns : goal.returns
returns c =
    let near : IsAsked c.args.row.extended_year = (omega (arith, signed, c.requires), omega (arith, signed, c.requires)) in
    c.follows.ensures ∙ ap (follows c.args.row) (c.friday_year.ensures ∙ year_after friday_year c.args.row.extended_year 1 near (omega arith))
