use Rattle.std.proofs.Common.{◌∙◌}
use Rattle.cal_arith.proofs.OrderLemmas.{kept-equal}
use Rattle.cal_arith.proofs.laws.are_same_day.Goals as goal

pub returns : goal.returns
returns g c =
    let s = c.args.cal.now in let laws = g.met.C.YearShapes in
    let p = c.args.first.now.parts in let q = c.args.second.now.parts in
    c.eq.ensures ∙ kept-equal (g.C.YearShapes.years s) g.C.YearInfo.PackWithMD.stored p q (laws.stored_from s p.year c.requires.first.year) (laws.stored_from s q.year c.requires.second.year)
    c.requires.first.date c.requires.second.date _ laws.equal
