use Rattle.cal_arith.proofs.GivenLemmas.{given_of_word}
use Rattle.cal_arith.proofs.given_years.given_year.Goals as goal

pub returns-clause-given : goal.returns-clause-given
returns-clause-given g c = (given_of_word (g.C.YearShapes.years c.args.cal.now) (g.met.C.YearShapes.numbered c.args.cal.now) _ c.args.extended_year c.year_info_from_extended.ensures (c.requires.from, c.requires.to)).0

pub returns-clause-number : goal.returns-clause-number
returns-clause-number g c = (given_of_word (g.C.YearShapes.years c.args.cal.now) (g.met.C.YearShapes.numbered c.args.cal.now) _ c.args.extended_year c.year_info_from_extended.ensures (c.requires.from, c.requires.to)).1
