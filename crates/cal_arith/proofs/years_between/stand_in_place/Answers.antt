use Rattle.std.proofs.Common.{sym, ◌∙◌}
use Rattle.cal_arith.proofs.PlaceLemmas.{stands-some}
use Rattle.cal_arith.proofs.years_between.stand_in_place.Goals as goal

pub unreachable-requires : goal.unreachable-requires
unreachable-requires g c =
    stands-some (g.C.YearShapes.years c.args.cal.now).list (g.met.C.YearShapes.lawful c.args.cal.now) ((g.C.YearShapes.years c.args.cal.now).extended c.args.from.year) c.args.from.month ((g.C.YearShapes.years c.args.cal.now).extended c.args.reached) c.requires.from.place
    (sym c.ordinal_in_other_year.ensures ∙ c.in-None.is)
