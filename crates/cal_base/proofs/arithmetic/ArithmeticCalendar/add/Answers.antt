use Rattle.cal_base.specs.laws.OwnYearLaws.{belongs_own, offset_field}
use Rattle.cal_base.proofs.OwnAnswers.{field_argument, ok_leads}
use Rattle.cal_base.proofs.arithmetic.ArithmeticCalendar.add.Goals as goal

pub added_shifted-requires-clause-shift : goal.added_shifted-requires-clause-shift
added_shifted-requires-clause-shift g c =
    let s = c.args.self.now.0 in let laws = g.met.C.YearShapes in
    field_argument c.year_offset.result (g.C.YearShapes.years s).offset c.year_offset.ensures (offset_field (g.C.YearShapes.years s) (laws.lawful s) (laws.covered s) (laws.ranged s))

pub returns-clause-belongs : goal.returns-clause-belongs
returns-clause-belongs g c =
    let s = c.args.self.now.0 in
    ok_leads (λ a. belongs_own (g.C.YearShapes.years s) (g.met.C.YearShapes.ranged s) (g.C.NamedYears.has_year s) (g.met.C.NamedYears.tested s) a.parts)
    c.added_shifted.result c.added_shifted.ensures.belongs
