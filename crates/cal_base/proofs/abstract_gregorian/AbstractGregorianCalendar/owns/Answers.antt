use Rattle.std.proofs.Common.{sym, ap, ◌∙◌}
use Rattle.cal_days.specs.Day.{is_field_year}
use Rattle.cal_base.specs.laws.OffsetSystemLaws.{field_year-needed, given-named, belongs-offset}
use Rattle.cal_base.specs.declared.numbered_year.NumberedYear.{NumberedYear}
use Rattle.cal_base.proofs.abstract_gregorian.AbstractGregorianCalendar.owns.Goals as goal

pub returns-then-not-can_be_named : goal.returns-then-not-can_be_named
returns-then-not-can_be_named g c =
    let p = c.args.date.now.parts in
    let named = ap (λ (y : NumberedYear). is_field_year y.number) (sym c.year.ensures) ∙ (sym c.can_be_named.ensures ∙ c.if-not-can_be_named.true) in
    sym (field_year-needed p.year.number p.month p.day named)

pub is_date_of-requires : goal.is_date_of-requires
is_date_of-requires g c =
    let s = c.args.self.now.0 in
    let named = ap (λ (y : NumberedYear). is_field_year y.number) (sym c.year.ensures) ∙ (sym c.can_be_named.ensures ∙ c.if-not-can_be_named.false) in
    given-named (g.Y.GregorianYears.offset s) (g.met.Y.GregorianYears.offset_bound s) c.args.date.now.parts.year named

pub returns : goal.returns
returns g c = c.is_date_of.ensures ∙ belongs-offset (g.Y.GregorianYears.offset c.args.self.now.0) c.args.date.now.parts
