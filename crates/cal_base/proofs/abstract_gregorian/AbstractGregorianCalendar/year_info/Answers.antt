use Rattle.std.proofs.Common.{◌≡◌, to_z, of_z, w32, arith, ap, refl, ◌∙◌}
use Rattle.cal_days.proofs.Signed.{signed}
use Rattle.cal_types.specs.CalendarList.{date}
use Rattle.cal_types.specs.declared.year.EraYear.{EraYear}
use Rattle.cal_types.specs.declared.year.YearInfo.TheVariants.{Era}
use Rattle.cal_base.specs.OffsetSystem.{offset_date}
use Rattle.cal_base.specs.laws.OffsetSystemLaws.{kept-belongs, kept-dated}
use Rattle.cal_base.proofs.abstract_gregorian.AbstractGregorianCalendar.year_info.Goals as goal

pub extended_year-requires : goal.extended_year-requires
extended_year-requires g c =
    let s = c.args.self.now.0 in
    kept-belongs (g.Y.GregorianYears.offset s) (g.met.Y.GregorianYears.offset_bound s) c.args.date.now.parts c.requires

pub era_year_from_extended-requires : goal.era_year_from_extended-requires
era_year_from_extended-requires g c =
    let offset = g.Y.GregorianYears.offset c.args.self.now.0 in
    let p = c.args.date.now.parts in
    let rule = (kept-belongs offset (g.met.Y.GregorianYears.offset_bound c.args.self.now.0) p c.requires).year.range in
    let kept : to_z w32 (of_z w32 c.extended_year.result) ≡ c.extended_year.result = omega (arith, signed, rule, c.extended_year.ensures) in
    let year = kept ∙ c.extended_year.ensures in
    let same : date (to_z w32 (of_z w32 c.extended_year.result)) c.month.result c.day.result ≡ offset_date offset p = rw (year, c.month.ensures, c.day.ensures) refl in
    rw same (kept-dated offset p c.requires)

pub returns : goal.returns
returns g c =
    let offset = g.Y.GregorianYears.offset c.args.self.now.0 in
    let p = c.args.date.now.parts in
    let rule = (kept-belongs offset (g.met.Y.GregorianYears.offset_bound c.args.self.now.0) p c.requires).year.range in
    let kept : to_z w32 (of_z w32 c.extended_year.result) ≡ c.extended_year.result = omega (arith, signed, rule, c.extended_year.ensures) in
    let year = kept ∙ c.extended_year.ensures in
    let same : date (to_z w32 (of_z w32 c.extended_year.result)) c.month.result c.day.result ≡ offset_date offset p = rw (year, c.month.ensures, c.day.ensures) refl in
    ap (λ (e : EraYear). Era e) (c.era_year_from_extended.ensures ∙ ap (g.Y.GregorianYears.era_year c.args.self.now.0) same)
