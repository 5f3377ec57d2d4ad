use Rattle.std.proofs.Common.{subst, sym}
use Rattle.cal_types.specs.SameYear.{HaveSameYear}
use Rattle.cal_east_asian.proofs.LengtheningLemmas.{keeps-years}
use Rattle.cal_east_asian.specs.EastAsianRows.{years_of}
use Rattle.cal_east_asian.specs.EastAsianSystem.{kept_date}
use Rattle.cal_east_asian.specs.LengthenedTables.{list_with}
use Rattle.cal_east_asian.specs.TableAccepted.{IsAccepted}
use Rattle.cal_east_asian.specs.laws.ComputedLaws.{computed_year}
use Rattle.cal_east_asian.specs.declared.sides.Side.{Side}
use Rattle.icu_calendar.specs.Rebasing.{IsRebased}
use Rattle.icu_calendar.proofs.laws.east_asian_date_kept.Goals as goal

pub returns-clause-rebased : goal.returns-clause-rebased
returns-clause-rebased g c =
    let rules = c.args.date.now.calendar.0 in
    let old = rules.table.rows.now in
    let longer = c.args.calendar.0.table.rows.now in
    let result = c.rebased_in_east_asian.result in
    let t = kept_date c.args.date.now.inner.0.parts in
    let u = kept_date result.date.inner.0.parts in
    let here = subst (λ (side : Side). IsRebased (list_with side old) (list_with c.args.calendar.0.table.side longer) t u result.moved) rules.side c.rebased_in_east_asian.ensures.rebased in
    subst (λ (side : Side). IsRebased (list_with g.S.TableSide.side old) (list_with side longer) t u result.moved) c.args.calendar.0.side here

pub returns-clause-stays : goal.returns-clause-stays
returns-clause-stays g c lengthens free =
    let rules = c.args.date.now.calendar.0 in
    let old = rules.table.rows.now in
    let longer = c.args.calendar.0.table.rows.now in
    let side = g.S.TableSide.side in
    let year = (kept_date c.args.date.now.inner.0.parts).year in
    let accepted = subst (λ (side : Side). IsAccepted (computed_year side) (years_of old)) rules.side rules.table.accepted in
    let same = keeps-years side old longer accepted lengthens year free in
    let here = subst (λ (here : Side). HaveSameYear (list_with here old) (list_with side longer) year) (sym rules.side) same in
    c.rebased_in_east_asian.ensures.stays (subst (λ (there : Side). HaveSameYear (list_with rules.table.side old) (list_with there longer) year) (sym c.args.calendar.0.side) here)
