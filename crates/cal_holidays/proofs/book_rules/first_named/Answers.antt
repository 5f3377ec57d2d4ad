use Rattle.std.proofs.Common.{◌∙◌, ap, subst}
use Rattle.cal_kinds.specs.declared.any_calendar_kind.AnyCalendarKind.{AnyCalendarKind}
use Rattle.cal_tables.specs.Kinds.{kind_system, table_contents}
use Rattle.cal_types.proofs.DateTests.{and-left}
use Rattle.cal_holidays.specs.Merging.{IsFirstDay}
use Rattle.cal_holidays.specs.Naming.{names_in}
use Rattle.cal_holidays.specs.OwnDays.{has_month}
use Rattle.cal_holidays.specs.Rules.{is_proper, observed}
use Rattle.cal_holidays.proofs.KindMonthLemmas.{proper-month}
use Rattle.cal_holidays.proofs.book_rules.first_named.Goals as goal

pub run_in_kind-requires : goal.run_in_kind-requires
run_in_kind-requires c =
    let t = table_contents c.args.tables.now in
    let o = observed c.args.observance in
    let month = proper-month t o.rule (and-left (is_proper o.rule) _ c.requires.proper) in
    (c.requires.proper, ap (λ (k : AnyCalendarKind). has_month (kind_system t k).list o.rule) c.calendar_of.ensures ∙ month, c.requires.from, c.requires.to)

pub returns : goal.returns
returns c =
    let t = table_contents c.args.tables.now in
    subst (λ (k : AnyCalendarKind). IsFirstDay (names_in (kind_system t k).list (observed c.args.observance)) c.args.first c.args.last c.run_in_kind.result) c.calendar_of.ensures c.run_in_kind.ensures
