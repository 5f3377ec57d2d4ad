use Rattle.cal_tables.proofs.KindLemmas.{kind_lawful}
use Rattle.cal_tables.specs.Kinds.{kind_system, table_contents}
use Rattle.near_years.proofs.KindNear.{kind_near}
use Rattle.cal_holidays.specs.RepeatedDays.{repeated_said}
use Rattle.cal_holidays.proofs.ObservedLemmas.{first-repeated}
use Rattle.cal_holidays.proofs.book_rules.first_recurring.Goals as goal

pub run_in_kind-requires : goal.run_in_kind-requires
run_in_kind-requires c =
    (kind_near c.args.tables.now c.args.repeated.now.calendar, c.requires.years, c.requires.moves, c.requires.from, c.requires.to)

pub returns : goal.returns
returns c =
    let t = table_contents c.args.tables.now in
    let r = repeated_said c.args.repeated.now in
    first-repeated (kind_system t r.calendar).list (kind_lawful t r.calendar) r c.args.years c.args.moves.days c.args.first c.args.last c.run_in_kind.result c.run_in_kind.ensures
