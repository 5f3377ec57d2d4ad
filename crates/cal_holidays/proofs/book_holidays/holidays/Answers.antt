use Rattle.cal_holidays.specs.Books.{named_rules}
use Rattle.cal_tables.specs.Kinds.{table_contents}
use Rattle.cal_holidays.proofs.NamedDaysLemmas.{holidays-meant}
use Rattle.cal_holidays.proofs.book_holidays.holidays.Goals as goal

pub returns-clause-meant : goal.returns-clause-meant
returns-clause-meant c =
    rw (c.new.ensures.rest, c.new.ensures.rules)
    (holidays-meant (table_contents c.args.tables) (named_rules c.args.book.now) c.args.window.first c.args.window.last c.args.first_rule c.args.window.days.order)
