use Rattle.std.specs.Prelude.{slice_get}
use Rattle.cal_tables.specs.Kinds.{table_contents}
use Rattle.cal_holidays.specs.Books.{entry_said, named_rules}
use Rattle.cal_holidays.proofs.ObservedLemmas.{first-of_rule}
use Rattle.cal_holidays.proofs.book_rules.BookRulesNumberedRules.first_day.Goals as goal

pub returns : goal.returns
returns c =
    let self = c.args.self.now in
    first-of_rule (table_contents self.tables) (slice_get (named_rules self.book.now) c.args.rule) (entry_said c.entry.result.now) c.args.first c.args.last c.first_of_entry.result
    c.entry.ensures c.first_of_entry.ensures
