use Rattle.std.proofs.Common.{length, map, subst}
use Rattle.cal_holidays.specs.BookNames.{holidays_in, names_in_book}
use Rattle.cal_holidays.specs.Books.{named_rules}
use Rattle.cal_holidays.specs.Items.{holiday_of}
use Rattle.cal_holidays.specs.Listing.{left_of, pair_given}
use Rattle.cal_holidays.proofs.YieldLemmas.{first_left-valid, holidays-yielded}
use Rattle.cal_tables.specs.Kinds.{table_contents}
use Rattle.calspan_run.specs.Written.{Wrote}
use Rattle.calspan_run.proofs.HolidayLemmas.{item_lines}
use Rattle.calspan_run.proofs.holidays.listing.write_holidays.Goals as goal

pub write_lines-requires-clause-shown : goal.write_lines-requires-clause-shown
write_lines-requires-clause-shown g c s t x step =
    first_left-valid (names_in_book (table_contents s.rules.tables) (named_rules s.rules.book.now)) (length (named_rules s.rules.book.now)) s.rest (pair_given x) _ step

pub returns-clause-wrote : goal.returns-clause-wrote
returns-clause-wrote g c =
    let rules = named_rules c.args.book.now in
    let pairs = holidays_in (table_contents c.args.tables) rules c.args.window.first c.args.window.last 0 in
    let yields = (holidays-yielded (λ a. left_of (names_in_book (table_contents a.rules.tables) (named_rules a.rules.book.now)) (length (named_rules a.rules.book.now)) a.rest) c.holidays.result pairs c.holidays.ensures.list).runs in
    subst (λ t. Wrote c.write_lines.result (g.K.Sink.taken c.args.sink.now) (g.K.Sink.taken c.write_lines.new.sink) t) (item_lines rules pairs) (c.write_lines.ensures.wrote (map holiday_of pairs) yields)
