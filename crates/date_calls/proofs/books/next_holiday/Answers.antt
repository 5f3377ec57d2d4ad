use Rattle.std.proofs.Common.{length}
use Rattle.cal_holidays.specs.Books.{named_rules}
use Rattle.date_calls.proofs.HolidayLemmas.{holiday-steps}
use Rattle.date_calls.proofs.books.next_holiday.Goals as goal

pub returns-clause-rules : goal.returns-clause-rules
returns-clause-rules c = c.next.ensures.rules

pub returns-clause-steps : goal.returns-clause-steps
returns-clause-steps c =
    let list = c.args.list.now in
    let next = c.next.new.self in
    holiday-steps list.rules next.rules c.next.ensures.rules (length (named_rules list.rules.book.now)) list.rest next.rest c.next.result c.next.ensures.steps c.next.ensures.rest
