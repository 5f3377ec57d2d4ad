use Rattle.calspan_run.specs.HolidayLines.{holidays_written}
use Rattle.calspan_run.proofs.BookLemmas.{book_texts_exist, book_texts_unique}
use Rattle.calspan_run.proofs.laws.holidays_have_one_text.Goals as goal

pub returns-clause-exists : goal.returns-clause-exists
returns-clause-exists c asked = book_texts_exist (holidays_written asked)

pub returns-clause-unique : goal.returns-clause-unique
returns-clause-unique c asked = book_texts_unique (holidays_written asked)
