use Rattle.calspan_run.specs.RecordsExplained.{book_explained}
use Rattle.calspan_run.proofs.BookLemmas.{book_texts_exist, book_texts_unique}
use Rattle.calspan_run.proofs.laws.explained_records_have_one_text.Goals as goal

pub returns-clause-exists : goal.returns-clause-exists
returns-clause-exists c = book_texts_exist book_explained

pub returns-clause-unique : goal.returns-clause-unique
returns-clause-unique c = book_texts_unique book_explained
