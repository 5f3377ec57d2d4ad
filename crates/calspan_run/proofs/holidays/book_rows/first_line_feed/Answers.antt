use Rattle.memchr.specs.Find.{is_byte}
use Rattle.byte_io.proofs.FirstLemmas.{first_is_position}
use Rattle.calspan_run.proofs.holidays.book_rows.first_line_feed.Goals as goal

pub returns-clause-value : goal.returns-clause-value
returns-clause-value c = first_is_position (is_byte 10) c.args.bytes.now c.memchr.result c.memchr.ensures
