use Rattle.memchr.specs.Find.{is_byte}
use Rattle.byte_io.proofs.FirstLemmas.{first_is_position}
use Rattle.calspan_run.proofs.convert.answers.first_tab.Goals as goal

pub returns-clause-value : goal.returns-clause-value
returns-clause-value c = first_is_position (is_byte 9) c.args.text.now c.memchr.result c.memchr.ensures
