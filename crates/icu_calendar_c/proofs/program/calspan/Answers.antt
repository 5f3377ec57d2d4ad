use Rattle.std.proofs.Common.{refl}
use Rattle.icu_calendar_c.proofs.ProgramLemmas.{no_command}
use Rattle.icu_calendar_c.proofs.program.calspan.Goals as goal

pub returns-in-Err-clause-no_text : goal.returns-in-Err-clause-no_text
returns-in-Err-clause-no_text c bad = no_command _ _ _ _ _ c.code.ensures refl refl
