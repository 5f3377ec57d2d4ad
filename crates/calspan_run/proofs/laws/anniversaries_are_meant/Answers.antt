use Rattle.cal_anniversary.proofs.FallingOnLemmas.{anniversaries-meant}
use Rattle.cal_tables.proofs.KindLemmas.{kind_lawful}
use Rattle.cal_tables.specs.Kinds.{kind_system}
use Rattle.calspan_run.proofs.laws.anniversaries_are_meant.Goals as goal

pub returns : goal.returns
returns c a tables =
    anniversaries-meant (kind_system tables a.calendar).list (kind_lawful tables a.calendar) a.leaping a.month a.day a.first a.last
