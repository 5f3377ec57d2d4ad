-- The tabular years from Friday on are years one after another.
use Rattle.cal_hijri.specs.HijriList.{Joins, Numbered}
use Rattle.cal_hijri.specs.laws.TabularRuleLaws.{tabular-numbered, tabular-joins}
use Rattle.cal_hijri.specs.TableFriday.{friday_rules, friday_year}

pub friday-numbered : Numbered friday_year
friday-numbered = tabular-numbered friday_rules

pub friday-joins : Joins friday_year
friday-joins = tabular-joins friday_rules
