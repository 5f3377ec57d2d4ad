use Rattle.cal_hijri.specs.TableFriday.{friday_year}
use Rattle.cal_hijri.specs.laws.RowNameLaws.{accepted-named, accepted-years}
use Rattle.cal_hijri.proofs.hijri_table.HijriTable.try_new.Goals as goal

pub invariant_of-result : goal.invariant_of-result
invariant_of-result c = record {
  accepted = accepted-years friday_year c.args.rows.now c.in-Ok.ensures.first;
  named = accepted-named friday_year c.args.rows.now c.in-Ok.ensures.first;
}
