use Rattle.cal_julian.proofs.CorrectionLemmas.{accepted-rising, accepted-correctable}
use Rattle.cal_julian.proofs.persian_corrections.PersianCorrections.new.Goals as goal

pub invariant_of-result : goal.invariant_of-result
invariant_of-result c = record {
  rising = accepted-rising c.args.years.now c.requires;
  known = accepted-correctable c.args.years.now c.requires;
}
