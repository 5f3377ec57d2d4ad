use Rattle.cal_julian.proofs.CorrectionLemmas.{accepted-rising, accepted-correctable, rising-accepted}
use Rattle.cal_julian.proofs.persian_corrections.PersianCorrections.try_new.Goals as goal

pub invariant_of-result : goal.invariant_of-result
invariant_of-result c =
    let years = c.args.years.now in
    let accepted = c.in-Ok.ensures.first in
    record {
      rising = accepted-rising years accepted;
      known = accepted-correctable years accepted;
    }

pub returns-in-Err-clause-kept : goal.returns-in-Err-clause-kept
returns-in-Err-clause-kept c =
    let years = c.args.years.now in
    let exact = c.in-Err.ensures.exact in (
      λ ok. let accepted = exact.0 ok in (accepted-rising years accepted, accepted-correctable years accepted),
      λ kept. exact.1 (rising-accepted years kept.0 kept.1),
    )
