use Rattle.std.proofs.Common.{◌≡◌, ℕ, arith}
use Rattle.cal_days.proofs.Signed.{signed}
use Rattle.cal_rrule.specs.Looks.{look_stretch}
use Rattle.cal_rrule.specs.Occurrences.{IsKept}
use Rattle.cal_rrule.specs.Stretches.{InStretch, end_of}
use Rattle.cal_rrule.proofs.DailyBlockLemmas.{kept-marks}
use Rattle.cal_rrule.proofs.RowLemmas.{marks-all}
use Rattle.cal_rrule.proofs.daily.kept_in_block.Goals as goal

pub returns : goal.returns
returns c = λ list t is at.
    let look = c.args.look.now in
    let s = look_stretch look in
    let first : c.new.result ≡ look.first = omega (arith, signed) in
    let to : c.new-2.result ≡ end_of s = omega (arith, signed, c.end.ensures) in
    let marks = c.kept_in_month-days.ensures.days list t is at in
    let kept = rw (first, to) at c.keep_days.ensures.days in
    let row = rw (marks.first) at c.keep_days.ensures.row in
    marks-all c.keep_days.new.self look.first (λ n. InStretch s n × ((k : ℕ) × IsKept list c.args.asked.now.rule t k n))
    (kept-marks c.kept_in_month-days.result c.keep_days.new.self look.first (end_of s)
    (λ n. (k : ℕ) × IsKept list c.args.asked.now.rule t k n)
    marks c.keep_days.ensures.first kept) row
    (λ n p. (omega (arith, signed, p.0.0), omega (arith, signed, p.0.1, look.short)))
