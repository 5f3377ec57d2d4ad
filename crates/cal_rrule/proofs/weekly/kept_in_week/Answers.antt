use Rattle.std.proofs.Common.{◌≡◌, ◌∙◌, ◌+ℤ◌, pos, arith}
use Rattle.cal_days.proofs.Signed.{signed}
use Rattle.cal_rrule.proofs.WeeklyLemmas.{week-set}
use Rattle.cal_rrule.proofs.weekly.kept_in_week.Goals as goal

pub returns-clause-first : goal.returns-clause-first
returns-clause-first c = c.keep_positions.ensures.first ∙ c.keep_days.ensures.first

pub returns-clause-kept : goal.returns-clause-kept
returns-clause-kept c = λ list t k same.
    let days = c.args.days.now in
    let week = c.args.week in
    let from : c.new.result ≡ week = omega (arith, signed, c.requires.near) in
    let to : c.new-2.result ≡ week +ℤ pos 7 = omega (arith, signed, c.requires.near) in
    let both = rw (from, to) at c.keep_days.ensures.days in
    c.keep_positions.ensures.kept list t k
    (week-set list c.args.asked.now.rule t k days c.keep_days.new.self week c.keep_days.ensures.first
    c.requires.from c.requires.to both c.keep_days.ensures.row same)
