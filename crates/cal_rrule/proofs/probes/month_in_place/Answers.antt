use Rattle.std.proofs.Common.{◌≡◌, ◌∙◌, ◌≤◌, sym, ap, arith, ℤ, w32, to_z, of_z}
use Rattle.cal_types.specs.CalendarList.{month_at}
use Rattle.cal_types.specs.Month.{month_rank}
use Rattle.cal_types.specs.MonthParts.{month_parts}
use Rattle.cal_rrule.proofs.ProbeLemmas.{rank-last, rank-less}
use Rattle.cal_rrule.proofs.WordLemmas.{field-word}
use Rattle.cal_rrule.proofs.probes.month_in_place.Goals as goal

pub returns-then-is_in_place : goal.returns-then-is_in_place
returns-then-is_in_place g c =
    let list = (g.C.Calendar.system c.args.calendar.now).list in
    let same = field-word c.args.year c.requires.year in
    sym (c.is_in_place.ensures.0 c.if-is_in_place.true) ∙ ap (λ (y : ℤ). month_at list y c.args.place) same

pub loop-rank-preserved : goal.loop-rank-preserved
loop-rank-preserved g c =
    let list = (g.C.Calendar.system c.args.calendar.now).list in
    let less = rank-less list (to_z w32 (of_z w32 c.args.year)) c.args.place (month_parts c.month_ranked-month.result) c.loop-rank.rank
    c.is_in_place.result c.month_ranked-month.ensures c.loop-rank.invariant c.is_in_place.ensures c.if-is_in_place.false in
    omega (arith, less)

pub returns : goal.returns
returns g c =
    let list = (g.C.Calendar.system c.args.calendar.now).list in
    let same = field-word c.args.year c.requires.year in
    let rank : month_rank (month_at list (to_z w32 (of_z w32 c.args.year)) c.args.place) ≡ month_rank (month_at list c.args.year c.args.place) =
    ap (λ (y : ℤ). month_rank (month_at list y c.args.place)) same in
    let low : 27 ≤ month_rank (month_at list c.args.year c.args.place) =
    omega (arith, rank, c.loop-rank.invariant, c.loop-rank-test.false) in
    rank-last list (g.met.C.Calendar.lawful c.args.calendar.now) c.requires.nearby c.args.year c.args.place
    (month_parts c.month_ranked.result) c.requires.place c.month_ranked.ensures low
