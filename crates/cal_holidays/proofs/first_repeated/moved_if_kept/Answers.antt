use Rattle.std.proofs.Common.{◌≡◌, ◌∙◌, sym, ap, arith, to_z, of_z, w32}
use Rattle.cal_days.proofs.Signed.{signed}
use Rattle.cal_holidays.specs.Observing.{is_kept}
use Rattle.cal_holidays.proofs.RepeatedLemmas.{moved-kept, moved-not_kept}
use Rattle.cal_holidays.proofs.first_repeated.moved_if_kept.Goals as goal

pub returns-then-keeps : goal.returns-then-keeps
returns-then-keeps g c =
    let s = c.args.calendar.now in
    let year = c.year_on.result in
    let years = c.args.years in
    let held : to_z w32 (of_z w32 year) ≡ year = omega (arith, signed, c.year_on.ensures.range) in
    let kept = ap (is_kept years) (sym held) ∙ (sym c.keeps.ensures ∙ c.if-keeps.true) in
    moved-kept (g.C.Calendar.system s).list (g.met.C.Calendar.lawful s) c.args.own year c.year_on.ensures.year years
    c.args.moves.days c.args.first c.args.last kept c.moved_between.result c.moved_between.ensures

pub returns-else-keeps : goal.returns-else-keeps
returns-else-keeps g c n within =
    let s = c.args.calendar.now in
    let year = c.year_on.result in
    let years = c.args.years in
    let held : to_z w32 (of_z w32 year) ≡ year = omega (arith, signed, c.year_on.ensures.range) in
    let not = ap (is_kept years) (sym held) ∙ (sym c.keeps.ensures ∙ c.if-keeps.false) in
    moved-not_kept (g.C.Calendar.system s).list (g.met.C.Calendar.lawful s) c.args.own year c.year_on.ensures.year years
    c.args.moves.days c.args.first c.args.last not n
