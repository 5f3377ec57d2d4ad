use Rattle.std.proofs.Common.{pos, ◌+ℤ◌}
use Rattle.cal_rrule.specs.Looks.{look_year}
use Rattle.cal_rrule.specs.Stretches.{end_of}
use Rattle.cal_rrule.proofs.MaskLemmas.{lt_test}
use Rattle.cal_rrule.proofs.WordLemmas.{end-word, ends-left}
use Rattle.cal_rrule.proofs.year_steps.ends_behind.Goals as goal

pub returns : goal.returns
returns c =
    let year = c.args.year.now in
    let left = ends-left c.to_i64_date.result c.args.last c.from.result c.args.days c.to_i64_date.ensures.value c.requires.last
    c.from.ensures c.requires.few in
    let right = end-word c.end.result year.first year.days c.end.ensures year.near year.short in
    rw (left, right) (lt_test (c.args.last +ℤ pos c.args.days) (end_of (look_year year)))
