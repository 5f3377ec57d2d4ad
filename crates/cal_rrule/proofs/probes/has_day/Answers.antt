use Rattle.std.proofs.Common.{◌∙◌, ap, ℤ}
use Rattle.cal_types.specs.Resolving.{resolve}
use Rattle.cal_types.specs.declared.options.MissingFieldsStrategy.TheVariants as missing
use Rattle.cal_types.specs.declared.options.Overflow.TheVariants.{Reject}
use Rattle.cal_rrule.proofs.ProbeLemmas.{day-found, day_bag, is_found}
use Rattle.cal_rrule.proofs.WordLemmas.{field-word}
use Rattle.cal_rrule.proofs.probes.has_day.Goals as goal

pub returns-in-Ok : goal.returns-in-Ok
returns-in-Ok g c =
    let s = g.C.Calendar.system c.args.calendar.now in
    let same = field-word c.args.year c.requires in
    ap is_found c.in-Ok.ensures.resolved
    ∙ ap (λ (y : ℤ). is_found (resolve s.list s.year_names (day_bag y c.args.place c.args.day) Reject missing.Reject)) same
    ∙ day-found s.list s.year_names c.args.year c.args.place c.args.day c.requires

pub returns-in-Err : goal.returns-in-Err
returns-in-Err g c =
    let s = g.C.Calendar.system c.args.calendar.now in
    let same = field-word c.args.year c.requires in
    c.is_overflow.ensures
    ∙ ap is_found c.in-Err.ensures.resolved
    ∙ ap (λ (y : ℤ). is_found (resolve s.list s.year_names (day_bag y c.args.place c.args.day) Reject missing.Reject)) same
    ∙ day-found s.list s.year_names c.args.year c.args.place c.args.day c.requires
