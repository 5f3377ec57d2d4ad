use Rattle.std.proofs.Common.{◌≡◌, ◌∙◌, ◌↔◌, ap, sym, Bool, IsTrue, ℤ, subst}
use Rattle.cal_types.specs.CalendarList.{month_at}
use Rattle.cal_types.specs.MonthParts.{month_parts}
use Rattle.cal_types.specs.Resolving.{resolve}
use Rattle.cal_types.specs.declared.options.MissingFieldsStrategy.TheVariants as missing
use Rattle.cal_types.specs.declared.options.Overflow.TheVariants.{Reject}
use Rattle.cal_rrule.proofs.ProbeLemmas.{in-place, is_found, month-found, month_bag}
use Rattle.cal_rrule.proofs.WordLemmas.{field-word}
use Rattle.cal_rrule.proofs.probes.is_in_place.Goals as goal

pub returns-in-Ok : goal.returns-in-Ok
returns-in-Ok g c =
    let s = g.C.Calendar.system c.args.calendar.now in
    let m = month_parts c.args.month in
    let same = field-word c.args.year c.requires.year in
    let found =
    ap is_found c.in-Ok.ensures.resolved
    ∙ ap (λ (y : ℤ). is_found (resolve s.list s.year_names (month_bag y c.args.place m) Reject missing.Reject)) same
    ∙ month-found s.list s.year_names c.args.year c.args.place m c.requires.year in
    subst (λ (b : Bool). IsTrue b ↔ (month_at s.list c.args.year c.args.place ≡ m)) (sym found)
    (in-place s.list (g.met.C.Calendar.lawful c.args.calendar.now) c.args.year c.args.place m c.requires.place)

pub returns-in-Err : goal.returns-in-Err
returns-in-Err g c =
    let s = g.C.Calendar.system c.args.calendar.now in
    let m = month_parts c.args.month in
    let same = field-word c.args.year c.requires.year in
    let found =
    c.is_overflow.ensures
    ∙ ap is_found c.in-Err.ensures.resolved
    ∙ ap (λ (y : ℤ). is_found (resolve s.list s.year_names (month_bag y c.args.place m) Reject missing.Reject)) same
    ∙ month-found s.list s.year_names c.args.year c.args.place m c.requires.year in
    subst (λ (b : Bool). IsTrue b ↔ (month_at s.list c.args.year c.args.place ≡ m)) (sym found)
    (in-place s.list (g.met.C.Calendar.lawful c.args.calendar.now) c.args.year c.args.place m c.requires.place)
