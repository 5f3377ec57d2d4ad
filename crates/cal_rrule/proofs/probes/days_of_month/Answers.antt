use Rattle.std.proofs.Common.{◌≡◌, ◌∙◌, ◌-◌, ap, sym, arith, ℤ, w32, to_z, of_z}
use Rattle.cal_types.specs.CalendarList.{date, is_date, month_length}
use Rattle.cal_rrule.proofs.ProbeLemmas.{length-found, length-less}
use Rattle.cal_rrule.proofs.WordLemmas.{field-word}
use Rattle.cal_rrule.proofs.probes.days_of_month.Goals as goal

pub loop-fewer-init : goal.loop-fewer-init
loop-fewer-init g c =
    let list = (g.C.Calendar.system c.args.calendar.now).list in
    let same = field-word c.args.year c.requires.year in
    let length : month_length list (to_z w32 (of_z w32 c.args.year)) c.args.place ≡ month_length list c.args.year c.args.place =
    ap (λ (y : ℤ). month_length list y c.args.place) same in
    omega (arith, length, ((g.met.C.Calendar.lawful c.args.calendar.now).lengths c.args.year c.args.place c.requires.place).1)

pub returns-then-has_day : goal.returns-then-has_day
returns-then-has_day g c =
    let list = (g.C.Calendar.system c.args.calendar.now).list in
    let same = field-word c.args.year c.requires.year in
    let length : month_length list (to_z w32 (of_z w32 c.args.year)) c.args.place ≡ month_length list c.args.year c.args.place =
    ap (λ (y : ℤ). month_length list y c.args.place) same in
    length-found list c.args.year c.args.place (31 - c.loop-fewer.fewer) (omega (arith, length, c.loop-fewer.invariant))
    (ap (λ (y : ℤ). is_date list (date y c.args.place (31 - c.loop-fewer.fewer))) (sym same) ∙ sym c.has_day.ensures ∙ c.if-has_day.true)

pub loop-fewer-preserved : goal.loop-fewer-preserved
loop-fewer-preserved g c =
    let list = (g.C.Calendar.system c.args.calendar.now).list in
    let same = field-word c.args.year c.requires.year in
    let length : month_length list (to_z w32 (of_z w32 c.args.year)) c.args.place ≡ month_length list c.args.year c.args.place =
    ap (λ (y : ℤ). month_length list y c.args.place) same in
    let less = length-less list c.args.year c.args.place (31 - c.loop-fewer.fewer) c.requires.place
    (omega (arith, c.loop-fewer-test.true)) (omega (arith, length, c.loop-fewer.invariant))
    (ap (λ (y : ℤ). is_date list (date y c.args.place (31 - c.loop-fewer.fewer))) (sym same) ∙ sym c.has_day.ensures ∙ c.if-has_day.false) in
    omega (arith, length, less)

pub returns : goal.returns
returns g c =
    let list = (g.C.Calendar.system c.args.calendar.now).list in
    let same = field-word c.args.year c.requires.year in
    let length : month_length list (to_z w32 (of_z w32 c.args.year)) c.args.place ≡ month_length list c.args.year c.args.place =
    ap (λ (y : ℤ). month_length list y c.args.place) same in
    omega (
      arith,
      length,
      c.loop-fewer.invariant,
      c.loop-fewer-test.false,
      ((g.met.C.Calendar.lawful c.args.calendar.now).lengths c.args.year c.args.place c.requires.place).0,
    )
