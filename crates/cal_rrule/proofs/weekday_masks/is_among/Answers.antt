use Rattle.std.proofs.Common.{◌≡◌, ◌∙◌, pos, ◌+ℤ◌, ap, refl, arith}
use Rattle.std.specs.Int.{int_rem_euclid}
use Rattle.cal_days.proofs.Signed.{signed}
use Rattle.cal_rrule.specs.NamedDays.{stretch}
use Rattle.cal_rrule.proofs.WeekdayLemmas.{among}
use Rattle.cal_rrule.proofs.weekday_masks.is_among.Goals as goal

pub returns : goal.returns
returns c =
    let day : c.new.result ≡ c.args.first +ℤ pos c.args.offset = omega (arith, signed) in
    rw (c.has.ensures, c.has-2.ensures, c.has-3.ensures)
    (among (stretch c.args.first c.args.length) c.args.offset c.args.week _ c.requires.offset c.requires.within refl
    c.args.set.now c.from-weekday.result _ refl
    (c.from-weekday.ensures ∙ ap (λ z. int_rem_euclid z (pos 7)) day))
