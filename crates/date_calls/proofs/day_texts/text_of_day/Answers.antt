use Rattle.std.proofs.Common.{◌≡◌, ap, ◌∙◌, subst, arith, w64, to_z, of_z}
use Rattle.cal_base.specs.IsoSystem.{iso_system}
use Rattle.cal_days.proofs.Signed.{signed}
use Rattle.cal_days.specs.Day.{is_valid_day}
use Rattle.date_calls.proofs.DayTextLemmas.{writes}
use Rattle.date_calls.specs.Dates.{IsShown}
use Rattle.date_calls.proofs.day_texts.text_of_day.Goals as goal

pub returns : goal.returns
returns c =
    let same : to_z w64 (of_z w64 c.args.day) ≡ c.args.day = omega (arith, signed, c.ranges.day.sfits) in
    let valid = c.in-Some.ensures.some ∙ ap is_valid_day same in
    let shown = subst (λ n. IsShown iso_system n c.iso_date.result) (c.in-Some.ensures.day ∙ same) c.iso_date.ensures.shown in
    writes c.args.calendar c.args.day c.in-Ok.behind.now c.iso_date.result c.put_date.result c.put_date.new.written c.args.room.now c.put_date.new.room c.in-Ok.ensures valid shown c.put_date.ensures
