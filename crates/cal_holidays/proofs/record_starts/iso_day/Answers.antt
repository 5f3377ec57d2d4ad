use Rattle.std.proofs.Common.{◌∙◌, Some, Ok, Err, ap, arith}
use Rattle.cal_base.specs.IsoSystem.{iso_date}
use Rattle.cal_days.proofs.Signed.{signed_casts}
use Rattle.cal_types.specs.MonthParts.{month_parts}
use Rattle.cal_holidays.proofs.StartLemmas.{made-day, made-valid}
use Rattle.cal_holidays.proofs.record_starts.iso_day.Goals as goal

pub returns-in-Ok-clause-value : goal.returns-in-Ok-clause-value
returns-in-Ok-clause-value c =
    ap Some c.to_rata_die.ensures
    ∙ made-day (Ok (iso_date c.in-Ok.date)) _ (month_parts c.new.result) c.args.year c.args.month c.args.day
    (omega (arith, signed_casts, c.requires)) c.new.ensures c.in-Ok.ensures.resolved

pub returns-in-Ok-clause-valid : goal.returns-in-Ok-clause-valid
returns-in-Ok-clause-valid c = made-valid (iso_date c.in-Ok.date) c.to_rata_die.result _ c.to_rata_die.ensures c.in-Ok.ensures.resolved

pub returns-in-Err-clause-value : goal.returns-in-Err-clause-value
returns-in-Err-clause-value c =
    made-day (Err c.in-Err.field-0) _ (month_parts c.new.result) c.args.year c.args.month c.args.day
    (omega (arith, signed_casts, c.requires)) c.new.ensures c.in-Err.ensures.resolved
