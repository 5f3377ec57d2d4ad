use Rattle.std.proofs.Common.{◌≡◌, ℤ, sym, subst, arith, to_z, of_z, w64}
use Rattle.cal_days.proofs.Signed.{signed}
use Rattle.cal_types.specs.CalendarList.{IsOn}
use Rattle.cal_rrule.proofs.AskingLemmas.{look-asked}
use Rattle.cal_rrule.proofs.asked.Asked.new.Goals as goal

pub returns-clause-asked : goal.returns-clause-asked
returns-clause-asked c = λ list t is on.
    let same : to_z w64 (of_z w64 c.args.day) ≡ c.args.day = omega (arith, signed, c.requires.valid.0, c.requires.valid.1) in
    look-asked list t _ c.missing_of.ensures is
    (omega (arith, signed, same, c.requires.within.0), omega (arith, signed, same, c.requires.within.1))
    (omega (arith, signed, same, c.requires.valid.0), omega (arith, signed, same, c.requires.valid.1))
    (subst (λ (n : ℤ). IsOn list n t) (sym same) on) c.day_of_month.ensures
