use Rattle.std.proofs.Common.{arith}
use Rattle.cal_days.proofs.Signed.{signed}
use Rattle.cal_coptic.proofs.coptic.CopticYearShapes.to_rata_die_inner.Goals as goal

pub day_number-requires-clause-year : goal.day_number-requires-clause-year
day_number-requires-clause-year c = (omega (arith, signed, c.requires.year.range), omega (arith, signed, c.requires.year.range))
