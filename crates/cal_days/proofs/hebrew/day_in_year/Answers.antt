use Rattle.std.proofs.Common.{arith}
use Rattle.cal_days.proofs.Signed.{signed_casts}
use Rattle.cal_days.proofs.HebrewLemmas.{hebrew_start-next, hebrew_year_length-most}
use Rattle.cal_days.proofs.hebrew.day_in_year.Goals as goal

pub overflow_cast-result : goal.overflow_cast-result
overflow_cast-result c =
    let next = hebrew_start-next c.args.year in let most = hebrew_year_length-most c.args.year in
    (omega (arith, signed_casts, c.requires, c.since.ensures, next, most), omega (arith, signed_casts, c.requires, c.since.ensures, next, most))

pub overflow_cast-result-2 : goal.overflow_cast-result-2
overflow_cast-result-2 c =
    let next = hebrew_start-next c.args.year in let most = hebrew_year_length-most c.args.year in
    (omega (arith, signed_casts, c.requires, c.since-2.ensures, next, most), omega (arith, signed_casts, c.requires, c.since-2.ensures, next, most))

pub returns-clause-length : goal.returns-clause-length
returns-clause-length c = omega (arith, signed_casts, c.requires, c.since-2.ensures, hebrew_start-next c.args.year, hebrew_year_length-most c.args.year)
