use Rattle.std.proofs.Common.{◌≡◌, ℤ, Some, FitsSigned, w32, to_z, of_z, subst, rules, arith}
use Rattle.cal_days.proofs.Signed.{signed}
use Rattle.cal_types.specs.Bag.{bag_of}
use Rattle.cal_types.specs.MonthParts.{month_parts}
use Rattle.request_lines.specs.PlainDates.{GoesOn}
use Rattle.request_lines.specs.WordsLeft.{words_left}
use Rattle.request_lines.proofs.PlainDateLemmas.{both_go_on}
use Rattle.request_lines.proofs.bag.set_plain_month_of_year.Goals as goal

pub returns-in-Some : goal.returns-in-Some
returns-in-Some c =
    let bag = bag_of c.args.fields.now in
    let words = words_left c.args.words.now in
    let left = words_left c.take_plain_year_and_month.new.self in
    let it = c.in-Some.month in
    let fits : FitsSigned w32 it.year = search rules in
    let same : it.year ≡ to_z w32 (of_z w32 it.year) = omega (arith, signed) in
    subst (λ (z : ℤ). GoesOn bag words (record bag { extended_year = Some z; month = Some (month_parts it.month) }) left) same
    (both_go_on bag words left it (c.has_month.ensures c.if-has_month.false) c.in-Some.ensures)
