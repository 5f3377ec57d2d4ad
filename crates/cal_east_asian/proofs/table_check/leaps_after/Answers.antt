use Rattle.std.proofs.Common.{◌≡◌, ◌∙◌, sym, arith, pos, ◌+ℤ◌, Bool, true, false, ◌&&◌}
use Rattle.cal_days.proofs.Signed.{signed}
use Rattle.cal_types.specs.laws.YearArguments.{IsAsked, year_after}
use Rattle.cal_east_asian.specs.laws.ComputedLaws.{computed_year}
use Rattle.cal_east_asian.specs.TableAccepted.{leap_by_years}
use Rattle.cal_east_asian.specs.TableYears as table
use Rattle.cal_east_asian.specs.EastAsianRows.{years_of}
use Rattle.cal_east_asian.proofs.table_check.leaps_after.Goals as goal

both : (a b d : Bool) → a ≡ true → b ≡ d → b ≡ (a && d)
both a b d e f = rw e f

fails : (a b d : Bool) → a ≡ b → a ≡ false → a ≡ (b && d)
fails a b d f e = let off : b ≡ false = sym f ∙ e in rw off e

pub returns-then-is_leap_in_three : goal.returns-then-is_leap_in_three
returns-then-is_leap_in_three c =
    let y = c.args.row.related_iso in
    let leaps = leap_by_years (table.chosen_year (computed_year c.args.side) (years_of c.args.rows.now)) in
    let near : IsAsked y = (omega (arith, signed, c.requires), omega (arith, signed, c.requires)) in
    let first : c.is_leap_in_three.result ≡ leaps (y +ℤ pos 1) = c.is_leap_in_three.ensures ∙ year_after leaps y 1 near (omega arith) in
    both (leaps (y +ℤ pos 1)) _ (leaps (y +ℤ pos 2)) (sym first ∙ c.if-is_leap_in_three.true) (c.is_leap_in_three-then-is_leap_in_three.ensures ∙ year_after leaps y 2 near (omega arith))

pub returns-else-is_leap_in_three : goal.returns-else-is_leap_in_three
returns-else-is_leap_in_three c =
    let y = c.args.row.related_iso in
    let leaps = leap_by_years (table.chosen_year (computed_year c.args.side) (years_of c.args.rows.now)) in
    let near : IsAsked y = (omega (arith, signed, c.requires), omega (arith, signed, c.requires)) in
    fails _ (leaps (y +ℤ pos 1)) (leaps (y +ℤ pos 2)) (c.is_leap_in_three.ensures ∙ year_after leaps y 1 near (omega arith)) c.if-is_leap_in_three.false
