use Rattle.std.proofs.Common.{◌≡◌, ◌∙◌, sym, arith, Bool, true, false, ◌&&◌, ◌||◌, ◌+◌, nat_lt, length}
use Rattle.cal_days.proofs.Signed.{signed}
use Rattle.cal_types.specs.laws.YearArguments.{IsAsked, year_same}
use Rattle.cal_east_asian.specs.laws.ComputedLaws.{computed_year}
use Rattle.cal_east_asian.specs.TableAccepted.{leap_by_years, leaps_after}
use Rattle.cal_east_asian.specs.TableYears as table
use Rattle.cal_east_asian.specs.EastAsianRows.{years_of}
use Rattle.cal_east_asian.proofs.table_check.meets_leap.Goals as goal

both : (a b d : Bool) → a ≡ true → b ≡ d → b ≡ (a && d)
both a b d e f = rw e f

fails : (a b d : Bool) → a ≡ b → a ≡ false → a ≡ (b && d)
fails a b d f e = let off : b ≡ false = sym f ∙ e in rw off e

pub returns-then-is_leap_in_three : goal.returns-then-is_leap_in_three
returns-then-is_leap_in_three c =
    let y = c.args.row.related_iso in
    let leaps = leap_by_years (table.chosen_year (computed_year c.args.side) (years_of c.args.rows.now)) in
    let near : IsAsked y = (omega (arith, signed, c.requires.year), omega (arith, signed, c.requires.year)) in
    let first : c.is_leap_in_three.result ≡ leaps y = c.is_leap_in_three.ensures ∙ year_same leaps y near in
    both (leaps y) _ _ (sym first ∙ c.if-is_leap_in_three.true) c.has_leaps_after.ensures

pub returns-else-is_leap_in_three : goal.returns-else-is_leap_in_three
returns-else-is_leap_in_three c =
    let y = c.args.row.related_iso in
    let years = table.chosen_year (computed_year c.args.side) (years_of c.args.rows.now) in
    let near : IsAsked y = (omega (arith, signed, c.requires.year), omega (arith, signed, c.requires.year)) in
    fails _ (leap_by_years years y) (nat_lt (c.args.index + 1) (length (years_of c.args.rows.now)) || leaps_after years c.args.row) (c.is_leap_in_three.ensures ∙ year_same (leap_by_years years) y near) c.if-is_leap_in_three.false
