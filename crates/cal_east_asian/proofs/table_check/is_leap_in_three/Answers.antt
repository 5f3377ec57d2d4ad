use Rattle.std.proofs.Common.{◌≡◌, ◌∙◌, refl, arith, ℤ, pos, ◌-ℤ◌, ◌||◌}
use Rattle.cal_days.proofs.Signed.{signed}
use Rattle.cal_types.specs.laws.YearArguments.{IsAsked, year_same, year_before}
use Rattle.cal_east_asian.specs.laws.ComputedLaws.{computed_year}
use Rattle.cal_east_asian.specs.EastAsianYears.{has_leap_month}
use Rattle.cal_east_asian.specs.TableYears as table
use Rattle.cal_east_asian.specs.declared.east_asian_traditional_year.EastAsianTraditionalYear.{EastAsianTraditionalYear}
use Rattle.cal_east_asian.specs.EastAsianRows.{years_of}
use Rattle.cal_east_asian.proofs.table_check.is_leap_in_three.Goals as goal

-- the test of three years, where they are known
of_three : (years : ℤ → EastAsianTraditionalYear) (y : ℤ) (a b d : EastAsianTraditionalYear) → a ≡ years y → b ≡ years (y -ℤ pos 1) → d ≡ years (y -ℤ pos 2) → (has_leap_month a || (has_leap_month b || has_leap_month d)) ≡ (has_leap_month (years y) || (has_leap_month (years (y -ℤ pos 1)) || has_leap_month (years (y -ℤ pos 2))))
of_three years y a b d e f h = rw (e, f, h) refl

pub returns : goal.returns
returns c =
    let y = c.args.related_iso in
    let years = table.chosen_year (computed_year c.args.side) (years_of c.args.rows.now) in
    let near : IsAsked y = (omega (arith, signed, c.requires), omega (arith, signed, c.requires)) in
    c.is_one_leap.ensures ∙ of_three years y _ _ _ (c.chosen_year.ensures ∙ year_same years y near) (c.chosen_year-2.ensures ∙ year_before years y 1 near (omega arith)) (c.chosen_year-3.ensures ∙ year_before years y 2 near (omega arith))
