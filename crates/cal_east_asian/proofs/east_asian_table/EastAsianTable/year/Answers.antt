use Rattle.std.proofs.Common.{◌≡◌, ◌∙◌, ap, subst, arith, ℤ, to_z, of_z, w32}
use Rattle.cal_days.specs.Day.{IsRuleYear}
use Rattle.cal_days.proofs.Signed.{signed}
use Rattle.cal_types.specs.laws.RowPlaces.{chosen-row, chosen-other}
use Rattle.cal_east_asian.specs.laws.ComputedLaws.{computed_year, computed-years}
use Rattle.cal_east_asian.specs.TableYears.{number_of, chosen_year}
use Rattle.cal_east_asian.specs.laws.TableYearLaws.{accepted-consecutive, chosen-years}
use Rattle.cal_east_asian.specs.declared.east_asian_traditional_year.EastAsianTraditionalYear.{EastAsianTraditionalYear}
use Rattle.cal_east_asian.specs.EastAsianRows.{years_of}
use Rattle.cal_east_asian.proofs.east_asian_table.EastAsianTable.year.Goals as goal

year_back : (y : ℤ) → IsRuleYear y → to_z w32 (of_z w32 y) ≡ y
year_back y h = omega (arith, signed, h)

pub returns-clause-exact : goal.returns-clause-exact
returns-clause-exact c =
    let s = c.args.self.now in
    c.chosen_year.ensures ∙ ap (chosen_year (computed_year s.side) (years_of s.rows.now)) (year_back c.args.related_iso c.requires)

pub returns-clause-row : goal.returns-clause-row
returns-clause-row c row is =
    let s = c.args.self.now in
    returns-clause-exact c ∙ subst (λ (y : ℤ). chosen_year (computed_year s.side) (years_of s.rows.now) y ≡ row) is.2 (chosen-row number_of (computed_year s.side) (years_of s.rows.now) (accepted-consecutive (computed_year s.side) (years_of s.rows.now) s.accepted) is.0 row is.1)

pub returns-clause-other : goal.returns-clause-other
returns-clause-other c none =
    let s = c.args.self.now in
    returns-clause-exact c ∙ chosen-other number_of (computed_year s.side) (years_of s.rows.now) (accepted-consecutive (computed_year s.side) (years_of s.rows.now) s.accepted) c.args.related_iso none

pub returns-clause-number : goal.returns-clause-number
returns-clause-number c =
    let s = c.args.self.now in
    ap (λ (r : EastAsianTraditionalYear). r.related_iso) (returns-clause-exact c) ∙ (chosen-years (computed_year s.side) (years_of s.rows.now) s.accepted (computed-years s.side)).numbered c.args.related_iso c.requires
