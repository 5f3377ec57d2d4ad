use Rattle.std.proofs.Common.{◌≡◌, ◌∙◌, ap, sym, arith, ℤ, to_z, of_z, w32, List, Option, Some, None}
use Rattle.std.specs.Option.{unwrap_or}
use Rattle.cal_days.specs.Day.{IsRuleYear}
use Rattle.cal_days.proofs.Signed.{signed}
use Rattle.cal_east_asian.specs.laws.ComputedLaws.{computed_year}
use Rattle.cal_east_asian.specs.TableYears as table
use Rattle.cal_east_asian.specs.TableYears.{chosen_year}
use Rattle.cal_east_asian.specs.declared.east_asian_traditional_year.EastAsianTraditionalYear.{EastAsianTraditionalYear}
use Rattle.cal_east_asian.specs.EastAsianRows.{years_of}
use Rattle.cal_east_asian.proofs.chosen_years.chosen_year.Goals as goal

year_back : (y : ℤ) → IsRuleYear y → to_z w32 (of_z w32 y) ≡ y
year_back y h = omega (arith, signed, h)

-- the row that is found is the chosen year, and where none is, the computed year
found : (f : ℤ → EastAsianTraditionalYear) (rows : List EastAsianTraditionalYear) (y z : ℤ) (o : Option EastAsianTraditionalYear) (row : EastAsianTraditionalYear) → z ≡ y → o ≡ table.row_of rows z → o ≡ Some row → row ≡ chosen_year f rows y
found f rows y z o row same is some = ap (λ (x : Option EastAsianTraditionalYear). unwrap_or x (f y)) (sym some ∙ is ∙ ap (table.row_of rows) same)

absent : (f : ℤ → EastAsianTraditionalYear) (rows : List EastAsianTraditionalYear) (y z : ℤ) (o : Option EastAsianTraditionalYear) → z ≡ y → o ≡ table.row_of rows z → o ≡ None → f y ≡ chosen_year f rows y
absent f rows y z o same is none = ap (λ (x : Option EastAsianTraditionalYear). unwrap_or x (f y)) (sym none ∙ is ∙ ap (table.row_of rows) same)

pub returns-in-Some : goal.returns-in-Some
returns-in-Some c =
    found (computed_year c.args.side) (years_of c.args.rows.now) c.args.related_iso _ c.row_of.result c.in-Some.row (year_back c.args.related_iso c.requires) c.row_of.ensures c.in-Some.is

pub returns-in-None : goal.returns-in-None
returns-in-None c =
    let f = computed_year c.args.side in
    let same = year_back c.args.related_iso c.requires in
    c.computed_year.ensures.exact ∙ ap f same ∙ absent f (years_of c.args.rows.now) c.args.related_iso _ c.row_of.result same c.row_of.ensures c.in-None.is
