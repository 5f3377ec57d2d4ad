use Rattle.std.proofs.Common.{◌≡◌, Bool, true, false, if◌then◌else◌, sym, ap, ◌∙◌, arith, ℤ, pos, ◌-ℤ◌, to_z, of_z, w32}
use Rattle.cal_days.specs.Day.{IsRuleYear}
use Rattle.cal_days.specs.Persian.{persian_start}
use Rattle.cal_days.proofs.Signed.{signed}
use Rattle.cal_julian.specs.PersianRule.{is_corrected, persian_new_year}
use Rattle.cal_julian.proofs.persian_corrections.PersianCorrections.year_start.Goals as goal

-- the numbers of the year, and of the year before it, as they are computed
module _ (y : ℤ) (range : IsRuleYear y) where
  this_year : to_z w32 (of_z w32 y) ≡ y
  this_year = omega (arith, signed, range)

  year_before : to_z w32 (of_z w32 (to_z w32 (of_z w32 y) -ℤ pos 1)) ≡ y -ℤ pos 1
  year_before = omega (arith, signed, range)

pub returns-then-contains : goal.returns-then-contains
returns-then-contains c =
    let years = c.args.self.now.years.now in let y = c.args.year in
    let before : is_corrected years (y -ℤ pos 1) ≡ true = sym (ap (is_corrected years) (year_before y c.requires)) ∙ (sym c.contains.ensures ∙ c.if-contains.true) in
    let early : persian_new_year years y ≡ persian_start y -ℤ pos 1 = ap (λ (b : Bool). if b then persian_start y -ℤ pos 1 else persian_start y) before in
    omega (arith, signed, early, ap persian_start (this_year y c.requires), c.year_start.ensures.formula, c.to_i64_date-start.ensures.value, c.to_i64_date-start.ensures.range)

pub returns-else-contains : goal.returns-else-contains
returns-else-contains c =
    let years = c.args.self.now.years.now in let y = c.args.year in
    let before : is_corrected years (y -ℤ pos 1) ≡ false = sym (ap (is_corrected years) (year_before y c.requires)) ∙ (sym c.contains.ensures ∙ c.if-contains.false) in
    let here : persian_new_year years y ≡ persian_start y = ap (λ (b : Bool). if b then persian_start y -ℤ pos 1 else persian_start y) before in
    omega (arith, signed, here, ap persian_start (this_year y c.requires), c.year_start.ensures.formula, c.to_i64_date-start.ensures.value, c.to_i64_date-start.ensures.range)
