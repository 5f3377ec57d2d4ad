use Rattle.std.proofs.Common.{◌≡◌, ◌∙◌, ap, subst, arith, ℤ, to_z, of_z, w32}
use Rattle.cal_days.proofs.Signed.{signed}
use Rattle.cal_types.specs.laws.RowPlaces.{chosen-row, chosen-other}
use Rattle.cal_hijri.specs.HijriRows.{years_of}
use Rattle.cal_hijri.specs.TableYears as years
use Rattle.cal_hijri.specs.laws.TableLaws.{accepted-consecutive}
use Rattle.cal_hijri.specs.declared.hijri_year.HijriYear.{HijriYear}
use Rattle.cal_hijri.specs.TableFriday.{friday_year}
use Rattle.cal_hijri.proofs.hijri_table.HijriTable.year.Goals as goal

-- the result is the chosen year
given : (f : ℤ → HijriYear) (y : ℤ) (r : HijriYear) → to_z w32 (of_z w32 y) ≡ y → r ≡ f (to_z w32 (of_z w32 y)) → r ≡ f y
given f y r same h = h ∙ ap f same

pub returns-clause-row : goal.returns-clause-row
returns-clause-row c i row h e =
    let s = c.args.self.now in
    let same : to_z w32 (of_z w32 c.args.extended_year) ≡ c.args.extended_year = omega (arith, signed, c.requires) in
    let f = years.chosen friday_year (years_of s.rows.now) in
    given f c.args.extended_year c.chosen.result same c.chosen.ensures
    ∙ subst (λ (y : ℤ). f y ≡ row) e (chosen-row years.number_of friday_year (years_of s.rows.now) (accepted-consecutive friday_year (years_of s.rows.now) s.accepted) i row h)

pub returns-clause-other : goal.returns-clause-other
returns-clause-other c none =
    let s = c.args.self.now in
    let same : to_z w32 (of_z w32 c.args.extended_year) ≡ c.args.extended_year = omega (arith, signed, c.requires) in
    given (years.chosen friday_year (years_of s.rows.now)) c.args.extended_year c.chosen.result same c.chosen.ensures
    ∙ chosen-other years.number_of friday_year (years_of s.rows.now) (accepted-consecutive friday_year (years_of s.rows.now) s.accepted) c.args.extended_year none
