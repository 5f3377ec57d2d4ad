use Rattle.std.proofs.Common.{◌≡◌, ◌∙◌, ℤ, Bool, true, Ok, Result, sym, ap, to_z, of_z, w32, arith}
use Rattle.cal_days.specs.Day.{IsFieldYear}
use Rattle.cal_days.proofs.Signed.{signed}
use Rattle.cal_types.specs.MonthParts.{month_parts}
use Rattle.cal_errors.specs.declared.errors.EcmaReferenceYearError.{EcmaReferenceYearError}
use Rattle.cal_arith.proofs.GivenLemmas.{given_by}
use Rattle.cal_east_asian.specs.EastAsianPlaces.{is_east_asian_month}
use Rattle.cal_east_asian.specs.EastAsianList.{east_asian_years}
use Rattle.cal_east_asian.specs.laws.EastAsianNameLaws.{reference_by}
use Rattle.cal_east_asian.proofs.east_asian_traditional.EastAsianTraditionalDateFieldsResolver.reference_year_from_month_day.Goals as goal

number : (y : ℤ) → IsFieldYear y → to_z w32 (of_z w32 y) ≡ y
number y field = omega (arith, signed, field)

pub year-requires : goal.year-requires
year-requires g c =
    let said = sym c.ecma_reference_year.ensures ∙ c.in-Ok.is in
    let field = g.met.R.Rules.reference_in_range c.args.self.now.0 (month_parts c.args.month) c.args.day c.in-Ok.related_iso said in
    (omega (arith, signed, field), omega (arith, signed, field))

pub returns-in-Ok-clause-year : goal.returns-in-Ok-clause-year
returns-in-Ok-clause-year g c =
    let s = c.args.self.now.0 in
    let reference = g.R.Rules.reference s (month_parts c.args.month) c.args.day in
    let said = sym c.ecma_reference_year.ensures ∙ c.in-Ok.is in
    let field = g.met.R.Rules.reference_in_range s (month_parts c.args.month) c.args.day c.in-Ok.related_iso said in
    let kind : is_east_asian_month (month_parts c.args.month) ≡ true = sym c.is_east_asian.ensures ∙ c.if-not-is_east_asian.false in
    let given = given_by (east_asian_years (g.R.Rules.year_of s)) (g.met.R.Rules.lawful s).numbered _ _ c.in-Ok.related_iso c.year.ensures (number c.in-Ok.related_iso field) (omega (arith, signed, field), omega (arith, signed, field)) in
    let answer : ◌≡◌ {A = Result ℤ EcmaReferenceYearError} (Ok c.in-Ok.related_iso) (reference_by (is_east_asian_month (month_parts c.args.month)) reference) = sym (ap (λ (b : Bool). reference_by b reference) kind ∙ said) in
    ap (λ (y : ℤ). Ok y) given.1 ∙ answer

pub returns-in-Ok-clause-given : goal.returns-in-Ok-clause-given
returns-in-Ok-clause-given g c =
    let s = c.args.self.now.0 in
    let said = sym c.ecma_reference_year.ensures ∙ c.in-Ok.is in
    let field = g.met.R.Rules.reference_in_range s (month_parts c.args.month) c.args.day c.in-Ok.related_iso said in
    (given_by (east_asian_years (g.R.Rules.year_of s)) (g.met.R.Rules.lawful s).numbered _ _ c.in-Ok.related_iso c.year.ensures (number c.in-Ok.related_iso field) (omega (arith, signed, field), omega (arith, signed, field))).0
