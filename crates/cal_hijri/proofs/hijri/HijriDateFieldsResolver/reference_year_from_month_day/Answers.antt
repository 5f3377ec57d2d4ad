use Rattle.std.proofs.Common.{◌≡◌, ◌∙◌, ℤ, Bool, true, Ok, Result, sym, ap, to_z, of_z, w32, arith}
use Rattle.cal_days.specs.Day.{IsFieldYear}
use Rattle.cal_days.proofs.Signed.{signed}
use Rattle.cal_types.specs.MonthParts.{month_parts}
use Rattle.cal_errors.specs.declared.errors.EcmaReferenceYearError.{EcmaReferenceYearError}
use Rattle.cal_types.specs.PlainMonths.{is_plain_month}
use Rattle.cal_hijri.specs.HijriNames.{reference_of_rules}
use Rattle.cal_hijri.specs.declared.hijri_year.HijriYear.{HijriYear}
use Rattle.cal_hijri.proofs.hijri.HijriDateFieldsResolver.reference_year_from_month_day.Goals as goal

number : (y : ℤ) → IsFieldYear y → to_z w32 (of_z w32 y) ≡ y
number y field = omega (arith, signed, field)

pub year-requires : goal.year-requires
year-requires g c =
    let said = sym c.ecma_reference_year.ensures ∙ c.in-Ok.is in
    let field = (g.met.R.Rules.references c.args.self.now.0).range (month_parts c.args.month) c.args.day c.in-Ok.year said in
    (omega (arith, signed, field), omega (arith, signed, field))

pub returns-in-Ok-clause-year : goal.returns-in-Ok-clause-year
returns-in-Ok-clause-year g c =
    let s = c.args.self.now.0 in
    let reference = g.R.Rules.reference s (month_parts c.args.month) c.args.day in
    let said = sym c.ecma_reference_year.ensures ∙ c.in-Ok.is in
    let field = (g.met.R.Rules.references s).range (month_parts c.args.month) c.args.day c.in-Ok.year said in
    let kind : is_plain_month 12 (month_parts c.args.month) ≡ true = sym c.is_plain.ensures ∙ c.if-not-is_plain.false in
    let kept = number c.in-Ok.year field in
    let year : c.year.result.extended_year ≡ c.in-Ok.year = ap (λ (y : HijriYear). y.extended_year) (c.year.ensures ∙ ap (g.R.Rules.year_of s) kept) ∙ g.met.R.Rules.numbered s c.in-Ok.year (omega (arith, signed, field), omega (arith, signed, field)) in
    let answer : ◌≡◌ {A = Result ℤ EcmaReferenceYearError} (Ok c.in-Ok.year) (reference_of_rules (is_plain_month 12 (month_parts c.args.month)) reference) = sym (ap (λ (b : Bool). reference_of_rules b reference) kind ∙ said) in
    ap (λ (y : ℤ). Ok y) year ∙ answer

pub returns-in-Ok-clause-given : goal.returns-in-Ok-clause-given
returns-in-Ok-clause-given g c =
    let s = c.args.self.now.0 in
    let said = sym c.ecma_reference_year.ensures ∙ c.in-Ok.is in
    let field = (g.met.R.Rules.references s).range (month_parts c.args.month) c.args.day c.in-Ok.year said in
    let kept = number c.in-Ok.year field in
    let is = c.year.ensures ∙ ap (g.R.Rules.year_of s) kept in
    let year = ap (λ (y : HijriYear). y.extended_year) is ∙ g.met.R.Rules.numbered s c.in-Ok.year (omega (arith, signed, field), omega (arith, signed, field)) in
    record { same = ap (g.R.Rules.year_of s) year ∙ sym is; range = (omega (arith, signed, field, year), omega (arith, signed, field, year)) }
