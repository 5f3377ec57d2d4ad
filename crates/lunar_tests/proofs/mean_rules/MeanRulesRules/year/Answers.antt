use Rattle.std.proofs.Common.{◌≡◌, ◌∙◌, subst, sym, to_z, of_z, w32, w64, arith}
use Rattle.cal_days.proofs.Signed.{signed}
use Rattle.cal_east_asian.specs.MeanYears.{IsOffset}
use Rattle.cal_east_asian.specs.laws.RuleLaws.{mean-same}
use Rattle.lunar_tests.proofs.mean_rules.MeanRulesRules.year.Goals as goal

pub returns : goal.returns
returns c =
    let s = c.args.self.now in
    let offset : to_z w64 (of_z w64 s.utc_offset) ≡ s.utc_offset = omega (arith, signed, s.offset) in
    let number : to_z w32 (of_z w32 c.args.related_iso) ≡ c.args.related_iso = omega (arith, signed) in
    let there : IsOffset (to_z w64 (of_z w64 s.utc_offset)) = subst IsOffset (sym offset) s.offset in
    c.mean_year.ensures.exact there ∙ mean-same (to_z w64 (of_z w64 s.utc_offset)) s.utc_offset there s.offset offset (to_z w32 (of_z w32 c.args.related_iso)) c.args.related_iso number
