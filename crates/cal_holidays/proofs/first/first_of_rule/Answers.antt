use Rattle.std.proofs.Common.{◌≡◌, ◌∙◌, to_z, of_z, w64, arith, ap, sym, subst, Some, FitsSigned, rules}
use Rattle.std.specs.Prelude.{option_map}
use Rattle.cal_days.proofs.Signed.{signed}
use Rattle.cal_holidays.specs.Found.{stretch_of}
use Rattle.cal_holidays.specs.Merging.{IsFirst, IsFirstDay}
use Rattle.cal_holidays.proofs.FirstLemmas.{first_of_one}
use Rattle.cal_holidays.proofs.first.first_of_rule.Goals as goal

pub returns : goal.returns
returns g c =
    let names = g.R.NumberedRules.names c.args.rules.now in
    let count = g.R.NumberedRules.count_of c.args.rules.now in
    let rule = c.args.rule in
    let fits : FitsSigned w64 c.begin_of.result = search rules in
    let from : to_z w64 (of_z w64 c.begin_of.result) ≡ c.begin_of.result = omega (arith, signed) in
    let found = subst (λ z. IsFirstDay (names rule) z c.args.rest.window.last c.first_day.result) from
    (subst (λ z. IsFirstDay (names rule) (to_z w64 (of_z w64 c.begin_of.result)) z c.first_day.result) c.last.ensures c.first_day.ensures) in
    let first = first_of_one names count (stretch_of c.args.rest) rule c.begin_of.result c.first_day.result c.requires c.begin_of.ensures.day found in
    let held : to_z w64 (of_z w64 c.to_i64_date.result) ≡ c.to_i64_date.result = omega (arith, signed, c.to_i64_date.ensures.range) in
    let day : c.in_ok-day.day ≡ to_z w64 (of_z w64 c.to_i64_date.result) = sym (held ∙ c.to_i64_date.ensures.value) in
    let same = ap (option_map (λ n. (n, rule))) c.in_ok-day.was ∙ ap (λ n. Some (n, rule)) day in
    subst (IsFirst names count (λ r. r ≡ rule) (stretch_of c.args.rest)) same first
