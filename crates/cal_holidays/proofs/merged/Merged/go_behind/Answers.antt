use Rattle.std.proofs.Common.{◌≡◌, ◌∙◌, length, slice_set, ◌%◌, rules, arith, ap, sym, subst, refl, Some, FitsSigned, w64, to_z, of_z}
use Rattle.std.specs.Prelude.{option_map}
use Rattle.std.specs.Option.{unwrap_or}
use Rattle.cal_days.proofs.Signed.{signed}
use Rattle.cal_holidays.specs.Found.{stretch_of}
use Rattle.cal_holidays.specs.Kept.{AreFirsts}
use Rattle.cal_holidays.specs.Merging.{behind}
use Rattle.cal_holidays.proofs.KeptLemmas.{kept_behind}
use Rattle.cal_holidays.proofs.merged.Merged.go_behind.Goals as goal

pub behind-self-requires : goal.behind-self-requires
behind-self-requires g c =
    let fits : FitsSigned w64 c.args.first.day = search rules in
    let here = c.requires.first.some c.args.first.day c.args.first.rule refl in
    (omega (arith, signed, here.from), omega (arith, signed, here.until))

pub invariant_of-self : goal.invariant_of-self
invariant_of-self g c =
    let self = c.args.self.now in
    let names = g.R.NumberedRules.names self.rules in
    let count = g.R.NumberedRules.count_of self.rules in
    let s = stretch_of c.args.rest in
    let first = c.args.first in
    let size : length self.firsts ≡ 64 = search rules in
    let fits : FitsSigned w64 first.day = search rules in
    let day : to_z w64 (of_z w64 first.day) ≡ first.day = omega (arith, signed) in
    let args = ap (λ k. behind k s (to_z w64 (of_z w64 first.day)) first.rule) c.count.ensures.value ∙ ap (λ d. behind count s d first.rule) day in
    let e : behind count s first.day first.rule ≡ Some (stretch_of c.in-Some.left) = sym args ∙ (sym c.behind-self.ensures ∙ ap (option_map stretch_of) c.in-Some.is) in
    let kept = kept_behind names count s (stretch_of c.in-Some.left) self.firsts first c.first_of_place.result size (self.kept c.args.rest c.requires.left) c.requires.first e c.first_of_place.ensures in
    record {
      kept = λ rest is.
          let same = ap (λ o. unwrap_or o rest) (sym c.in-Some.is ∙ is) in
          subst (λ k. AreFirsts names count k (slice_set self.firsts (first.rule % 64) c.first_of_place.result) 64) same kept;
    }
