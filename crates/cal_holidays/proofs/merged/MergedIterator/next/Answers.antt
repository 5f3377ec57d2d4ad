use Rattle.std.proofs.Common.{◌≡◌, ◌∙◌, ◌∷◌, length, rules, arith, ap, sym, refl, Some, None, FitsSigned, w64, to_z, of_z}
use Rattle.cal_days.proofs.Signed.{signed}
use Rattle.cal_holidays.specs.Found.{stretch_of}
use Rattle.cal_holidays.specs.Listing.{left_of}
use Rattle.cal_holidays.proofs.KeptLemmas.{first_kept, left-behind}
use Rattle.cal_holidays.proofs.ListLemmas.{first-listed, none-listed}
use Rattle.cal_holidays.proofs.merged.MergedIterator.next.Goals as goal

pub returns-in_default-clause-steps : goal.returns-in_default-clause-steps
returns-in_default-clause-steps g c =
    let self = c.args.self.now in
    let names = g.R.NumberedRules.names self.rules in
    let count = g.R.NumberedRules.count_of self.rules in
    let rest = c.in_ok-rest.rest in
    let size : length self.firsts ≡ 64 = search rules in
    let first = first_kept names count self.rest rest self.firsts None size self.kept c.in_ok-rest.was c.in_default.ensures in
    (ap (left_of names count) c.in_ok-rest.was ∙ none-listed names count (stretch_of rest) rest.window.days.order first, refl)

pub go_behind-requires-clause-first : goal.go_behind-requires-clause-first
go_behind-requires-clause-first g c =
    let self = c.args.self.now in
    let names = g.R.NumberedRules.names self.rules in
    let count = g.R.NumberedRules.count_of self.rules in
    let size : length self.firsts ≡ 64 = search rules in
    first_kept names count self.rest c.in_ok-rest.rest self.firsts (Some c.in-Some.first) size self.kept c.in_ok-rest.was c.in-Some.ensures

pub new-requires : goal.new-requires
new-requires g c =
    let self = c.args.self.now in
    let names = g.R.NumberedRules.names self.rules in
    let count = g.R.NumberedRules.count_of self.rules in
    let rest = c.in_ok-rest.rest in
    let first = c.in-Some.first in
    let size : length self.firsts ≡ 64 = search rules in
    let fits : FitsSigned w64 first.day = search rules in
    let is = first_kept names count self.rest rest self.firsts (Some first) size self.kept c.in_ok-rest.was c.in-Some.ensures in
    let here = is.some first.day first.rule refl in
    (omega (arith, signed, here.from, rest.window.days.from), omega (arith, signed, here.until, rest.window.days.to))

pub returns-clause-steps : goal.returns-clause-steps
returns-clause-steps g c =
    let self = c.args.self.now in
    let names = g.R.NumberedRules.names self.rules in
    let count = g.R.NumberedRules.count_of self.rules in
    let rest = c.in_ok-rest.rest in
    let first = c.in-Some.first in
    let s = stretch_of rest in
    let new = c.go_behind.new.self in
    let size : length self.firsts ≡ 64 = search rules in
    let fits : FitsSigned w64 first.day = search rules in
    let day : to_z w64 (of_z w64 first.day) ≡ first.day = omega (arith, signed) in
    let is = first_kept names count self.rest rest self.firsts (Some first) size self.kept c.in_ok-rest.was c.in-Some.ensures in
    let left = left-behind g.R.NumberedRules.names g.R.NumberedRules.count_of self.rules new.rules s first.day first.rule new.rest c.go_behind.ensures.rules c.go_behind.ensures.rest in
    let given = sym (c.new.ensures ∙ day) in
    ap (left_of names count) c.in_ok-rest.was
    ∙ (first-listed names count s first.day first.rule is
    ∙ (ap (λ l. (first.day, first.rule) ∷ l) left
    ∙ ap (λ d. (d, first.rule) ∷ left_of (g.R.NumberedRules.names new.rules) (g.R.NumberedRules.count_of new.rules) new.rest) given))

pub returns-clause-goes : goal.returns-clause-goes
returns-clause-goes g c =
    let shorter = ap length (returns-clause-steps g c) in search rules
