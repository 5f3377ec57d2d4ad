use Rattle.std.proofs.Common.{◌≡◌, ℤ, pos, neg_ℤ, ◌+ℤ◌, ℕ, Option, Bool, true, Some, None, to_z, of_z, w32, ap, subst, sym, refl, ◌∙◌, arith}
use Rattle.cal_days.specs.Day.{IsBetween, IsFieldYear, IsRuleYear, is_field_year}
use Rattle.cal_types.specs.CalendarList.{spot, month_at, IsMonthsAfter}
use Rattle.cal_types.specs.Adding.{is_addable}
use Rattle.cal_types.specs.Difference.{toward}
use Rattle.std.proofs.lemmas.Bool.Decides.{nat_tests}
use Rattle.std.proofs.lemmas.Grind.{common_steps}
use Rattle.cal_days.proofs.RangeLemmas.{is_between-true}
use Rattle.cal_types.proofs.ListLemmas.{spot-place}
use Rattle.cal_arith.specs.Given.{IsGiven}
use Rattle.cal_arith.specs.Directions.{is_backward}
use Rattle.cal_arith.proofs.GivenLemmas.{given_by}
use Rattle.cal_arith.proofs.MonthSums.{near_rule, shifted_near}
use Rattle.cal_arith.proofs.WordLemmas.{field-rule, word}
use Rattle.cal_arith.proofs.adding.added.Given.{Over}
use Rattle.cal_arith.proofs.adding.added.Goals.{After-looked_up-reached}
use Rattle.cal_arith.proofs.adding.added.Goals as goal

module _ (g : Over) (c : After-looked_up-reached g) where
  -- the year that the years lead to
  abbrev target : ℤ
  target = (g.C.YearShapes.years c.args.cal.now).extended c.args.from.year +ℤ toward c.args.duration.is_negative c.args.duration.years

  same_year : to_z w32 (of_z w32 c.extended_from_year_info-year.result) ≡ (g.C.YearShapes.years c.args.cal.now).extended c.args.from.year
  same_year = word _ _ c.extended_from_year_info-year.ensures (field-rule _ c.requires.range)

  same_shift : to_z w32 (of_z w32 c.args.shift) ≡ c.args.shift
  same_shift = word _ _ refl (field-rule _ c.requires.shift)

  -- the call's answer, by the sign of the duration
  some : (c.in-Some.number ≡ to_z w32 (of_z w32 c.extended_from_year_info-year.result) +ℤ toward c.args.duration.is_negative c.args.duration.years) × (is_field_year (to_z w32 (of_z w32 c.extended_from_year_info-year.result) +ℤ toward c.args.duration.is_negative c.args.duration.years +ℤ to_z w32 (of_z w32 c.args.shift)) ≡ true)
  some =
      let here = to_z w32 (of_z w32 c.extended_from_year_info-year.result) in
      subst (λ (b : Bool). (c.in-Some.number ≡ here +ℤ toward b c.args.duration.years) × (is_field_year (here +ℤ toward b c.args.duration.years +ℤ to_z w32 (of_z w32 c.args.shift)) ≡ true)) c.from_sign-direction.ensures c.in-Some.ensures.some

  field_is : is_field_year (target +ℤ c.args.shift) ≡ true
  field_is =
      let here : is_field_year (target +ℤ to_z w32 (of_z w32 c.args.shift)) ≡ true = subst (λ (y : ℤ). is_field_year (y +ℤ toward c.args.duration.is_negative c.args.duration.years +ℤ to_z w32 (of_z w32 c.args.shift)) ≡ true) same_year some.1 in
      subst (λ (z : ℤ). is_field_year (target +ℤ z) ≡ true) same_shift here

  in_field : IsFieldYear (target +ℤ c.args.shift)
  in_field = is_between-true _ _ _ field_is

  near : IsBetween (neg_ℤ (pos 2080000)) (pos 2080000) target
  near = shifted_near target c.args.shift in_field c.requires.shift

  in_range : IsRuleYear target
  in_range = near_rule target near

  reached : IsGiven (g.C.YearShapes.years c.args.cal.now) c.looked_up-reached.result × ((g.C.YearShapes.years c.args.cal.now).extended c.looked_up-reached.result ≡ target)
  reached =
      let number : c.in-Some.number ≡ target = some.0 ∙ ap (λ (y : ℤ). y +ℤ toward c.args.duration.is_negative c.args.duration.years) same_year in
      given_by (g.C.YearShapes.years c.args.cal.now) (g.met.C.YearShapes.numbered c.args.cal.now) _ _ target c.looked_up-reached.ensures
      (word c.in-Some.number target number in_range) in_range

  spot_there : (r : Option ℕ) → spot (g.C.YearShapes.years c.args.cal.now).list ((g.C.YearShapes.years c.args.cal.now).extended c.looked_up-reached.result) (month_at (g.C.YearShapes.years c.args.cal.now).list ((g.C.YearShapes.years c.args.cal.now).extended c.args.from.year) c.args.from.month) c.args.overflow ≡ r → spot (g.C.YearShapes.years c.args.cal.now).list target (month_at (g.C.YearShapes.years c.args.cal.now).list ((g.C.YearShapes.years c.args.cal.now).extended c.args.from.year) c.args.from.month) c.args.overflow ≡ r
  spot_there r here = subst (λ (x : ℤ). spot (g.C.YearShapes.years c.args.cal.now).list x (month_at (g.C.YearShapes.years c.args.cal.now).list ((g.C.YearShapes.years c.args.cal.now).extended c.args.from.year) c.args.from.month) c.args.overflow ≡ r) reached.1 here

pub looked_up-reached-requires-clause-range : goal.looked_up-reached-requires-clause-range
looked_up-reached-requires-clause-range g c =
    let same_shift : to_z w32 (of_z w32 c.args.shift) ≡ c.args.shift = word _ _ refl (field-rule _ c.requires.shift) in
    let moved = to_z w32 (of_z w32 c.extended_from_year_info-year.result) +ℤ toward (is_backward c.from_sign-direction.result) c.args.duration.years in
    let named = is_between-true (neg_ℤ (pos 1040000)) (pos 1040000) (moved +ℤ to_z w32 (of_z w32 c.args.shift)) c.in-Some.ensures.some.1 in
    let field : IsFieldYear (moved +ℤ c.args.shift) = subst (λ (z : ℤ). IsFieldYear (moved +ℤ z)) same_shift named in
    let range = near_rule moved (shifted_near moved c.args.shift field c.requires.shift) in
    subst IsRuleYear (sym (word c.in-Some.number moved c.in-Some.ensures.some.0 range)) range

pub ordinal_in_other_year-requires-clause-other : goal.ordinal_in_other_year-requires-clause-other
ordinal_in_other_year-requires-clause-other g c = (reached g (goal.at.ordinal_in_other_year-requires-clause-other g c).After-looked_up-reached).0

pub months_away-there-requires-clause-from : goal.months_away-there-requires-clause-from
months_away-there-requires-clause-from g c =
    let s = (goal.at.months_away-there-requires-clause-from g c).After-looked_up-reached in
    let list = (g.C.YearShapes.years c.args.cal.now).list in let y = (g.C.YearShapes.years c.args.cal.now).extended c.looked_up-reached.result in
    record {
      range = subst (IsBetween (neg_ℤ (pos 2080000)) (pos 2080000)) (sym (reached g s).1) (near g s);
      month = record {
        year = (reached g s).0;
        place = spot-place list y (month_at list ((g.C.YearShapes.years c.args.cal.now).extended c.args.from.year) c.args.from.month) c.args.overflow c.in-Some-ordinal_in_other_year.place (sym c.ordinal_in_other_year.ensures ∙ c.in-Some-ordinal_in_other_year.is);
      };
    }

pub months_away-there-requires-clause-months : goal.months_away-there-requires-clause-months
months_away-there-requires-clause-months g c = grind (arith, nat_tests, c.can_be_added.ensures, c.if-not-can_be_added.false)

pub returns-in-None-ordinal_in_other_year-clause-sum : goal.returns-in-None-ordinal_in_other_year-clause-sum
returns-in-None-ordinal_in_other_year-clause-sum g c =
    let s = (goal.at.returns-in-None-ordinal_in_other_year-clause-sum g c).After-looked_up-reached in
    let there = spot_there g s None (sym c.ordinal_in_other_year.ensures ∙ c.in-None-ordinal_in_other_year.is) in
    let addable : is_addable c.args.duration ≡ true = sym c.can_be_added.ensures ∙ c.if-not-can_be_added.false in
    let field = field_is g s in
    rw (addable, field, there) refl

pub returns-in-Some-ordinal_in_other_year-clause-sum : goal.returns-in-Some-ordinal_in_other_year-clause-sum
returns-in-Some-ordinal_in_other_year-clause-sum g c =
    let s = (goal.at.returns-in-Some-ordinal_in_other_year-clause-sum g c).After-looked_up-reached in
    let list = (g.C.YearShapes.years c.args.cal.now).list in
    let place = c.in-Some-ordinal_in_other_year.place in
    let there = spot_there g s (Some place) (sym c.ordinal_in_other_year.ensures ∙ c.in-Some-ordinal_in_other_year.is) in
    let z = (g.C.YearShapes.years c.args.cal.now).extended c.months_away-there.result.year in let j = c.months_away-there.result.month in
    let signed_move = subst (λ (b : Bool). IsMonthsAfter list ((g.C.YearShapes.years c.args.cal.now).extended c.looked_up-reached.result) place (toward b c.args.duration.months) z j) c.from_sign-direction.ensures c.months_away-there.ensures.moved in
    let moved = subst (λ (x : ℤ). IsMonthsAfter list x place (toward c.args.duration.is_negative c.args.duration.months) z j) (reached g s).1 signed_move in
    let addable : is_addable c.args.duration ≡ true = sym c.can_be_added.ensures ∙ c.if-not-can_be_added.false in
    let field = field_is g s in
    rw (addable, field, there) (z, j, moved, c.sum_from_month.ensures.sum)

pub sum_from_month-requires-clause-days : goal.sum_from_month-requires-clause-days
sum_from_month-requires-clause-days g c = grind (arith, common_steps)
