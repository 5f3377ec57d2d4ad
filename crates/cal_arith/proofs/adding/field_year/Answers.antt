use Rattle.std.proofs.Common.{◌≡◌, ℕ, ℤ, pos, neg_ℤ, ◌≤◌, ◌+ℤ◌, Bool, true, false, to_z, of_z, w32, ap, sym, ◌∙◌, arith}
use Rattle.cal_days.specs.Day.{IsBetween, IsFieldYear, is_field_year}
use Rattle.cal_types.specs.Difference.{toward}
use Rattle.cal_days.proofs.Signed.{signed}
use Rattle.cal_arith.specs.Directions.{is_backward}
use Rattle.cal_arith.proofs.adding.field_year.Goals.{After-moved_year-number}
use Rattle.cal_arith.proofs.adding.field_year.Goals as goal

-- a year moved so far fits the number type
moved-bound : (back : Bool) (y : ℤ) (n : ℕ) → IsFieldYear y → n ≤ 2080000 → IsBetween (neg_ℤ (pos 3120000)) (pos 3120000) (y +ℤ toward back n)
moved-bound false y n h le = (omega (arith, signed), omega (arith, signed))
moved-bound true y n h le = (omega (arith, signed), omega (arith, signed))

module _ (c : After-moved_year-number) where
  abbrev target : ℤ
  target = c.args.year +ℤ toward (is_backward c.args.direction) c.args.years

  number : c.moved_year-number.result ≡ target
  number =
      let same : to_z w32 (of_z w32 c.args.year) ≡ c.args.year = omega (arith, signed) in
      c.moved_year-number.ensures ∙ ap (λ (y : ℤ). y +ℤ toward (is_backward c.args.direction) c.args.years) same

  again : to_z w32 (of_z w32 c.moved_year-number.result) ≡ target
  again =
      let bound = moved-bound (is_backward c.args.direction) c.args.year c.args.years c.requires.year c.requires.years in
      omega (arith, signed, number, bound)

  shifted : to_z w32 (of_z w32 (to_z w32 (of_z w32 c.moved_year-number.result) +ℤ to_z w32 (of_z w32 c.args.shift))) ≡ target +ℤ c.args.shift
  shifted =
      let bound = moved-bound (is_backward c.args.direction) c.args.year c.args.years c.requires.year c.requires.years in
      omega (arith, signed, again, bound, c.requires.shift)

pub returns-then-can_be_named-clause-some : goal.returns-then-can_be_named-clause-some
returns-then-can_be_named-clause-some c =
    let s = (goal.at.returns-then-can_be_named-clause-some c).After-moved_year-number in
    (again s, sym (ap is_field_year (shifted s)) ∙ sym c.can_be_named.ensures ∙ c.if-can_be_named.true)

pub returns-else-can_be_named-clause-none : goal.returns-else-can_be_named-clause-none
returns-else-can_be_named-clause-none c =
    let s = (goal.at.returns-else-can_be_named-clause-none c).After-moved_year-number in
    sym (ap is_field_year (shifted s)) ∙ sym c.can_be_named.ensures ∙ c.if-can_be_named.false
