-- The year that contains a day is the mean year of the day or one beside it.
use Rattle.std.proofs.Common.{◌≡◌, ℕ, ◌≤◌, sym, ap, subst, ◌∙◌, arith, ℤ, pos, neg_ℤ, ◌+ℤ◌, ◌-ℤ◌, ◌≤ℤ◌, ◌<ℤ◌}
use Rattle.cal_days.specs.Day.{IsBetween, IsFieldYear, IsRuleYear}
use Rattle.cal_days.proofs.Signed.{signed}
use Rattle.cal_hijri.specs.laws.HijriMonthLaws.{days_of_months-within}
use Rattle.cal_hijri.specs.HijriList.{Joins, Numbered, hijri_days}
use Rattle.cal_hijri.specs.laws.HijriBounds.{first-near}
use Rattle.cal_days.specs.Islamic.{islamic_mean_start}
use Rattle.cal_days.proofs.IslamicLemmas.{mean_start-bounds}
use Rattle.cal_hijri.specs.declared.hijri_year.HijriYear.{HijriYear}

-- a day before the mean year's first lies in the year before it
in-earlier : (rd mean before start : ℤ) (n : ℕ) → start ≡ before +ℤ pos n → 348 ≤ n → start ≤ℤ (mean +ℤ pos 5) → mean ≤ℤ rd → rd <ℤ start → (before ≤ℤ rd) × (rd <ℤ (before +ℤ pos n))
in-earlier rd mean before start n e long near first lt = (omega (arith, signed), omega (arith, signed))

-- a day of the year after it comes before that year's end
in-later : (rd mean start : ℤ) (n : ℕ) → 348 ≤ n → (mean -ℤ pos 5) ≤ℤ start → rd <ℤ mean → rd <ℤ (start +ℤ pos n)
in-later rd mean start n long near last = omega (arith, signed)

days-many : (y : HijriYear) → 348 ≤ hijri_days y
days-many y = (days_of_months-within y.long_months).0

module _ (year_of : ℤ → HijriYear) (numbered : Numbered year_of) (joins : Joins year_of) (rd e : ℤ) (first : islamic_mean_start e ≤ℤ rd) (last : rd <ℤ islamic_mean_start (e +ℤ pos 1)) (range : IsBetween (neg_ℤ (pos 1032000)) (pos 1032000) e) where
  -- the year is the rules' and contains the day
  pub record IsFound (y : HijriYear) : Type 0 where
    pub given : y ≡ year_of y.extended_year
    pub field : IsFieldYear y.extended_year
    pub starts : y.first_day ≤ℤ rd
    pub ends : rd <ℤ (y.first_day +ℤ pos (hijri_days y))

  found : (w : ℤ) → IsFieldYear w → ((year_of w).first_day ≤ℤ rd) → (rd <ℤ ((year_of w).first_day +ℤ pos (hijri_days (year_of w)))) → (y : HijriYear) → y ≡ year_of w → IsFound y
  found w field starts ends y is =
      let number = numbered w (omega (arith, signed, field), omega (arith, signed, field)) in
      subst (λ (x : HijriYear). IsFound x) (sym is) (record { given = ap year_of (sym number); field = subst IsFieldYear (sym number) field; starts = starts; ends = ends })

  pub earlier : (y p : HijriYear) (z w : ℤ) → y ≡ year_of z → z ≡ e → p ≡ year_of w → w ≡ e -ℤ pos 1 → rd <ℤ y.first_day → IsFound p
  earlier y p z w is at this before lt =
      let next : e -ℤ pos 1 +ℤ pos 1 ≡ e = omega (arith, signed) in
      let join = joins (e -ℤ pos 1) (omega (arith, signed, range), omega (arith, signed, range)) (omega (arith, signed, range), omega (arith, signed, range)) in
      let mean : (year_of e).first_day ≡ (year_of (e -ℤ pos 1)).first_day +ℤ pos (hijri_days (year_of (e -ℤ pos 1))) = ap (λ (x : ℤ). (year_of x).first_day) (sym next) ∙ join in
      let same : y ≡ year_of e = is ∙ ap year_of at in
      let below : rd <ℤ (year_of e).first_day = subst (λ (x : HijriYear). rd <ℤ x.first_day) same lt in
      let near = first-near year_of numbered joins e (omega (arith, signed, range), omega (arith, signed, range)) in
      let within = in-earlier rd (islamic_mean_start e) (year_of (e -ℤ pos 1)).first_day (year_of e).first_day (hijri_days (year_of (e -ℤ pos 1))) mean (days-many (year_of (e -ℤ pos 1))) near.1 first below in
      found (e -ℤ pos 1) (omega (arith, signed, range), omega (arith, signed, range)) within.0 within.1 p (this ∙ ap year_of before)

  pub itself : (y n : HijriYear) (z w : ℤ) → y ≡ year_of z → z ≡ e → n ≡ year_of w → w ≡ e +ℤ pos 1 → y.first_day ≤ℤ rd → rd <ℤ n.first_day → IsFound y
  itself y n z w is at this after le lt =
      let join = joins e (omega (arith, signed, range), omega (arith, signed, range)) (omega (arith, signed, range), omega (arith, signed, range)) in
      let same : y ≡ year_of e = is ∙ ap year_of at in
      let next : n ≡ year_of (e +ℤ pos 1) = this ∙ ap year_of after in
      let starts : (year_of e).first_day ≤ℤ rd = subst (λ (x : HijriYear). x.first_day ≤ℤ rd) same le in
      let below : rd <ℤ (year_of (e +ℤ pos 1)).first_day = subst (λ (x : HijriYear). rd <ℤ x.first_day) next lt in
      found e (omega (arith, signed, range), omega (arith, signed, range)) starts (subst (λ (x : ℤ). rd <ℤ x) join below) y same

  pub later : (n : HijriYear) (w : ℤ) → n ≡ year_of w → w ≡ e +ℤ pos 1 → n.first_day ≤ℤ rd → IsFound n
  later n w this after le =
      let next : n ≡ year_of (e +ℤ pos 1) = this ∙ ap year_of after in
      let starts : (year_of (e +ℤ pos 1)).first_day ≤ℤ rd = subst (λ (x : HijriYear). x.first_day ≤ℤ rd) next le in
      let near = first-near year_of numbered joins (e +ℤ pos 1) (omega (arith, signed, range), omega (arith, signed, range)) in
      found (e +ℤ pos 1) (omega (arith, signed, range), omega (arith, signed, range)) starts (in-later rd (islamic_mean_start (e +ℤ pos 1)) (year_of (e +ℤ pos 1)).first_day (hijri_days (year_of (e +ℤ pos 1))) (days-many (year_of (e +ℤ pos 1))) near.0 last) n next

-- a rule year's first day is far from the ends of a 64-bit integer
pub first_day-small : (year_of : ℤ → HijriYear) → Numbered year_of → Joins year_of → (y : HijriYear) (z : ℤ) → y ≡ year_of z → IsRuleYear z → IsBetween (neg_ℤ (pos 4000000000)) (pos 4000000000) y.first_day
first_day-small year_of numbered joins y z is rule =
    let near = first-near year_of numbered joins z rule in
    let mean = mean_start-bounds z in
    subst (λ (x : HijriYear). IsBetween (neg_ℤ (pos 4000000000)) (pos 4000000000) x.first_day) (sym is)
    (omega (arith, signed, near, mean, rule), omega (arith, signed, near, mean, rule))
