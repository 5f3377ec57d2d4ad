-- The year that contains a day is the year of the day's ISO year, or the one before.
use Rattle.std.proofs.Common.{◌≡◌, sym, ap, subst, ◌∙◌, arith, ℤ, pos, neg_ℤ, ◌+ℤ◌, ◌-ℤ◌, ◌≤ℤ◌, ◌<ℤ◌}
use Rattle.cal_days.specs.Day.{IsBetween, IsFieldYear, IsRuleYear}
use Rattle.cal_days.specs.Gregorian.{gregorian_start}
use Rattle.cal_days.proofs.GregorianLemmas.{gregorian_start-bounds, gregorian_start-next, gregorian_year_length-parts}
use Rattle.cal_days.proofs.Signed.{signed}
use Rattle.cal_east_asian.specs.EastAsianYears.{AreYears, end_day}
use Rattle.cal_east_asian.specs.laws.EastAsianStartLaws.{new_year-near}
use Rattle.cal_east_asian.specs.declared.east_asian_traditional_year.EastAsianTraditionalYear.{EastAsianTraditionalYear}

-- an ISO year has more days than lie between January 1 and the last day on which a year may start
year-long : (y : ℤ) → (gregorian_start y +ℤ pos 365) ≤ℤ gregorian_start (y +ℤ pos 1)
year-long y = omega (arith, signed, gregorian_start-next y, gregorian_year_length-parts y)

module _ (year_of : ℤ → EastAsianTraditionalYear) (law : AreYears year_of) where
  -- a rule year's first day is far from the ends of a 64-bit integer
  pub new_year-small : (y : EastAsianTraditionalYear) (z : ℤ) → y ≡ year_of z → IsRuleYear z → IsBetween (neg_ℤ (pos 4000000000)) (pos 4000000000) y.new_year
  new_year-small y z is rule =
      let near = new_year-near year_of law z rule in
      let first = gregorian_start-bounds z in
      subst (λ (x : EastAsianTraditionalYear). IsBetween (neg_ℤ (pos 4000000000)) (pos 4000000000) x.new_year) (sym is)
      (omega (arith, signed, near, first, rule), omega (arith, signed, near, first, rule))

  module _ (rd e : ℤ) (first : gregorian_start e ≤ℤ rd) (last : rd <ℤ gregorian_start (e +ℤ pos 1)) (range : IsBetween (neg_ℤ (pos 999999)) (pos 999999) e) where
    -- the year is the rules' and contains the day
    pub record IsFound (y : EastAsianTraditionalYear) : Type 0 where
      pub given : y ≡ year_of y.related_iso
      pub field : IsFieldYear y.related_iso
      pub starts : y.new_year ≤ℤ rd
      pub ends : rd <ℤ end_day y

    found : (w : ℤ) → IsFieldYear w → ((year_of w).new_year ≤ℤ rd) → (rd <ℤ end_day (year_of w)) → (y : EastAsianTraditionalYear) → y ≡ year_of w → IsFound y
    found w field starts ends y is =
        let number = law.numbered w (omega (arith, signed, field), omega (arith, signed, field)) in
        subst (λ (x : EastAsianTraditionalYear). IsFound x) (sym is) (record { given = ap year_of (sym number); field = subst IsFieldYear (sym number) field; starts = starts; ends = ends })

    -- a day before the first of the year of its ISO year lies in the year before it
    pub earlier : (y p : EastAsianTraditionalYear) (z w : ℤ) → y ≡ year_of z → z ≡ e → p ≡ year_of w → w ≡ e -ℤ pos 1 → rd <ℤ y.new_year → IsFound p
    earlier y p z w is at this before lt =
        let next : e -ℤ pos 1 +ℤ pos 1 ≡ e = omega (arith, signed) in
        let rule : IsRuleYear (e -ℤ pos 1) = (omega (arith, signed, range), omega (arith, signed, range)) in
        let join = law.joins (e -ℤ pos 1) rule (omega (arith, signed, range), omega (arith, signed, range)) in
        let end : (year_of e).new_year ≡ end_day (year_of (e -ℤ pos 1)) = ap (λ (x : ℤ). (year_of x).new_year) (sym next) ∙ join in
        let same : y ≡ year_of e = is ∙ ap year_of at in
        let below : rd <ℤ (year_of e).new_year = subst (λ (x : EastAsianTraditionalYear). rd <ℤ x.new_year) same lt in
        let near = new_year-near year_of law (e -ℤ pos 1) rule in
        let long = year-long (e -ℤ pos 1) in
        let whole : gregorian_start (e -ℤ pos 1 +ℤ pos 1) ≡ gregorian_start e = ap gregorian_start next in
        found (e -ℤ pos 1) (omega (arith, signed, range), omega (arith, signed, range)) (omega (arith, signed, near, long, whole, first)) (subst (λ (x : ℤ). rd <ℤ x) end below) p (this ∙ ap year_of before)

    -- another day lies in it
    pub itself : (y : EastAsianTraditionalYear) (z : ℤ) → y ≡ year_of z → z ≡ e → y.new_year ≤ℤ rd → IsFound y
    itself y z is at le =
        let rule : IsRuleYear (e +ℤ pos 1) = (omega (arith, signed, range), omega (arith, signed, range)) in
        let join = law.joins e (omega (arith, signed, range), omega (arith, signed, range)) rule in
        let same : y ≡ year_of e = is ∙ ap year_of at in
        let near = new_year-near year_of law (e +ℤ pos 1) rule in
        let below : rd <ℤ (year_of (e +ℤ pos 1)).new_year = omega (arith, signed, near, last) in
        found e (omega (arith, signed, range), omega (arith, signed, range)) (subst (λ (x : EastAsianTraditionalYear). x.new_year ≤ℤ rd) same le) (subst (λ (x : ℤ). rd <ℤ x) join below) y same
