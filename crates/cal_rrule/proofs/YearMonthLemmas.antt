-- Months that a rule names in a year, by the months of the year.
use Rattle.std.proofs.Common.{◌≡◌, ◌∙◌, ℕ, ◌+◌, ◌*◌, ◌<◌, ◌≤◌, ◌↔◌, ◌&&◌, ◌||◌, not, IsTrue, Bool, true, false, Option, Some, None, MatchOption, ℤ, pos, refl, sym, ap, subst, arith}
use mathlib.Core.Bool.{true≢false}
use mathlib.Core.Logic.{inl, inr, ⊎_elim}
use Rattle.std.proofs.lemmas.Bool.{cases_lt}
use Rattle.std.proofs.lemmas.Bool.Decides.{Decides-and, Decides-or}
use Rattle.cal_days.proofs.Signed.{by_bool, signed}
use Rattle.cal_types.specs.CalendarList.{CalendarList, HasPlace, IsLawful, IsMonthsAfter, month_at, place_of}
use Rattle.cal_types.specs.Month.{MonthParts, month_rank}
use Rattle.cal_types.specs.PlainMonths.{numbered_month}
use Rattle.cal_types.proofs.AnniversaryLemmas.{rank-injective}
use Rattle.cal_types.proofs.ListLemmas.{month_number-injective, month_number-place, place_of-own, place_of-some}
use Rattle.cal_rule.specs.Sets.{has_month}
use Rattle.cal_rule.specs.declared.rule.RecurrenceRule.{RecurrenceRule}
use Rattle.cal_rule.specs.declared.skip.Skip.{Skip}
use Rattle.cal_rule.specs.declared.skip.Skip.TheVariants.{Omit, Backward, Forward}
use Rattle.cal_rrule.specs.Looks.{AreMissing}
use Rattle.cal_rrule.specs.Periods.{NoDays, NoMonths}
use Rattle.cal_rrule.specs.Stretches.{ReplacesMonth}
use Rattle.cal_rrule.specs.YearMonths.{IsNamedAt, IsNamedMonth, IsYearMonthOf, LacksLeap, NamesAllMonths, NamesLacking, ReplacesAt, SaysMonthOf}
use Rattle.cal_rrule.specs.declared.missing.Missing.{Missing}
use Rattle.cal_rrule.proofs.AskedLemmas.{there-by}
use Rattle.cal_rrule.proofs.YearLookLemmas.{no-days}

-- a rule names all months, or not
pub by-all_months : {P : Type 0} (rule : RecurrenceRule) (missing : Missing) → AreMissing rule missing →
    (NamesAllMonths rule → P) → (¬ (NamesAllMonths rule) → P) → P
by-all_months {P} rule missing are all some = by_bool missing.months
    (λ e. by_bool ((missing.weeks && missing.year_days) && (missing.month_days && missing.weekdays))
    (λ f. some (λ a. a.1 ((no-days rule missing are).0 f)))
    (λ f. all (are.no_months.0 e, there-by (NoDays rule) _ (no-days rule missing are) f)))
    (λ e. some (λ a. there-by (NoMonths rule) missing.months are.no_months e a.0))

-- a rule that says a month doesn't name all of them
pub says-some : (rule : RecurrenceRule) (start m : MonthParts) → SaysMonthOf rule start m → NamesAllMonths rule → ⊥
says-some rule start m (inl has) all = true≢false (sym has ∙ all.0 m)
says-some rule start m (inr none) all = all.1 none.0

-- a rule that says a month, by tests
pub says-test : (rule : RecurrenceRule) (missing : Missing) (start m : MonthParts) (has days same : Bool) → AreMissing rule missing →
    has ≡ has_month rule.months m → IsTrue days ↔ NoDays rule → IsTrue same ↔ (m ≡ start) →
    IsTrue (has || ((days && missing.months) && same)) ↔ SaysMonthOf rule start m
says-test rule missing start m has days same are is none own =
    let both = Decides-and (days && missing.months) same (Decides-and days missing.months none are.no_months) own in
    let either = Decides-or has ((days && missing.months) && same) (λ h. h, λ h. h) both in (
      λ h. ⊎_elim (λ p. inl (sym is ∙ p)) (λ q. inr (q.0.0, q.0.1, q.1)) (either.0 h),
      λ h. either.1 (⊎_elim (λ p. inl (is ∙ p)) (λ q. inr ((q.0, q.1), q.2)) h),
    )

-- and one that names all months
pub all-test : (rule : RecurrenceRule) (missing : Missing) (days : Bool) → AreMissing rule missing → IsTrue days ↔ NoDays rule →
    IsTrue (missing.months && not days) ↔ NamesAllMonths rule
all-test rule missing days are none =
    Decides-and missing.months (not days) are.no_months (other days none)
  where
    other : (b : Bool) → IsTrue b ↔ NoDays rule → IsTrue (not b) ↔ ¬ (NoDays rule)
    other true same = (λ h. absurd (true≢false (sym h)), λ some. absurd (some (same.0 refl)))
    other false same = (λ _ no. true≢false (sym (same.1 no)), λ _. refl)

-- the leap month of a number
abbrev pub leap_of : ℕ → MonthParts
leap_of number = record { number = number; is_leap = true }

-- a month that has a place of a year is the one in it
pub month-in_place : (c : CalendarList) (y : ℤ) (m : MonthParts) (i : ℕ) → place_of c y m ≡ Some i → month_at c y i ≡ m
month-in_place c y m i e = rank-injective (month_at c y i) m (place_of-some c y m i e).1

-- a leap month is the one of its number
pub leap-own : (m : MonthParts) → IsTrue m.is_leap → m ≡ leap_of m.number
leap-own m leap = ap (λ (b : Bool). made m.number b) leap
  where
    made : ℕ → Bool → MonthParts
    made n b = record { number = n; is_leap = b }

-- and any other month is the plain month of its number
pub plain-own : (m : MonthParts) → m.is_leap ≡ false → m ≡ numbered_month m.number
plain-own m plain = ap (λ (b : Bool). made m.number b) plain
  where
    made : ℕ → Bool → MonthParts
    made n b = record { number = n; is_leap = b }

-- a month is the leap month of a number in a year, by tests
pub leap-test : (own year : ℤ) (m : MonthParts) (number : ℕ) (same leap is : Bool) → IsTrue same ↔ (own ≡ year) →
    leap ≡ m.is_leap → IsTrue is ↔ (m.number ≡ number) →
    IsTrue (same && (leap && is)) ↔ ((own ≡ year) × (m ≡ leap_of number))
leap-test own year m number same leap is years of numbers =
    Decides-and same (leap && is) years (
      λ h. let p = (Decides-and leap is (λ x. x, λ x. x) numbers).0 h in leap-own m (sym of ∙ p.0) ∙ ap leap_of p.1,
      λ e. (Decides-and leap is (λ x. x, λ x. x) numbers).1 (of ∙ ap (λ (n : MonthParts). n.is_leap) e, ap (λ (n : MonthParts). n.number) e),
    )

-- the month after the one in a place of a year, where it is in the same year
pub next-place : (c : CalendarList) (y : ℤ) (i : ℕ) (z : ℤ) (j : ℕ) → HasPlace c y i → IsMonthsAfter c y i (pos 1) z j →
    HasPlace c y (i + 1) → (z ≡ y) × (j ≡ i + 1)
next-place c y i z j here after next =
    month_number-injective c z j y (i + 1) after.place next
    (omega (arith, signed, after.moved, month_number-place c y i here.0, month_number-place c y (i + 1) next.0))

module _ (c : CalendarList) (law : IsLawful c) (y : ℤ) (i : ℕ) (here : HasPlace c y i) (z : ℤ) (j : ℕ)
    (after : IsMonthsAfter c y i (pos 1) z j) (number : ℕ) where
  -- a year that has the leap month of a plain month's number has it in the place after that month
  leap-next : month_at c y i ≡ numbered_month number → (p : ℕ) → place_of c y (leap_of number) ≡ Some p →
      (z ≡ y) × (month_at c z j ≡ leap_of number)
  leap-next plain p e =
      let found = place_of-some c y (leap_of number) p e in
      let low : month_rank (month_at c y i) ≡ 2 * number + 0 = ap month_rank plain in
      ⊎_elim
      (λ later. ⊎_elim
      (λ apart. absurd (between low found.1 found.0 apart))
      (λ near. at_next p found.0 (omega (arith, later, near)) (month-in_place c y (leap_of number) p e))
      (cases_lt (i + 1) p))
      (λ not_later. absurd (not_before low found.1 found.0 not_later))
      (cases_lt i p)
    where
      between : {p : ℕ} → month_rank (month_at c y i) ≡ 2 * number + 0 → month_rank (month_at c y p) ≡ month_rank (leap_of number) →
          HasPlace c y p → i + 1 < p → ⊥
      between {p} low high place apart =
          let mid : HasPlace c y (i + 1) = (omega arith, omega (arith, apart, place.1)) in
          let one = law.rises y i (i + 1) here mid (omega arith) in
          let two = law.rises y (i + 1) p mid place apart in
          omega (arith, low, high, one, two)

      not_before : {p : ℕ} → month_rank (month_at c y i) ≡ 2 * number + 0 → month_rank (month_at c y p) ≡ month_rank (leap_of number) →
          HasPlace c y p → p ≤ i → ⊥
      not_before {p} low high place order =
          ⊎_elim (λ lt. omega (arith, low, high, law.rises y p i place here lt))
          (λ ge. same (omega (arith, order, ge))) (cases_lt p i)
        where
          same : p ≡ i → ⊥
          same e = omega (arith, low, high, ap (λ (k : ℕ). month_rank (month_at c y k)) e)

      at_next : (p : ℕ) → HasPlace c y p → p ≡ i + 1 → month_at c y p ≡ leap_of number → (z ≡ y) × (month_at c z j ≡ leap_of number)
      at_next p place is month =
          let at = next-place c y i z j here after (subst (λ (k : ℕ). HasPlace c y k) is place) in (
            at.0,
            ap (λ (x : ℤ). month_at c x j) at.0 ∙ ap (λ (k : ℕ). month_at c y k) (at.1 ∙ sym is) ∙ month,
          )

  -- so a year lacks it where that month is another one
  pub leap-lacks : month_at c y i ≡ numbered_month number → ((z ≡ y) × (month_at c z j ≡ leap_of number) → ⊥) →
      place_of c y (leap_of number) ≡ None
  leap-lacks plain other = by_place (place_of c y (leap_of number)) refl
    where
      by_place : (o : Option ℕ) → place_of c y (leap_of number) ≡ o → place_of c y (leap_of number) ≡ None
      by_place None e = e
      by_place (Some p) e = absurd (other (leap-next plain p e))

  -- and has it where it is that month
  pub leap-there : z ≡ y → month_at c z j ≡ leap_of number → place_of c y (leap_of number) ≡ None → ⊥
  leap-there same month lacks =
      let place : HasPlace c y j = subst (λ (x : ℤ). HasPlace c x j) same after.place in
      let own = place_of-own c y j (law.rises y) place in
      let leap : month_at c y j ≡ leap_of number = sym (ap (λ (x : ℤ). month_at c x j) same) ∙ month in
      never (sym lacks ∙ sym (ap (place_of c y) leap) ∙ own)
    where
      never : ◌≡◌ {A = Option ℕ} None (Some j) → ⊥
      never e = cc

-- a leap month that a year lacks is that of the plain month's number
pub lacking-number : (c : CalendarList) (y : ℤ) (i : ℕ) (m : MonthParts) → LacksLeap c y i m →
    (m ≡ leap_of (month_at c y i).number) × (month_at c y i ≡ numbered_month m.number)
lacking-number c y i m lacks =
    let plain = month-in_place c y (numbered_month m.number) i lacks.plain in
    (leap-own m lacks.is_leap ∙ ap leap_of (sym (ap (λ (n : MonthParts). n.number) plain)), plain)

module _ (c : CalendarList) (law : IsLawful c) (rule : RecurrenceRule) (start : MonthParts) (y : ℤ) (i : ℕ)
    (here : HasPlace c y i) (z : ℤ) (j : ℕ) (after : IsMonthsAfter c y i (pos 1) z j) where
  -- the month in the place is a leap month
  pub lacking-leap : IsTrue (month_at c y i).is_leap → NamesLacking c rule start y i → ⊥
  lacking-leap leap p =
      let plain = (lacking-number c y i p.0 p.1).1 in
      true≢false (sym leap ∙ ap (λ (m : MonthParts). m.is_leap) plain)

  -- the leap month follows it
  pub lacking-there : z ≡ y → month_at c z j ≡ leap_of (month_at c y i).number → NamesLacking c rule start y i → ⊥
  lacking-there same month p =
      leap-there c law y i here z j after (month_at c y i).number same month
      (sym (ap (place_of c y) (lacking-number c y i p.0 p.1).0) ∙ p.1.lacks)

  -- another month follows it
  pub lacking-says : (month_at c y i).is_leap ≡ false → ((z ≡ y) × (month_at c z j ≡ leap_of (month_at c y i).number) → ⊥) →
      SaysMonthOf rule start (leap_of (month_at c y i).number) ↔ NamesLacking c rule start y i
  lacking-says plain other = (
    λ says. (
      leap_of (month_at c y i).number,
      record {
        is_leap = refl;
        lacks = leap-lacks c law y i here z j after (month_at c y i).number (plain-own (month_at c y i) plain) other;
        plain = sym (ap (place_of c y) (plain-own (month_at c y i) plain)) ∙ place_of-own c y i (law.rises y) here;
      },
      says,
    ),
    λ p. subst (λ (m : MonthParts). SaysMonthOf rule start m) (lacking-number c y i p.0 p.1).0 p.2,
  )

module _ (c : CalendarList) (law : IsLawful c) (rule : RecurrenceRule) (missing : Missing) (are : AreMissing rule missing)
    (start : MonthParts) (y : ℤ) (found : ℤ × ℕ) where
  -- a month that is named as itself
  at_itself : (i : ℕ) → HasPlace c y i → found.0 ≡ y → found.1 ≡ i → IsNamedMonth rule start (month_at c y i) →
      IsYearMonthOf c rule start y found
  at_itself i here same at (inl all) = (
    λ some. absurd (some all),
    λ _. (same, subst (λ (k : ℕ). HasPlace c y k) (sym at) here),
  )
  at_itself i here same at (inr says) = (
    λ _. (month_at c y i, says, names (place_of c y (month_at c y i)) (place_of-own c y i (law.rises y) here)),
    λ all. absurd (says-some rule start (month_at c y i) says all),
  )
    where
      names : (o : Option ℕ) → o ≡ Some i →
          MatchOption o (IsTrue (month_at c y i).is_leap × ReplacesMonth rule.skip c y (month_at c y i) found)
          (λ (k : ℕ). (found.0 ≡ y) × (found.1 ≡ k))
      names (Some k) e = (same, at ∙ sym (own e))
        where
          own : {a b : ℕ} → ◌≡◌ {A = Option ℕ} (Some a) (Some b) → a ≡ b
          own e = cc
      names None e = absurd (never e)
        where
          never : ◌≡◌ {A = Option ℕ} None (Some i) → ⊥
          never e = cc

  -- a month that replaces a leap month
  replaces : (skip : Skip) (i : ℕ) (m : MonthParts) → LacksLeap c y i m → ReplacesAt skip c y i found →
      ReplacesMonth skip c y m found
  replaces Omit i m lacks h = h
  replaces Backward i m lacks h = (h.0, lacks.plain ∙ ap Some (sym h.1))
  replaces Forward i m lacks h = (i, lacks.plain, h)

  at_replaced : (i : ℕ) → NamesLacking c rule start y i → ReplacesAt rule.skip c y i found → IsYearMonthOf c rule start y found
  at_replaced i p h = (
    λ _. (p.0, p.2, names (place_of c y p.0) p.1.lacks),
    λ all. absurd (says-some rule start p.0 p.2 all),
  )
    where
      names : (o : Option ℕ) → o ≡ None →
          MatchOption o (IsTrue p.0.is_leap × ReplacesMonth rule.skip c y p.0 found) (λ (k : ℕ). (found.0 ≡ y) × (found.1 ≡ k))
      names None e = (p.1.is_leap, replaces rule.skip i p.0 p.1 h)
      names (Some k) e = absurd (never e)
        where
          never : ◌≡◌ {A = Option ℕ} (Some k) None → ⊥
          never e = cc

  -- a month that the rule says, by its place or that of the plain month
  said : (m : MonthParts) → SaysMonthOf rule start m → (o : Option ℕ) → place_of c y m ≡ o →
      MatchOption o (IsTrue m.is_leap × ReplacesMonth rule.skip c y m found) (λ (k : ℕ). (found.0 ≡ y) × (found.1 ≡ k)) →
      (i : ℕ) × HasPlace c y i × IsNamedAt c rule start y i found
  said m says (Some k) e h = (
    k,
    (place_of-some c y m k e).0,
    inl (h.0, h.1, inr (subst (λ (x : MonthParts). SaysMonthOf rule start x) (sym (month-in_place c y m k e)) says)),
  )
  said m says None e h = by_skip rule.skip refl h.1
    where
      lacking : (i : ℕ) → place_of c y (numbered_month m.number) ≡ Some i → ReplacesAt rule.skip c y i found →
          (i : ℕ) × HasPlace c y i × IsNamedAt c rule start y i found
      lacking i plain at = (
        i,
        (place_of-some c y (numbered_month m.number) i plain).0,
        inr ((m, record { is_leap = h.0; lacks = e; plain = plain }, says), at),
      )

      by_skip : (skip : Skip) → skip ≡ rule.skip → ReplacesMonth skip c y m found →
          (i : ℕ) × HasPlace c y i × IsNamedAt c rule start y i found
      by_skip Omit same r = absurd r
      by_skip Backward same r = lacking found.1 r.1 (subst (λ (s : Skip). ReplacesAt s c y found.1 found) same (r.0, refl))
      by_skip Forward same r = lacking r.0 r.1 (subst (λ (s : Skip). ReplacesAt s c y r.0 found) same r.2)

  -- a month is one that a rule names in a year exactly where it is one by a month of the year
  pub year-month : IsYearMonthOf c rule start y found ↔ ((i : ℕ) × HasPlace c y i × IsNamedAt c rule start y i found)
  year-month = (
    λ h. by-all_months rule missing are
        (λ all. let own = h.1 all in (found.1, own.1, inl (own.0, refl, inl all)))
        (λ some. let named = h.0 some in said named.0 named.1 (place_of c y named.0) refl named.2),
    λ p. ⊎_elim (λ one. at_itself p.0 p.1 one.0 one.1 one.2) (λ two. at_replaced p.0 two.0 two.1) p.2,
  )
