use Rattle.std.proofs.Common.{◌≡◌, ◌∙◌, ap, sym, subst, arith, ℕ, ℤ, to_z, of_z, w32, w64, pos, neg_ℤ, ◌+ℤ◌, ◌-ℤ◌, ◌<ℤ◌}
use Rattle.std.specs.Prelude.{IsTrue}
use Rattle.cal_days.specs.Day.{IsBetween, IsRuleYear}
use Rattle.cal_days.specs.Division.{floor_mod}
use Rattle.cal_days.proofs.DivisionLemmas.{floor_parts}
use Rattle.cal_days.proofs.Signed.{signed}
use Rattle.cal_east_asian.specs.MeanYears.{IsOffset, day, term, moon, last_moon, leap_month, mean_months, new_year, solstice_moon, IsLastMoon}
use Rattle.cal_east_asian.specs.laws.MoonLaws.{moon-more, day-near, day-later, last_moon-within, last_moon-most, last_moon-greatest}
use Rattle.cal_east_asian.specs.laws.LeapMonthLaws.{new_year-is}
use Rattle.cal_east_asian.specs.laws.MeanYearLaws.{three-years, months-are}
use Rattle.cal_east_asian.specs.EastAsianYear.{IsNewYear, is_leap_place, months_of_year}
use Rattle.cal_east_asian.specs.EastAsianMonths.{year_entries}
use Rattle.cal_east_asian.specs.EastAsianYears.{YearParts, parts_of, end_of}
use Rattle.cal_east_asian.specs.laws.RuleYearLaws.{rule_year-same}
use Rattle.cal_east_asian.specs.MeanPlaces.{place_from, month_bits}
use Rattle.cal_east_asian.specs.laws.MeanMonthLaws.{bits, leap_place, place-months, mean_months-parts, mean_months-few}
use Rattle.cal_east_asian.specs.MeanTraditionalYears.{mean_traditional_year}
use Rattle.cal_east_asian.specs.MeanParts.{mean_parts}
use Rattle.cal_east_asian.specs.laws.MeanPartLaws.{new_year-is_new_year, mean-end}
use Rattle.cal_east_asian.specs.declared.east_asian_traditional_year.EastAsianTraditionalYear.{EastAsianTraditionalYear}
use Rattle.cal_east_asian.specs.laws.SameParts.{same_parts}
use Rattle.cal_east_asian.proofs.MoonLemmas.{term-by, first-by, moon-by}
use Rattle.cal_east_asian.proofs.PlaceLemmas.{place-mean, bits-mean}
use Rattle.cal_east_asian.proofs.mean_years.mean_year.Goals as goal

offset_back : (o : ℤ) → IsOffset o → to_z w64 (of_z w64 o) ≡ o
offset_back o h = omega (arith, signed)

year_back : (y : ℤ) → IsRuleYear y → to_z w32 (of_z w32 y) ≡ y
year_back y h = omega (arith, signed)

abbrev IsFar : ℤ → Type 0
IsFar t = IsBetween (neg_ℤ (pos 600000000000000000)) (pos 600000000000000000) t

moment_back : (t : ℤ) → IsFar t → to_z w64 (of_z w64 t) ≡ t
moment_back t h = omega (arith, signed, h)

-- the moon that a year begins with
abbrev opening : ℤ → ℤ → ℤ
opening o y = moon o (last_moon o (day (term o y 2)))

-- what the first calls give: term 2, and that moon
term-known : (o y : ℤ) (h : IsOffset o) (r : IsRuleYear y) (t : ℤ) → t ≡ term (to_z w64 (of_z w64 o)) (to_z w32 (of_z w32 y)) 2 → t ≡ term o y 2
term-known o y h r t e = term-by o y (to_z w64 (of_z w64 o)) (to_z w32 (of_z w32 y)) (offset_back o h) (year_back y r) t 2 e

moon-known : (o y : ℤ) (h : IsOffset o) (t d k f : ℤ) → t ≡ term o y 2 → IsFar t → d ≡ day (to_z w64 (of_z w64 t)) → k ≡ last_moon (to_z w64 (of_z w64 o)) (to_z w64 (of_z w64 d)) → IsBetween (neg_ℤ (pos 110000000)) (pos 110000000) k → f ≡ moon (to_z w64 (of_z w64 o)) (to_z w64 (of_z w64 k)) → f ≡ opening o y
moon-known o y h t d k f is far e g near i =
    let so = offset_back o h in
    let st = moment_back t far in
    let on : d ≡ day t = e ∙ ap (λ (z : ℤ). day z) st in
    let sd : to_z w64 (of_z w64 d) ≡ d = omega (arith, signed, on, far, floor_parts t 86400000) in
    let last : k ≡ last_moon o (day (term o y 2)) = first-by o (to_z w64 (of_z w64 o)) k so (to_z w64 (of_z w64 d)) g ∙ ap (last_moon o) (sd ∙ on ∙ ap (λ (z : ℤ). day z) is) in
    let sk : to_z w64 (of_z w64 k) ≡ k = omega (arith, signed, near) in
    moon-by o (to_z w64 (of_z w64 o)) so f (to_z w64 (of_z w64 k)) (last_moon o (day (term o y 2))) (sk ∙ last) i

-- they lie near one another
term-within : (o y t f : ℤ) → t ≡ term o y 2 → f ≡ opening o y → (t <ℤ (f +ℤ pos 2551442876)) × (f <ℤ (t +ℤ pos 86400000))
term-within o y t f is opens =
    let d = day (term o y 2) in
    let k = last_moon o d in
    let next = moon-more o k (k +ℤ pos 1) 1 in
    let late = day-later (moon o (k +ℤ pos 1)) (term o y 2) (last_moon-most o d) in
    let near = day-near (moon o k) (term o y 2) (last_moon-within o d) in
    (omega (arith, signed, is, opens, late, next (omega (arith, signed))), omega (arith, signed, is, opens, near))

far_back : (t f : ℤ) → IsFar t → IsFar f → (t <ℤ (f +ℤ pos 2551442876)) × (f <ℤ (t +ℤ pos 86400000)) → (to_z w64 (of_z w64 t) <ℤ (to_z w64 (of_z w64 f) +ℤ pos 2551442876)) × (to_z w64 (of_z w64 f) <ℤ (to_z w64 (of_z w64 t) +ℤ pos 86400000))
far_back t f a b h = (omega (arith, signed, moment_back t a, moment_back f b, h), omega (arith, signed, moment_back t a, moment_back f b, h))

-- so the later calls give the leap month's place and the lengths
place-known : (o y t f : ℤ) (lead time : ℕ) → t ≡ term o y 2 → IsFar t → f ≡ opening o y → IsFar f → pos lead ≡ to_z w64 (of_z w64 f) +ℤ pos 2551442876 -ℤ to_z w64 (of_z w64 t) → time ≡ floor_mod (to_z w64 (of_z w64 t)) 86400000 → place_from lead time ≡ leap_place (leap_month o y)
place-known o y t f lead time is far opens near e g =
    let k = last_moon o (day (term o y 2)) in
    let st = moment_back t far in
    let next : moon o (k +ℤ pos 1) ≡ moon o k +ℤ pos 2551442876 = omega (arith, signed, moon-more o k (k +ℤ pos 1) 1 (omega (arith, signed))) in
    let ends : pos lead ≡ moon o (k +ℤ pos 1) -ℤ term o y 2 = omega (arith, signed, e, st, moment_back f near, is, opens, next) in
    place-mean o y lead time ends (g ∙ ap (λ (z : ℤ). floor_mod z 86400000) (st ∙ is))

lengths-known : (o y f : ℤ) (start place : ℕ) → f ≡ opening o y → IsFar f → start ≡ floor_mod (to_z w64 (of_z w64 f)) 86400000 → place ≡ leap_place (leap_month o y) → month_bits start 0 (months_of_year place) ≡ bits (mean_months o y)
lengths-known o y f start place opens near e g =
    ap (λ (p : ℕ). month_bits start 0 (months_of_year p)) g ∙ bits-mean o y start (e ∙ ap (λ (z : ℤ). floor_mod z 86400000) (moment_back f near ∙ opens))

day-known : (o y f d : ℤ) → f ≡ opening o y → IsFar f → d ≡ day (to_z w64 (of_z w64 f)) → to_z w64 (of_z w64 d) ≡ new_year o y
day-known o y f d opens near e =
    let on : d ≡ day f = e ∙ ap (λ (z : ℤ). day z) (moment_back f near) in
    let sd : to_z w64 (of_z w64 d) ≡ d = omega (arith, signed, on, near, floor_parts f 86400000) in
    sd ∙ on ∙ ap (λ (z : ℤ). day z) opens ∙ sym (new_year-is o y)

pub lead-requires-clause-after : goal.lead-requires-clause-after
lead-requires-clause-after c =
    let o = c.args.utc_offset in
    let y = c.args.related_iso in
    let t = c.second_term-term in
    let is = term-known o y c.requires.offset c.requires.year t.result t.ensures.exact in
    let far : IsFar t.result = (omega (arith, signed, t.ensures.near), omega (arith, signed, t.ensures.near)) in
    let opens = moon-known o y c.requires.offset t.result _ _ c.moon-first.result is far c.day_and_time-day.ensures.day c.last_moon_by.ensures.exact c.last_moon_by.ensures.near c.moon-first.ensures.exact in
    (far_back t.result c.moon-first.result far c.moon-first.ensures.near (term-within o y t.result c.moon-first.result is opens)).0

pub lead-requires-clause-within : goal.lead-requires-clause-within
lead-requires-clause-within c =
    let o = c.args.utc_offset in
    let y = c.args.related_iso in
    let t = c.second_term-term in
    let is = term-known o y c.requires.offset c.requires.year t.result t.ensures.exact in
    let far : IsFar t.result = (omega (arith, signed, t.ensures.near), omega (arith, signed, t.ensures.near)) in
    let opens = moon-known o y c.requires.offset t.result _ _ c.moon-first.result is far c.day_and_time-day.ensures.day c.last_moon_by.ensures.exact c.last_moon_by.ensures.near c.moon-first.ensures.exact in
    (far_back t.result c.moon-first.result far c.moon-first.ensures.near (term-within o y t.result c.moon-first.result is opens)).1

pub from_parts-requires-clause-start : goal.from_parts-requires-clause-start
from_parts-requires-clause-start c =
    let o = c.args.utc_offset in
    let y = c.args.related_iso in
    let t = c.second_term-term in
    let is = term-known o y c.requires.offset c.requires.year t.result t.ensures.exact in
    let far : IsFar t.result = (omega (arith, signed, t.ensures.near), omega (arith, signed, t.ensures.near)) in
    let opens = moon-known o y c.requires.offset t.result _ _ c.moon-first.result is far c.day_and_time-day.ensures.day c.last_moon_by.ensures.exact c.last_moon_by.ensures.near c.moon-first.ensures.exact in
    let first = day-known o y c.moon-first.result _ opens c.moon-first.ensures.near c.day_and_time-new_year.ensures.day in
    subst (λ (d : ℤ). IsNewYear (to_z w32 (of_z w32 y)) d) (sym first) (subst (λ (z : ℤ). IsNewYear z (new_year o y)) (sym (year_back y c.requires.year)) (new_year-is_new_year o c.requires.offset y))

pub from_parts-requires-clause-place : goal.from_parts-requires-clause-place
from_parts-requires-clause-place c =
    let o = c.args.utc_offset in
    let y = c.args.related_iso in
    let t = c.second_term-term in
    let is = term-known o y c.requires.offset c.requires.year t.result t.ensures.exact in
    let far : IsFar t.result = (omega (arith, signed, t.ensures.near), omega (arith, signed, t.ensures.near)) in
    let opens = moon-known o y c.requires.offset t.result _ _ c.moon-first.result is far c.day_and_time-day.ensures.day c.last_moon_by.ensures.exact c.last_moon_by.ensures.near c.moon-first.ensures.exact in
    let place = c.leap_place-place.ensures ∙ place-known o y t.result c.moon-first.result c.lead.result _ is far opens c.moon-first.ensures.near c.lead.ensures.exact c.day_and_time-day.ensures.time in
    subst (λ (p : ℕ). IsTrue (is_leap_place p)) (sym place) (place-months o y).1

pub from_parts-requires-clause-few : goal.from_parts-requires-clause-few
from_parts-requires-clause-few c =
    let o = c.args.utc_offset in
    let y = c.args.related_iso in
    let t = c.second_term-term in
    let f = c.moon-first in
    let is = term-known o y c.requires.offset c.requires.year t.result t.ensures.exact in
    let far : IsFar t.result = (omega (arith, signed, t.ensures.near), omega (arith, signed, t.ensures.near)) in
    let opens = moon-known o y c.requires.offset t.result _ _ f.result is far c.day_and_time-day.ensures.day c.last_moon_by.ensures.exact c.last_moon_by.ensures.near f.ensures.exact in
    let place = c.leap_place-place.ensures ∙ place-known o y t.result f.result c.lead.result _ is far opens f.ensures.near c.lead.ensures.exact c.day_and_time-day.ensures.time in
    let lengths = c.long_months-lengths.ensures ∙ lengths-known o y f.result _ c.leap_place-place.result opens f.ensures.near c.day_and_time-new_year.ensures.time place in
    rw (lengths, place) (mean_months-few o y)

pub returns-clause-exact : goal.returns-clause-exact
returns-clause-exact c h =
    let o = c.args.utc_offset in
    let y = c.args.related_iso in
    let t = c.second_term-term in
    let f = c.moon-first in
    let is = term-known o y c.requires.offset c.requires.year t.result t.ensures.exact in
    let far : IsFar t.result = (omega (arith, signed, t.ensures.near), omega (arith, signed, t.ensures.near)) in
    let opens = moon-known o y c.requires.offset t.result _ _ f.result is far c.day_and_time-day.ensures.day c.last_moon_by.ensures.exact c.last_moon_by.ensures.near f.ensures.exact in
    let first = day-known o y f.result _ opens f.ensures.near c.day_and_time-new_year.ensures.day in
    let place = c.leap_place-place.ensures ∙ place-known o y t.result f.result c.lead.result _ is far opens f.ensures.near c.lead.ensures.exact c.day_and_time-day.ensures.time in
    let lengths = c.long_months-lengths.ensures ∙ lengths-known o y f.result _ c.leap_place-place.result opens f.ensures.near c.day_and_time-new_year.ensures.time place in
    let rule = sym (rule_year-same y c.requires.year) in
    same_parts c.from_parts.result (mean_traditional_year o h y)
    (c.from_parts.ensures.number ∙ year_back y c.requires.year ∙ rule)
    (c.from_parts.ensures.start ∙ first ∙ ap (new_year o) rule)
    (c.from_parts.ensures.lengths ∙ lengths ∙ ap (λ (z : ℤ). bits (mean_months o z)) rule)
    (c.from_parts.ensures.place ∙ place ∙ ap (λ (z : ℤ). leap_place (leap_month o z)) rule)

pub returns-clause-parts : goal.returns-clause-parts
returns-clause-parts c = ap (λ (r : EastAsianTraditionalYear). parts_of r) (returns-clause-exact c c.requires.offset) ∙ ap (λ (z : ℤ). mean_parts c.args.utc_offset z) (rule_year-same c.args.related_iso c.requires.year)

pub returns-clause-year : goal.returns-clause-year
returns-clause-year c =
    let o = c.args.utc_offset in
    let y = c.args.related_iso in
    let is = returns-clause-parts c in
    record {
      number = ap (λ (r : EastAsianTraditionalYear). r.related_iso) (returns-clause-exact c c.requires.offset) ∙ rule_year-same y c.requires.year;
      first_day = ap (λ (x : YearParts). x.new_year) is;
      months = ap (λ (x : YearParts). year_entries x.leap_month x.long_months) is ∙ mean_months-parts o y;
    }

pub returns-clause-near : goal.returns-clause-near
returns-clause-near c = subst (λ (d : ℤ). IsNewYear c.args.related_iso d) (ap (λ (x : YearParts). x.new_year) (sym (returns-clause-parts c))) (new_year-is_new_year c.args.utc_offset c.requires.offset c.args.related_iso)

pub returns-clause-joins : goal.returns-clause-joins
returns-clause-joins c = mean-end c.args.utc_offset c.args.related_iso ∙ ap (λ (x : YearParts). end_of x) (sym (returns-clause-parts c))

solstice-greatest : (o y : ℤ) → IsLastMoon o (day (term o y 0)) (solstice_moon o y)
unfolding solstice_moon
solstice-greatest o y = last_moon-greatest o (day (term o y 0))

pub returns-clause-solstice : goal.returns-clause-solstice
returns-clause-solstice c = solstice-greatest c.args.utc_offset c.args.related_iso

pub returns-clause-leaps : goal.returns-clause-leaps
returns-clause-leaps c = three-years c.args.utc_offset c.args.related_iso

pub returns-clause-months : goal.returns-clause-months
returns-clause-months c = months-are c.args.utc_offset c.args.related_iso
