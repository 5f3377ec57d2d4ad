use Rattle.std.proofs.Common.{◌≡◌, ◌∙◌, ◌<◌, ◌≤◌, ◌^◌, inl, inr, ℕ, ℤ, ap, sym, subst, refl, arith, pos, neg_ℤ, ◌+ℤ◌, to_z, of_z, w32, w64}
use Rattle.std.specs.Prelude.{IsTrue}
use Rattle.std.proofs.lemmas.Bool.Decides.{nat_tests}
use Rattle.cal_days.specs.Day.{IsBetween, IsRuleYear}
use Rattle.cal_days.proofs.Signed.{signed}
use Rattle.date_bytes.specs.Bytes.{year_from}
use Rattle.date_bytes.specs.EastAsianBytes.{IsLeapPlace, bits_of_places, leap_in}
use Rattle.cal_east_asian.specs.EastAsianYear.{is_leap_place, january_19, months_of_year}
use Rattle.cal_east_asian.specs.laws.RuleYearLaws.{rule_year-same}
use Rattle.cal_east_asian.specs.PackedYears.{packed_year, year_in}
use Rattle.cal_east_asian.specs.laws.SameParts.{same_parts}
use Rattle.cal_east_asian.specs.laws.PackedLaws.{powers}
use Rattle.cal_east_asian.proofs.east_asian_traditional_year.EastAsianTraditionalYearPackWithMD.unpack_year.Goals as goal

abbrev IsRead : ℤ → Type 0
IsRead y = IsBetween (neg_ℤ (pos 4194304)) (pos 4194303) y

-- the number arrives as it is, and is one of a rule year
number : (y : ℤ) → IsRead y → to_z w32 (of_z w32 y) ≡ y
number y range = omega (arith, signed, range)

rule : (y : ℤ) → IsRead y → IsRuleYear y
rule y range = (omega (arith, signed, range), omega (arith, signed, range))

-- so many days after January 19
day : (d first from : ℤ) (n : ℕ) → first ≡ d → IsBetween (neg_ℤ (pos 4000000000)) (pos 4000000000) first → from ≡ pos n → n ≤ 34 → to_z w64 (of_z w64 (to_z w64 (of_z w64 first) +ℤ to_z w64 (of_z w64 from))) ≡ d +ℤ pos n
day d first from n same bound is few = omega (arith, signed, same, bound, is, few)

again : (d first from : ℤ) (n : ℕ) → first ≡ d → IsBetween (neg_ℤ (pos 4000000000)) (pos 4000000000) first → from ≡ pos n → n ≤ 34 → to_z w64 (of_z w64 (to_z w64 (of_z w64 (to_z w64 (of_z w64 first) +ℤ to_z w64 (of_z w64 from))))) ≡ d +ℤ pos n
again d first from n same bound is few =
    let e = day d first from n same bound is few in
    ap (λ (x : ℤ). to_z w64 (of_z w64 x)) e ∙ omega (arith, signed, same, bound, few)

place : (p : ℕ) → IsLeapPlace p → IsTrue (is_leap_place p)
place p (inl none) = rw none refl
place p (inr some) = grind (arith, nat_tests)

pub january_19-requires : goal.january_19-requires
january_19-requires c = let range = c.unpack_year-related_iso.ensures.range in (omega (arith, signed, range), omega (arith, signed, range))

pub from_parts-requires-clause-number : goal.from_parts-requires-clause-number
from_parts-requires-clause-number c = let range = c.unpack_year-related_iso.ensures.range in (omega (arith, signed, range), omega (arith, signed, range))

pub from_parts-requires-clause-start : goal.from_parts-requires-clause-start
from_parts-requires-clause-start c =
    let y = to_z w32 (of_z w32 c.unpack_year-related_iso.result) in
    let few = c.unpack_start.ensures.small in
    let is = again (january_19 y) c.january_19.result c.from.result c.unpack_start.result c.january_19.ensures.value c.january_19.ensures.bound c.from.ensures few in
    (omega (arith, signed, is, few), omega (arith, signed, is, few))

pub from_parts-requires-clause-place : goal.from_parts-requires-clause-place
from_parts-requires-clause-place c = place c.unpack_leap_month-leap_month.result c.unpack_leap_month-leap_month.ensures.place

pub from_parts-requires-clause-few : goal.from_parts-requires-clause-few
from_parts-requires-clause-few c =
    let leap = c.unpack_leap_month-leap_month.result in
    let few : bits_of_places (leap_in c.args.packed) ≡ 2 ^ months_of_year leap = ap bits_of_places (sym c.unpack_leap_month-leap_month.ensures.value) ∙ sym (powers leap) in
    subst (λ (n : ℕ). c.unpack_long_months-long_months.result < n) few c.unpack_long_months-long_months.ensures.places

pub returns : goal.returns
returns c =
    let p = c.args.packed in
    let year = c.unpack_year-related_iso in
    let start = c.unpack_start in
    let ruled : IsRuleYear (year_from 3 p) = subst IsRuleYear year.ensures.value (rule year.result year.ensures.range) in
    let same : to_z w32 (of_z w32 year.result) ≡ year_in p = number year.result year.ensures.range ∙ (year.ensures.value ∙ sym (rule_year-same (year_from 3 p) ruled)) in
    let first = day (january_19 (year_in p)) c.january_19.result c.from.result start.result (c.january_19.ensures.value ∙ ap january_19 same) c.january_19.ensures.bound c.from.ensures start.ensures.small in
    same_parts c.from_parts.result (packed_year p) (c.from_parts.ensures.number ∙ same)
    (c.from_parts.ensures.start ∙ first ∙ ap (λ (n : ℕ). january_19 (year_in p) +ℤ pos n) start.ensures.value)
    (c.from_parts.ensures.lengths ∙ c.unpack_long_months-long_months.ensures.value) (c.from_parts.ensures.place ∙ c.unpack_leap_month-leap_month.ensures.value)
