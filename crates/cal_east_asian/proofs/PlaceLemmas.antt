-- The leap month's place and the lengths of the months of a mean year, first over plain numbers and then beside its moons and terms.
use Rattle.std.proofs.Common.{◌≡◌, ℕ, zero, suc, ◌+◌, ◌-◌, ◌*◌, ◌/◌, ◌%◌, ◌^◌, ◌<◌, ◌≤◌, Bool, true, false, nat_le, if◌then◌else◌, Some, None, refl, sym, ap, subst, ◌∙◌, arith, ℤ, pos, ◌+ℤ◌, ◌-ℤ◌, ◌≤ℤ◌, ◌<ℤ◌}
use Rattle.std.proofs.Math.Nat.{pow-suc}
use Rattle.std.proofs.lemmas.Bool.Decides.{nat_tests}
use Rattle.cal_days.specs.Division.{floor_mod}
use Rattle.cal_days.proofs.DivisionLemmas.{floor_parts}
use Rattle.cal_days.proofs.Signed.{signed, by_lt, by_bool}
use Rattle.cal_east_asian.specs.EastAsianYear.{months_of_year}
use Rattle.cal_east_asian.specs.MeanYears.{day, moon, term, last_moon, solstice_moon, month_start, lacks_term, least, leap_month, first_month, mean_entry, entries_from, mean_months}
use Rattle.cal_east_asian.specs.laws.MoonLaws.{term-more}
use Rattle.cal_east_asian.specs.laws.LeapMonthLaws.{nth_moon, nth_moon-next, starts_after, lacks_term-true, lacks_term-false, least-none, least-some, by_leap_month, first_month-is}
use Rattle.cal_east_asian.specs.laws.MeanYearLaws.{month-days}
use Rattle.cal_east_asian.specs.laws.MeanMonthLaws.{bits, leap_place, place-months}
use Rattle.cal_east_asian.specs.MeanPlaces.{ends_by_term, place_of, place_from, month_bit, month_bits}
use Rattle.cal_east_asian.proofs.MoonLemmas.{least-here, least-next, leap_month-begin}

-- the first number that meets a test is the least one in a range that has it, and a range of numbers that don't meet it has none
pub least-at : (t : ℕ → Bool) (i n g : ℕ) → i ≤ g → g < i + n → t g ≡ true → ((j : ℕ) → i ≤ j → j < g → t j ≡ false) → least t i n ≡ Some g
least-at t i zero g low high met first = absurd (omega arith)
least-at t i (suc n) g low high met first =
    by_lt {P = least t i (suc n) ≡ Some g} i g
    (λ lt. least-next t i (suc n) n (omega arith) (first i (omega arith) lt) ∙ least-at t (i + 1) n g (omega arith) (omega arith) met (λ j h k. first j (omega arith) k))
    (λ le. let same : g ≡ i = omega arith in least-here t i (suc n) (omega arith) (subst (λ (m : ℕ). t m ≡ true) same met) ∙ ap Some (sym same))

pub least-never : (t : ℕ → Bool) (i n : ℕ) → ((j : ℕ) → i ≤ j → j < i + n → t j ≡ false) → least t i n ≡ None
least-never t i zero never = refl
least-never t i (suc n) never =
    least-next t i (suc n) n (omega arith) (never i (omega arith) (omega arith)) ∙ least-never t (i + 1) n (λ j h k. never j (omega arith) (omega arith))

-- the place by the first month that meets the test
pub place-found : (t : ℕ → Bool) (g : ℕ) → t g ≡ true → ((j : ℕ) → j < g → t j ≡ false) → g ≤ 12 → place_of (least t 0 13) ≡ g + 1
place-found t g met first le = ap place_of (least-at t 0 13 g (omega arith) (omega arith) met (λ j h k. first j k))

pub place-none : (t : ℕ → Bool) → ((j : ℕ) → j < 13 → t j ≡ false) → place_of (least t 0 13) ≡ 0
place-none t never = ap place_of (least-never t 0 13 (λ j h k. never j k))

-- the test, once met, is met by every later month
pub ends-on : (lead time j : ℕ) → ends_by_term lead time j ≡ true → lead + (time + 37746000 * j) % 86400000 < 86400000 + 78303124 * j
ends-on lead time j e = grind (arith, nat_tests)

pub ends-is : (lead time j : ℕ) → lead + (time + 37746000 * j) % 86400000 < 86400000 + 78303124 * j → ends_by_term lead time j ≡ true
ends-is lead time j h = grind (arith, nat_tests)

pub ends-not : (lead time j : ℕ) → 86400000 + 78303124 * j ≤ lead + (time + 37746000 * j) % 86400000 → ends_by_term lead time j ≡ false
ends-not lead time j h = grind (arith, nat_tests)

pub ends-next : (lead time j : ℕ) → ends_by_term lead time j ≡ true → ends_by_term lead time (j + 1) ≡ true
ends-next lead time j e = ends-is lead time (j + 1) (omega (arith, ends-on lead time j e))

-- a month that ends a day or more after its term doesn't meet it, and one that ends on its term or before does
pub ends-far : (lead time j : ℕ) → 86400000 + 78303124 * j ≤ lead → ends_by_term lead time j ≡ false
ends-far lead time j h = ends-not lead time j (omega arith)

pub ends-sure : (lead time j : ℕ) → lead ≤ 78303124 * j → ends_by_term lead time j ≡ true
ends-sure lead time j h = ends-is lead time j (omega arith)

-- so at most two months are in doubt: the first one that ends less than a day after its term, and the next one
abbrev pub more : Bool → ℕ
more b = if b then 0 else 1

pub record IsFirst (t : ℕ → Bool) (g : ℕ) : Type 0 where
  pub met : t g ≡ true
  pub first : (j : ℕ) → j < g → t j ≡ false

in-doubt : (lead time near : ℕ) → lead < 86400000 + 78303124 * near → ((j : ℕ) → j < near → 86400000 + 78303124 * j ≤ lead) → IsFirst (ends_by_term lead time) (near + more (ends_by_term lead time near) + more (ends_by_term lead time (near + 1)))
in-doubt lead time near close far =
    let t = ends_by_term lead time in
    let P : Type 0 = IsFirst t (near + more (t near) + more (t (near + 1))) in
    by_bool {P = P} (t near)
    (λ on.
    let next = ends-next lead time near on in
    let same : near ≡ near + more (t near) + more (t (near + 1)) = rw (on, next) (omega arith) in
    subst (λ (g : ℕ). IsFirst t g) same (record { met = on; first = λ j k. ends-far lead time j (far j k) }))
    (λ off.
    by_bool {P = P} (t (near + 1))
    (λ on.
    let same : near + 1 ≡ near + more (t near) + more (t (near + 1)) = rw (off, on) (omega arith) in
    subst (λ (g : ℕ). IsFirst t g) same (record { met = on; first = before near off far }))
    (λ not.
    let same : near + 2 ≡ near + more (t near) + more (t (near + 1)) = rw (off, not) (omega arith) in
    subst (λ (g : ℕ). IsFirst t g) same (record {
      met = ends-sure lead time (near + 2) (omega arith);
      first = λ j k.
          by_lt {P = t j ≡ false} j (near + 1)
          (λ lt. before near off far j lt)
          (λ le. let this : near + 1 ≡ j = omega arith in subst (λ (m : ℕ). t m ≡ false) this not);
    }))) where
      before : (n : ℕ) → ends_by_term lead time n ≡ false → ((j : ℕ) → j < n → 86400000 + 78303124 * j ≤ lead) → (j : ℕ) → j < n + 1 → ends_by_term lead time j ≡ false
      before n off far j k =
          by_lt {P = ends_by_term lead time j ≡ false} j n
          (λ lt. ends-far lead time j (far j lt))
          (λ le. let this : n ≡ j = omega arith in subst (λ (m : ℕ). ends_by_term lead time m ≡ false) this off)

-- what the calls of the leap month's place give together
pub place-is : (lead time near a b : ℕ) → lead < 86400000 + 78303124 * near → ((j : ℕ) → j < near → 86400000 + 78303124 * j ≤ lead) → a ≡ more (ends_by_term lead time near) → b ≡ more (ends_by_term lead time (near + 1)) → IsFirst (ends_by_term lead time) (near + a + b)
place-is lead time near a b close far e f = rw (e, f) (in-doubt lead time near close far)

pub place-by : (lead time g : ℕ) → IsFirst (ends_by_term lead time) g → (if nat_le g 12 then g + 1 else 0) ≡ place_from lead time
place-by lead time g is =
    by_lt {P = (if nat_le g 12 then g + 1 else 0) ≡ place_from lead time} 12 g
    (λ lt. let off : nat_le g 12 ≡ false = grind (arith, nat_tests) in rw off (sym (place-none (ends_by_term lead time) (λ j k. is.first j (omega arith)))))
    (λ le. let on : nat_le g 12 ≡ true = grind (arith, nat_tests) in rw on (sym (place-found (ends_by_term lead time) g is.met is.first le)))

-- the month before one, whose bit comes below the others
pub months-least : (p : ℕ) → 12 ≤ months_of_year p
months-least p = omega arith

pub before-is : (time i k before start : ℕ) → k ≡ i + 1 → start ≡ (time + 45842876 * k) % 86400000 → before < 86400000 → (before + 45842876) % 86400000 ≡ start → before ≡ (time + 45842876 * i) % 86400000
before-is time i k before start e known lt next = omega arith

pub one_more : (time i k n m bits bit before : ℕ) → k ≡ i + 1 → m ≡ suc n → k ≤ 12 → bits < 2 ^ (13 - k) → bits ≡ month_bits time k n → before ≡ (time + 45842876 * i) % 86400000 → bit ≡ (before + 45842876) / 86400000 → bit ≤ 1 → (bits * 2 + bit < 2 ^ (13 - i)) × (bits * 2 + bit ≡ month_bits time i m)
one_more time i k n m bits bit before e f le fits known start is small =
    let there : bits ≡ month_bits time (i + 1) n = known ∙ ap (λ (j : ℕ). month_bits time j n) e in
    let here : bit ≡ month_bit time i = is ∙ ap (λ (s : ℕ). (s + 45842876) / 86400000) start in
    let one : 13 - i ≡ suc (13 - k) = omega arith in
    let below : bits * 2 + bit < 2 ^ suc (13 - k) = omega (arith, pow-suc 2 (13 - k)) in
    let exact : bits * 2 + bit ≡ month_bits time i (suc n) = ap (λ (b : ℕ). b * 2 + bit) there ∙ ap (λ (b : ℕ). month_bits time (i + 1) n * 2 + b) here in
    (subst (λ (j : ℕ). bits * 2 + bit < 2 ^ j) (sym one) below, subst (λ (j : ℕ). bits * 2 + bit ≡ month_bits time i j) (sym f) exact)

-- the test for moments: a is the end of the first month, and b its term
time-later : (b : ℤ) (time j : ℕ) → time ≡ floor_mod b 86400000 → (time + 37746000 * j) % 86400000 ≡ floor_mod (b +ℤ pos (2629746000 * j)) 86400000
time-later b time j e = omega (arith, signed, e, floor_parts b 86400000, floor_parts (b +ℤ pos (2629746000 * j)) 86400000)

pub ends-met : (a b : ℤ) (lead time j : ℕ) → pos lead ≡ a -ℤ b → time ≡ floor_mod b 86400000 → day (a +ℤ pos (2551442876 * j)) ≤ℤ day (b +ℤ pos (2629746000 * j)) → ends_by_term lead time j ≡ true
ends-met a b lead time j e f h =
    ends-is lead time j (omega (arith, signed, e, h, time-later b time j f, floor_parts (a +ℤ pos (2551442876 * j)) 86400000, floor_parts (b +ℤ pos (2629746000 * j)) 86400000))

pub ends-unmet : (a b : ℤ) (lead time j : ℕ) → pos lead ≡ a -ℤ b → time ≡ floor_mod b 86400000 → day (b +ℤ pos (2629746000 * j)) <ℤ day (a +ℤ pos (2551442876 * j)) → ends_by_term lead time j ≡ false
ends-unmet a b lead time j e f h =
    ends-not lead time j (omega (arith, signed, e, h, time-later b time j f, floor_parts (a +ℤ pos (2551442876 * j)) 86400000, floor_parts (b +ℤ pos (2629746000 * j)) 86400000))

-- where the year begins with month 2, the tests are those of its months
ends-lacks : (o y : ℤ) (lead time j : ℕ) → pos lead ≡ nth_moon o y 3 -ℤ term o y 2 → time ≡ floor_mod (term o y 2) 86400000 → ends_by_term lead time j ≡ lacks_term o y (2 + j)
ends-lacks o y lead time j e f =
    let more : 3 + j ≡ 2 + j + 1 = omega arith in
    let end : nth_moon o y 3 +ℤ pos (2551442876 * j) ≡ nth_moon o y (2 + j + 1) = sym (nth_moon-next o y 3 j) ∙ ap (λ (n : ℕ). nth_moon o y n) more in
    let last : day (nth_moon o y 3 +ℤ pos (2551442876 * j)) ≡ day (nth_moon o y (2 + j + 1)) = ap (λ (z : ℤ). day z) end in
    let there : day (term o y 2 +ℤ pos (2629746000 * j)) ≡ day (term o y (2 + j)) = ap (λ (z : ℤ). day z) (sym (term-more o y 2 j)) in
    by_bool {P = ends_by_term lead time j ≡ lacks_term o y (2 + j)} (lacks_term o y (2 + j))
    (λ on. ends-met (nth_moon o y 3) (term o y 2) lead time j e f (omega (arith, signed, last, there, lacks_term-true o y (2 + j) on)) ∙ sym on)
    (λ off. ends-unmet (nth_moon o y 3) (term o y 2) lead time j e f (omega (arith, signed, last, there, lacks_term-false o y (2 + j) off)) ∙ sym off)

-- where it begins with month 3, no month meets the test
ends-none : (o y : ℤ) (lead time j : ℕ) → j < 13 → pos lead ≡ nth_moon o y 4 -ℤ term o y 2 → time ≡ floor_mod (term o y 2) 86400000 → ends_by_term lead time j ≡ false
ends-none o y lead time j lt e f =
    let more : 4 + j ≡ 2 + j + 2 = omega arith in
    let end : nth_moon o y 4 +ℤ pos (2551442876 * j) ≡ nth_moon o y (2 + j + 2) = sym (nth_moon-next o y 4 j) ∙ ap (λ (n : ℕ). nth_moon o y n) more in
    let last : day (nth_moon o y 4 +ℤ pos (2551442876 * j)) ≡ day (nth_moon o y (2 + j + 2)) = ap (λ (z : ℤ). day z) end in
    let there : day (term o y 2 +ℤ pos (2629746000 * j)) ≡ day (term o y (2 + j)) = ap (λ (z : ℤ). day z) (sym (term-more o y 2 j)) in
    ends-unmet (nth_moon o y 4) (term o y 2) lead time j e f (omega (arith, signed, last, there, starts_after o y (2 + j) (omega arith)))

-- the moon that a year begins with, and the next one
pub first-moon : (o y : ℤ) → moon o (last_moon o (day (term o y 2))) ≡ nth_moon o y (first_month (leap_month o y))
first-moon o y = ap (λ (k : ℤ). moon o k) (sym (first_month-is o y))

second-moon : (o y : ℤ) (n : ℕ) → first_month (leap_month o y) ≡ n → moon o (last_moon o (day (term o y 2)) +ℤ pos 1) ≡ nth_moon o y (n + 1)
second-moon o y n e =
    let same : last_moon o (day (term o y 2)) +ℤ pos 1 ≡ solstice_moon o y +ℤ pos (n + 1) = omega (arith, signed, first_month-is o y, e) in
    ap (λ (k : ℤ). moon o k) same

-- the leap month's place
late_place : (o y : ℤ) (lead time g : ℕ) → leap_month o y ≡ Some g → 3 ≤ g → g ≤ 14 → pos lead ≡ nth_moon o y 3 -ℤ term o y 2 → time ≡ floor_mod (term o y 2) 86400000 → place_from lead time ≡ g - 1
late_place o y lead time g e ge le a b =
    let is = least-some (lacks_term o y) 0 15 g (sym (leap_month-begin o y) ∙ e) in
    let up : g ≡ 2 + (g - 2) = omega arith in
    let met : ends_by_term lead time (g - 2) ≡ true = ends-lacks o y lead time (g - 2) a b ∙ ap (λ (n : ℕ). lacks_term o y n) (sym up) ∙ is.met in
    let last : g - 2 + 1 ≡ g - 1 = omega arith in
    place-found (ends_by_term lead time) (g - 2) met (λ j k. ends-lacks o y lead time j a b ∙ is.first (2 + j) (omega arith) (omega arith)) (omega arith) ∙ last

pub place-mean : (o y : ℤ) (lead time : ℕ) → pos lead ≡ moon o (last_moon o (day (term o y 2)) +ℤ pos 1) -ℤ term o y 2 → time ≡ floor_mod (term o y 2) 86400000 → place_from lead time ≡ leap_place (leap_month o y)
place-mean o y lead time a b =
    by_leap_month {P = place_from lead time ≡ leap_place (leap_month o y)} o y
    (λ e last two.
    let end : pos lead ≡ nth_moon o y 3 -ℤ term o y 2 = a ∙ ap (λ (z : ℤ). z -ℤ term o y 2) (second-moon o y 2 (ap first_month e)) in
    place-none (ends_by_term lead time) (λ j k. ends-lacks o y lead time j end b ∙ least-none (lacks_term o y) 0 15 (2 + j) (sym (leap_month-begin o y) ∙ e) (omega arith) (omega arith)) ∙ ap leap_place (sym e))
    (λ g e some le two last.
    let low : nat_le g 2 ≡ true = grind (arith, nat_tests) in
    let begins : first_month (Some g) ≡ 3 = rw low refl in
    let none : 0 ≡ leap_place (Some g) = rw low refl in
    let end : pos lead ≡ nth_moon o y 4 -ℤ term o y 2 = a ∙ ap (λ (z : ℤ). z -ℤ term o y 2) (second-moon o y 3 (ap first_month e ∙ begins)) in
    place-none (ends_by_term lead time) (λ j k. ends-none o y lead time j k end b) ∙ none ∙ ap leap_place (sym e))
    (λ g e ge le two last.
    let low : nat_le g 2 ≡ false = grind (arith, nat_tests) in
    let begins : first_month (Some g) ≡ 2 = rw low refl in
    let there : g - 1 ≡ leap_place (Some g) = rw low refl in
    let end : pos lead ≡ nth_moon o y 3 -ℤ term o y 2 = a ∙ ap (λ (z : ℤ). z -ℤ term o y 2) (second-moon o y 2 (ap first_month e ∙ begins)) in
    late_place o y lead time g e ge le end b ∙ there ∙ ap leap_place (sym e))

-- the lengths of the months
starts_on : (o y : ℤ) (i : ℕ) → month_start o y i ≡ day (nth_moon o y i)
unfolding month_start
starts_on o y i = refl

bit-is : (o y : ℤ) (f time i : ℕ) → time ≡ floor_mod (nth_moon o y f) 86400000 → month_bit time i ≡ (mean_entry o y (f + i)).days - 29
bit-is o y f time i e =
    let k = f + i in
    let days = (mean_entry o y k).days in
    let here : (time + 45842876 * i) % 86400000 ≡ floor_mod (nth_moon o y k) 86400000 = omega (arith, signed, e, nth_moon-next o y f i, floor_parts (nth_moon o y f) 86400000, floor_parts (nth_moon o y k) 86400000) in
    let next : day (nth_moon o y (k + 1)) ≡ day (nth_moon o y k) +ℤ pos days = sym (starts_on o y (k + 1)) ∙ (month-days o y k).2 ∙ ap (λ (z : ℤ). z +ℤ pos days) (starts_on o y k) in
    let bit : (floor_mod (nth_moon o y k) 86400000 + 45842876) / 86400000 ≡ days - 29 = omega (arith, signed, next, month-days o y k, nth_moon-next o y k 1, floor_parts (nth_moon o y k) 86400000, floor_parts (nth_moon o y (k + 1)) 86400000) in
    ap (λ (s : ℕ). (s + 45842876) / 86400000) here ∙ bit

bits-are : (o y : ℤ) (f time : ℕ) → time ≡ floor_mod (nth_moon o y f) 86400000 → (i n : ℕ) → month_bits time i n ≡ bits (entries_from o y (f + i) n)
bits-are o y f time e i zero = refl
bits-are o y f time e i (suc n) =
    let more : f + (i + 1) ≡ f + i + 1 = omega arith in
    let rest : month_bits time (i + 1) n ≡ bits (entries_from o y (f + i + 1) n) = bits-are o y f time e (i + 1) n ∙ ap (λ (k : ℕ). bits (entries_from o y k n)) more in
    ap (λ (b : ℕ). b * 2 + month_bit time i) rest ∙ ap (λ (b : ℕ). bits (entries_from o y (f + i + 1) n) * 2 + b) (bit-is o y f time i e)

pub bits-mean : (o y : ℤ) (time : ℕ) → time ≡ floor_mod (moon o (last_moon o (day (term o y 2)))) 86400000 → month_bits time 0 (months_of_year (leap_place (leap_month o y))) ≡ bits (mean_months o y)
unfolding mean_months
bits-mean o y time e =
    let g = leap_month o y in
    let f = first_month g in
    let n = months_of_year (leap_place g) in
    let same : f + 0 ≡ f = omega arith in
    bits-are o y f time (e ∙ ap (λ (z : ℤ). floor_mod z 86400000) (first-moon o y)) 0 n
    ∙ ap (λ (k : ℕ). bits (entries_from o y k n)) same
    ∙ ap (λ (m : ℕ). bits (entries_from o y f m)) (place-months o y).0
