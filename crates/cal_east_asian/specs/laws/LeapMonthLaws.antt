-- Counted from the month of the solstice, a mean year reaches from the last moon on or before the day of term 2 to that of term 14, so neighbours join.
use Rattle.std.proofs.Common.{◌≡◌, ℕ, zero, suc, ◌+◌, ◌-◌, ◌*◌, ◌<◌, ◌≤◌, Bool, true, false, cond, Option, Some, None, nat_le, refl, sym, ap, subst, ◌∙◌, arith, ℤ, pos, ◌+ℤ◌, ◌<ℤ◌, ◌≤ℤ◌}
use Rattle.std.proofs.lemmas.Int.{by_lt_z}
use Rattle.std.proofs.lemmas.Bool.Decides.{nat_tests}
use Rattle.cal_days.proofs.Signed.{signed, by_lt, by_bool}
use Rattle.cal_east_asian.specs.MeanYears.{day, moon, term, last_moon, solstice_moon, month_start, lacks_term, least, leap_month, first_month, end_month, new_year}
use Rattle.cal_east_asian.specs.laws.MoonLaws.{day-near, day-later, day-step, moon-more, term-more, term-next_year, last_moon-within, last_moon-most, last_moon-unique}

-- the moon of month i
abbrev pub nth_moon : ℤ → ℤ → ℕ → ℤ
nth_moon o y i = moon o (solstice_moon o y +ℤ pos i)

pub nth_moon-next : (o y : ℤ) (i n : ℕ) → nth_moon o y (i + n) ≡ nth_moon o y i +ℤ pos (2551442876 * n)
nth_moon-next o y i n = moon-more o (solstice_moon o y +ℤ pos i) (solstice_moon o y +ℤ pos (i + n)) n (omega (arith, signed))

pub solstice-within : (o y : ℤ) → day (nth_moon o y 0) ≤ℤ day (term o y 0)
unfolding solstice_moon
solstice-within o y =
    let same : last_moon o (day (term o y 0)) +ℤ pos 0 ≡ last_moon o (day (term o y 0)) = omega (arith, signed) in
    omega (arith, signed, last_moon-within o (day (term o y 0)), ap (λ k. day (moon o k)) same)

pub solstice-most : (o y : ℤ) → day (term o y 0) <ℤ day (nth_moon o y 1)
unfolding solstice_moon
solstice-most o y = last_moon-most o (day (term o y 0))

-- month i begins on or before the day of term i
pub starts_before : (o y : ℤ) (i : ℕ) → day (nth_moon o y i) ≤ℤ day (term o y i)
starts_before o y zero = solstice-within o y
starts_before o y (suc i) =
    let one : suc i ≡ i + 1 = omega arith in
    rw one (day-step (nth_moon o y i) (term o y i) (nth_moon o y (i + 1)) (term o y (i + 1)) (nth_moon-next o y i 1) (term-more o y i 1) (starts_before o y i))

-- the month after the next one begins after it
pub starts_after : (o y : ℤ) (i : ℕ) → i ≤ 31 → day (term o y i) <ℤ day (nth_moon o y (i + 2))
starts_after o y i h =
    by_lt_z {P = day (term o y i) <ℤ day (nth_moon o y (i + 2))} (day (term o y i)) (day (nth_moon o y (i + 2))) (λ lt. lt) (λ le.
    let two : 1 + (i + 1) ≡ i + 2 = omega arith in
    let none : 0 + i ≡ i = omega arith in
    absurd (omega (
      arith,
      signed,
      day-near (nth_moon o y (i + 2)) (term o y i) le,
      day-later (nth_moon o y 1) (term o y 0) (solstice-most o y),
      rw two at (nth_moon-next o y 1 (i + 1)),
      rw none at (term-more o y 0 i),
    )))

-- the test for the leap month
pub lacks_term-true : (o y : ℤ) (i : ℕ) → lacks_term o y i ≡ true → day (nth_moon o y (i + 1)) ≤ℤ day (term o y i)
unfolding lacks_term month_start
lacks_term-true o y i e = omega (arith, signed, e)

pub lacks_term-false : (o y : ℤ) (i : ℕ) → lacks_term o y i ≡ false → day (term o y i) <ℤ day (nth_moon o y (i + 1))
unfolding lacks_term month_start
lacks_term-false o y i e = omega (arith, signed, e)

pub lacks_term-is : (o y : ℤ) (i : ℕ) → day (nth_moon o y (i + 1)) ≤ℤ day (term o y i) → lacks_term o y i ≡ true
lacks_term-is o y i h =
    by_bool {P = lacks_term o y i ≡ true} (lacks_term o y i) (λ on. on) (λ off. absurd (omega (arith, signed, h, lacks_term-false o y i off)))

-- once met, it is met by every later month
pub lacks_term-next : (o y : ℤ) (i : ℕ) → lacks_term o y i ≡ true → lacks_term o y (i + 1) ≡ true
lacks_term-next o y i e =
    lacks_term-is o y (i + 1) (day-step (nth_moon o y (i + 1)) (term o y i) (nth_moon o y (i + 1 + 1)) (term o y (i + 1)) (nth_moon-next o y (i + 1) 1) (term-more o y i 1) (lacks_term-true o y i e))

pub lacks_term-later : (o y : ℤ) (i n : ℕ) → lacks_term o y i ≡ true → lacks_term o y (i + n) ≡ true
lacks_term-later o y i zero e = let same : i + 0 ≡ i = omega arith in rw same e
lacks_term-later o y i (suc n) e = let same : i + suc n ≡ i + n + 1 = omega arith in rw same (lacks_term-next o y (i + n) (lacks_term-later o y i n e))

-- the month of the solstice is never one
pub lacks_term-first : (o y : ℤ) → lacks_term o y 0 ≡ false
lacks_term-first o y =
    by_bool {P = lacks_term o y 0 ≡ false} (lacks_term o y 0) (λ on. absurd (omega (arith, signed, lacks_term-true o y 0 on, solstice-most o y))) (λ off. off)

-- the least number that meets a test
pub least-none : (t : ℕ → Bool) (i n j : ℕ) → least t i n ≡ None → i ≤ j → j < i + n → t j ≡ false
least-none t i zero j e h k = absurd (omega arith)
least-none t i (suc n) j e h k =
    by_bool {P = t j ≡ false} (t i)
    (λ on. let first : Some i ≡ None = sym (ap (λ (b : Bool). cond b (Some i) (least t (i + 1) n)) on) ∙ e in absurd cc)
    (λ off.
    let rest : least t (i + 1) n ≡ None = sym (ap (λ (b : Bool). cond b (Some i) (least t (i + 1) n)) off) ∙ e in
    by_lt {P = t j ≡ false} i j (λ lt. least-none t (i + 1) n j rest (omega arith) (omega arith)) (λ le. let same : i ≡ j = omega arith in subst (λ (m : ℕ). t m ≡ false) same off))

pub record IsLeast (t : ℕ → Bool) (i n g : ℕ) : Type 0 where
  pub low : i ≤ g
  pub high : g < i + n
  pub met : t g ≡ true
  pub first : (j : ℕ) → i ≤ j → j < g → t j ≡ false

pub least-some : (t : ℕ → Bool) (i n g : ℕ) → least t i n ≡ Some g → IsLeast t i n g
least-some t i zero g e = absurd cc
least-some t i (suc n) g e =
    by_bool {P = IsLeast t i (suc n) g} (t i)
    (λ on.
    let first : Some i ≡ Some g = sym (ap (λ (b : Bool). cond b (Some i) (least t (i + 1) n)) on) ∙ e in
    let same : i ≡ g = cc in
    record { low = omega arith; high = omega arith; met = subst (λ (m : ℕ). t m ≡ true) same on; first = λ j h k. absurd (omega arith) })
    (λ off.
    let rest = least-some t (i + 1) n g (sym (ap (λ (b : Bool). cond b (Some i) (least t (i + 1) n)) off) ∙ e) in
    record {
      low = omega (arith, rest.low);
      high = omega (arith, rest.high);
      met = rest.met;
      first = λ j h k.
          by_lt {P = t j ≡ false} i j (λ lt. rest.first j (omega arith) k) (λ le. let same : i ≡ j = omega arith in subst (λ (m : ℕ). t m ≡ false) same off);
    })

by_option : {P : Type 0} (m : Option ℕ) → (m ≡ None → P) → ((g : ℕ) → m ≡ Some g → P) → P
by_option None none some = none refl
by_option (Some g) none some = some g refl

pub by_leap_month : {P : Type 0} (o y : ℤ) → (leap_month o y ≡ None → lacks_term o y 14 ≡ false → lacks_term o y 2 ≡ false → P) → ((g : ℕ) → leap_month o y ≡ Some g → 1 ≤ g → g ≤ 2 → lacks_term o y 2 ≡ true → lacks_term o y 14 ≡ true → P) → ((g : ℕ) → leap_month o y ≡ Some g → 3 ≤ g → g ≤ 14 → lacks_term o y 2 ≡ false → lacks_term o y 14 ≡ true → P) → P
unfolding leap_month
by_leap_month {P} o y none early late =
    by_option {P = P} (least (lacks_term o y) 0 15)
    (λ e. none e (least-none (lacks_term o y) 0 15 14 e (omega arith) (omega arith)) (least-none (lacks_term o y) 0 15 2 e (omega arith) (omega arith)))
    (λ g e.
    let is = least-some (lacks_term o y) 0 15 g e in
    let up_14 : g + (14 - g) ≡ 14 = omega (arith, is.high) in
    let last = rw up_14 at (lacks_term-later o y g (14 - g) is.met) in
    by_lt {P = P} 2 g
    (λ lt. late g e lt (omega (arith, is.high)) (is.first 2 (omega arith) lt) last)
    (λ le.
    let up_2 : g + (2 - g) ≡ 2 = omega arith in
    let some : 1 ≤ g = by_lt {P = 1 ≤ g} 0 g (λ lt. lt) (λ no. let same : g ≡ 0 = omega arith in let none : true ≡ false = sym (subst (λ (m : ℕ). lacks_term o y m ≡ true) same is.met) ∙ lacks_term-first o y in absurd cc) in
    early g e some le (rw up_2 at (lacks_term-later o y g (2 - g) is.met)) last))

-- the year's months from the last moon on or before the day of term 2 ..
pub first_month-is : (o y : ℤ) → solstice_moon o y +ℤ pos (first_month (leap_month o y)) ≡ last_moon o (day (term o y 2))
first_month-is o y =
    by_leap_month {P = solstice_moon o y +ℤ pos (first_month (leap_month o y)) ≡ last_moon o (day (term o y 2))} o y
    (λ e last two. rw e (plain two))
    (λ g e some le two last. rw e (let low : nat_le g 2 ≡ true = grind (arith, nat_tests) in rw low (early two)))
    (λ g e ge le two last. rw e (let low : nat_le g 2 ≡ false = grind (arith, nat_tests) in rw low (plain two))) where
      plain : lacks_term o y 2 ≡ false → solstice_moon o y +ℤ pos 2 ≡ last_moon o (day (term o y 2))
      plain two =
          let next : solstice_moon o y +ℤ pos 2 +ℤ pos 1 ≡ solstice_moon o y +ℤ pos 3 = omega (arith, signed) in
          last_moon-unique o (day (term o y 2)) (solstice_moon o y +ℤ pos 2) (starts_before o y 2) (rw next (lacks_term-false o y 2 two))

      early : lacks_term o y 2 ≡ true → solstice_moon o y +ℤ pos 3 ≡ last_moon o (day (term o y 2))
      early two =
          let next : solstice_moon o y +ℤ pos 3 +ℤ pos 1 ≡ solstice_moon o y +ℤ pos 4 = omega (arith, signed) in
          last_moon-unique o (day (term o y 2)) (solstice_moon o y +ℤ pos 3) (lacks_term-true o y 2 two) (rw next (starts_after o y 2 (omega arith)))

-- .. to that of term 14
pub end_month-is : (o y : ℤ) → solstice_moon o y +ℤ pos (end_month (leap_month o y)) ≡ last_moon o (day (term o y 14))
end_month-is o y =
    by_leap_month {P = solstice_moon o y +ℤ pos (end_month (leap_month o y)) ≡ last_moon o (day (term o y 14))} o y
    (λ e last two. rw e (plain last))
    (λ g e some le two last. rw e (leap last))
    (λ g e ge le two last. rw e (leap last)) where
      plain : lacks_term o y 14 ≡ false → solstice_moon o y +ℤ pos 14 ≡ last_moon o (day (term o y 14))
      plain last =
          let next : solstice_moon o y +ℤ pos 14 +ℤ pos 1 ≡ solstice_moon o y +ℤ pos 15 = omega (arith, signed) in
          last_moon-unique o (day (term o y 14)) (solstice_moon o y +ℤ pos 14) (starts_before o y 14) (rw next (lacks_term-false o y 14 last))

      leap : lacks_term o y 14 ≡ true → solstice_moon o y +ℤ pos 15 ≡ last_moon o (day (term o y 14))
      leap last =
          let next : solstice_moon o y +ℤ pos 15 +ℤ pos 1 ≡ solstice_moon o y +ℤ pos 16 = omega (arith, signed) in
          last_moon-unique o (day (term o y 14)) (solstice_moon o y +ℤ pos 15) (lacks_term-true o y 14 last) (rw next (starts_after o y 14 (omega arith)))

-- counted from either solstice, a year ends and the next one begins with the same moon
pub moons-join : (o y : ℤ) → solstice_moon o (y +ℤ pos 1) +ℤ pos (first_month (leap_month o (y +ℤ pos 1))) ≡ solstice_moon o y +ℤ pos (end_month (leap_month o y))
moons-join o y = first_month-is o (y +ℤ pos 1) ∙ ap (λ t. last_moon o (day t)) (term-next_year o y 2) ∙ sym (end_month-is o y)

-- and so the same new year
pub new_year-is : (o y : ℤ) → new_year o y ≡ day (moon o (last_moon o (day (term o y 2))))
unfolding new_year month_start
new_year-is o y = ap (λ k. day (moon o k)) (first_month-is o y)

pub new_year-next : (o y : ℤ) → new_year o (y +ℤ pos 1) ≡ month_start o y (end_month (leap_month o y))
unfolding new_year month_start
new_year-next o y = ap (λ k. day (moon o k)) (moons-join o y)
