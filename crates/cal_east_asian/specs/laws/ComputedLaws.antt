-- The years that China and Korea choose where no table has a row are valid, join, and have a leap month in any three; and their months are counted.
use Rattle.std.proofs.Common.{◌≡◌, ℕ, ⊎_elim, Bool, true, false, ◌||◌, int_le, if◌then◌else◌, refl, sym, ap, subst, ◌∙◌, arith, ℤ, pos, neg_ℤ, ◌+ℤ◌, ◌-ℤ◌, ◌≤ℤ◌, ◌<ℤ◌}
use Rattle.std.proofs.lemmas.Int.{by_lt_z}
use Rattle.cal_days.specs.Division.{floor_div}
use Rattle.cal_days.specs.Sums.{span}
use Rattle.cal_days.proofs.Signed.{signed, by_bool}
use Rattle.cal_days.proofs.SumLemmas.{span-unique}
use Rattle.cal_east_asian.specs.EastAsianYear.{months_of_year}
use Rattle.cal_east_asian.specs.EastAsianYears.{YearParts, end_of, has_leap, leap_in_three, AreYears, AreValid, year_from, HasValidParts}
use Rattle.cal_east_asian.specs.laws.EastAsianYearLaws.{years-from}
use Rattle.cal_east_asian.specs.MeanYears.{IsOffset, moon, term, last_moon, solstice_moon, month_start, lacks_term, leap_month, new_year, first_moon}
use Rattle.cal_east_asian.specs.laws.MeanYearLaws.{first_moon-next}
use Rattle.cal_east_asian.specs.MeanParts.{mean_parts}
use Rattle.cal_east_asian.specs.laws.MeanPartLaws.{mean-valid, mean-end, mean-leaps, month_total-place}
use Rattle.cal_east_asian.specs.QingYears.{IsQingNumber, qing_parts}
use Rattle.cal_east_asian.specs.laws.QingLaws.{qing-valid, qing-joins, qing-end, qing-leaps, qing_months_before, qing-months}
use Rattle.cal_east_asian.specs.ComputedYears.{standard_offset, beijing_offset, computed_parts, computed_month_count}
use Rattle.cal_east_asian.specs.declared.east_asian_traditional_year.EastAsianTraditionalYear.{EastAsianTraditionalYear}
use Rattle.cal_east_asian.specs.declared.sides.Side.{Side}
use Rattle.cal_east_asian.specs.declared.sides.Side.TheVariants.{China, Korea}

pub standard-offset : (side : Side) → IsOffset (standard_offset side)
standard-offset China = (omega (arith, signed), omega (arith, signed))
standard-offset Korea = (omega (arith, signed), omega (arith, signed))

pub beijing-offset : IsOffset beijing_offset
beijing-offset = (omega (arith, signed), omega (arith, signed))

-- a value by the time that a year lies in
abbrev pub by_time : {X : Type 0} → X → X → X → ℤ → X
by_time late qing early y = if int_le (pos 1912) y then late else (if int_le (pos 1900) y then qing else early)

late-is : {X : Type 0} (a b d : X) (y : ℤ) → pos 1912 ≤ℤ y → by_time a b d y ≡ a
late-is a b d y h = let on : int_le (pos 1912) y ≡ true = by_bool {P = int_le (pos 1912) y ≡ true} (int_le (pos 1912) y) (λ yes. yes) (λ not. absurd (omega (arith, signed))) in rw on refl

qing-is : {X : Type 0} (a b d : X) (y : ℤ) → IsQingNumber y → by_time a b d y ≡ b
qing-is a b d y h =
    let off : int_le (pos 1912) y ≡ false = by_bool {P = int_le (pos 1912) y ≡ false} (int_le (pos 1912) y) (λ yes. absurd (omega (arith, signed))) (λ not. not) in
    let on : int_le (pos 1900) y ≡ true = by_bool {P = int_le (pos 1900) y ≡ true} (int_le (pos 1900) y) (λ yes. yes) (λ not. absurd (omega (arith, signed))) in
    rw (off, on) refl

early-is : {X : Type 0} (a b d : X) (y : ℤ) → y <ℤ pos 1900 → by_time a b d y ≡ d
early-is a b d y h =
    let off : int_le (pos 1912) y ≡ false = by_bool {P = int_le (pos 1912) y ≡ false} (int_le (pos 1912) y) (λ yes. absurd (omega (arith, signed))) (λ not. not) in
    let no_row : int_le (pos 1900) y ≡ false = by_bool {P = int_le (pos 1900) y ≡ false} (int_le (pos 1900) y) (λ yes. absurd (omega (arith, signed))) (λ not. not) in
    rw (off, no_row) refl

-- a year lies in one of three times
pub by_times : {P : Type 0} (y : ℤ) → (pos 1912 ≤ℤ y → P) → (IsQingNumber y → P) → (y <ℤ pos 1900 → P) → P
by_times {P} y late qing early =
    by_lt_z {P = P} y (pos 1900) early (λ from.
    by_lt_z {P = P} y (pos 1912) (λ to. qing (omega (arith, signed), omega (arith, signed))) late)

pub computed-late : (side : Side) (y : ℤ) → pos 1912 ≤ℤ y → computed_parts side y ≡ mean_parts (standard_offset side) y
computed-late side y h = late-is (mean_parts (standard_offset side) y) (qing_parts y) (mean_parts beijing_offset y) y h

pub computed-qing : (side : Side) (y : ℤ) → IsQingNumber y → computed_parts side y ≡ qing_parts y
computed-qing side y h = qing-is (mean_parts (standard_offset side) y) (qing_parts y) (mean_parts beijing_offset y) y h

pub computed-early : (side : Side) (y : ℤ) → y <ℤ pos 1900 → computed_parts side y ≡ mean_parts beijing_offset y
computed-early side y h = early-is (mean_parts (standard_offset side) y) (qing_parts y) (mean_parts beijing_offset y) y h

pub computed-valid : (side : Side) → AreValid (computed_parts side)
computed-valid side y rule =
    by_times {P = HasValidParts y (computed_parts side y)} y
    (λ late. subst (λ (x : YearParts). HasValidParts y x) (sym (computed-late side y late)) (mean-valid (standard_offset side) (standard-offset side) y rule))
    (λ qing. subst (λ (x : YearParts). HasValidParts y x) (sym (computed-qing side y qing)) (qing-valid y qing))
    (λ early. subst (λ (x : YearParts). HasValidParts y x) (sym (computed-early side y early)) (mean-valid beijing_offset beijing-offset y rule))

-- the year of a number where no table has a row
abbrev pub computed_year : Side → ℤ → EastAsianTraditionalYear
computed_year side = year_from (computed_parts side) (computed-valid side)

-- the mean years of both sides begin in 1912 where the Qing years end, and these begin in 1900 where the mean years end
pub new_year-1912 : (side : Side) → new_year (standard_offset side) (pos 1912) ≡ pos 698026
unfolding new_year month_start solstice_moon last_moon leap_month lacks_term moon term floor_div
new_year-1912 China = refl
new_year-1912 Korea = refl

pub new_year-1900 : new_year beijing_offset (pos 1900) ≡ pos 693626
unfolding new_year month_start solstice_moon last_moon leap_month lacks_term moon term floor_div
new_year-1900 = refl

abbrev Joins : YearParts → YearParts → Type 0
Joins next parts = next.new_year ≡ end_of parts

joins-by : (a b d e : YearParts) → a ≡ b → d ≡ e → Joins b e → Joins a d
joins-by a b d e f g h = rw (f, g) h

pub computed-joins : (side : Side) (y : ℤ) → (computed_parts side (y +ℤ pos 1)).new_year ≡ end_of (computed_parts side y)
computed-joins side y =
    let P : Type 0 = Joins (computed_parts side (y +ℤ pos 1)) (computed_parts side y) in
    let n = y +ℤ pos 1 in
    let o = standard_offset side in
    let join : (b e : YearParts) → computed_parts side n ≡ b → computed_parts side y ≡ e → Joins b e → P = λ b e. joins-by (computed_parts side n) b (computed_parts side y) e in
    by_times {P = P} y
    (λ late. join (mean_parts o n) (mean_parts o y) (computed-late side n (omega (arith, signed, late))) (computed-late side y late) (mean-end o y))
    (λ qing. by_times {P = P} n
    (λ next.
    let last : y ≡ pos 1911 = omega (arith, signed, qing, next) in
    let after : n ≡ pos 1912 = omega (arith, signed, last) in
    join (mean_parts o n) (qing_parts y) (computed-late side n next) (computed-qing side y qing) (ap (λ (z : ℤ). new_year o z) after ∙ new_year-1912 side ∙ sym qing-end ∙ ap (λ (z : ℤ). end_of (qing_parts z)) (sym last)))
    (λ next. join (qing_parts n) (qing_parts y) (computed-qing side n next) (computed-qing side y qing) (qing-joins y qing next))
    (λ next. absurd (omega (arith, signed, qing, next))))
    (λ early. by_times {P = P} n
    (λ next. absurd (omega (arith, signed, early, next)))
    (λ next.
    let first : n ≡ pos 1900 = omega (arith, signed, early, next) in
    join (qing_parts n) (mean_parts beijing_offset y) (computed-qing side n next) (computed-early side y early) (ap (λ (z : ℤ). (qing_parts z).new_year) first ∙ sym new_year-1900 ∙ ap (λ (z : ℤ). new_year beijing_offset z) (sym first) ∙ mean-end beijing_offset y))
    (λ next. join (mean_parts beijing_offset n) (mean_parts beijing_offset y) (computed-early side n next) (computed-early side y early) (mean-end beijing_offset y)))

or_first : (a b d : Bool) → a ≡ true → (a || (b || d)) ≡ true
or_first a b d e = rw e refl

or_second : (a b d : Bool) → b ≡ true → (a || (b || d)) ≡ true
or_second true b d e = refl
or_second false b d e = rw e refl

or_third : (a b d : Bool) → d ≡ true → (a || (b || d)) ≡ true
or_third true b d e = refl
or_third false true d e = refl
or_third false false d e = e

-- where three years are the mean ones at one offset
leaps-mean : (side : Side) (o y : ℤ) → computed_parts side y ≡ mean_parts o y → computed_parts side (y -ℤ pos 1) ≡ mean_parts o (y -ℤ pos 1) → computed_parts side (y -ℤ pos 2) ≡ mean_parts o (y -ℤ pos 2) → leap_in_three (computed_parts side) y ≡ true
leaps-mean side o y e f g = rw (e, f, g) (mean-leaps o y)

leap_at : (side : Side) (y : ℤ) → IsQingNumber y → has_leap (qing_parts y) ≡ true → has_leap (computed_parts side y) ≡ true
leap_at side y h e = ap (λ (x : YearParts). has_leap x) (computed-qing side y h) ∙ e

pub computed-leaps : (side : Side) (y : ℤ) → leap_in_three (computed_parts side) y ≡ true
computed-leaps side y =
    let o = standard_offset side in
    let P : Type 0 = leap_in_three (computed_parts side) y ≡ true in
    let a = has_leap (computed_parts side y) in
    let b = has_leap (computed_parts side (y -ℤ pos 1)) in
    let d = has_leap (computed_parts side (y -ℤ pos 2)) in
    let in_1911 : IsQingNumber (pos 1911) = (omega (arith, signed), omega (arith, signed)) in
    by_times {P = P} y
    (λ late. by_lt_z {P = P} y (pos 1914)
    (λ before. by_lt_z {P = P} y (pos 1913)
    (λ first.
    let back : pos 1911 ≡ y -ℤ pos 1 = omega (arith, signed, late, first) in
    or_second a b d (subst (λ (z : ℤ). has_leap (computed_parts side z) ≡ true) back (leap_at side (pos 1911) in_1911 refl)))
    (λ second.
    let back : pos 1911 ≡ y -ℤ pos 2 = omega (arith, signed, before, second) in
    or_third a b d (subst (λ (z : ℤ). has_leap (computed_parts side z) ≡ true) back (leap_at side (pos 1911) in_1911 refl))))
    (λ from. leaps-mean side o y (computed-late side y late) (computed-late side (y -ℤ pos 1) (omega (arith, signed, from))) (computed-late side (y -ℤ pos 2) (omega (arith, signed, from)))))
    (λ qing. ⊎_elim {C = P}
    (λ here. or_first a b d (leap_at side y qing here))
    (λ before. ⊎_elim {C = P}
    (λ one. or_second a b d (leap_at side (y -ℤ pos 1) (omega (arith, signed, one.0), omega (arith, signed, qing)) one.1))
    (λ two. or_third a b d (leap_at side (y -ℤ pos 2) (omega (arith, signed, two.0), omega (arith, signed, qing)) two.1))
    before)
    (qing-leaps y qing))
    (λ early. leaps-mean side beijing_offset y (computed-early side y early) (computed-early side (y -ℤ pos 1) (omega (arith, signed, early))) (computed-early side (y -ℤ pos 2) (omega (arith, signed, early))))

pub computed-years : (side : Side) → AreYears (computed_year side)
computed-years side = years-from (computed_parts side) (computed-valid side) (computed-joins side) (computed-leaps side)

-- how many months a year begins after mean new moon 0, or before it; the Qing years, too, begin and end with the mean moons
abbrev pub computed_first_moon : Side → ℤ → ℤ
computed_first_moon side y = by_time (first_moon (standard_offset side) y) (pos (qing_months_before y) -ℤ pos 1236) (first_moon beijing_offset y) y

pub first_moon-1912 : (side : Side) → first_moon (standard_offset side) (pos 1912) ≡ neg_ℤ (pos 1087)
unfolding first_moon month_start solstice_moon last_moon leap_month lacks_term moon term floor_div
first_moon-1912 China = refl
first_moon-1912 Korea = refl

pub first_moon-1900 : first_moon beijing_offset (pos 1900) ≡ neg_ℤ (pos 1236)
unfolding first_moon month_start solstice_moon last_moon leap_month lacks_term moon term floor_div
first_moon-1900 = refl

mean-moons : (o y : ℤ) → first_moon o (y +ℤ pos 1) ≡ first_moon o y +ℤ pos (months_of_year (mean_parts o y).leap_month)
mean-moons o y = first_moon-next o y ∙ ap (λ (n : ℕ). first_moon o y +ℤ pos n) (month_total-place o y)

pub moon-late : (side : Side) (y : ℤ) → pos 1912 ≤ℤ y → computed_first_moon side y ≡ first_moon (standard_offset side) y
moon-late side y h = late-is (first_moon (standard_offset side) y) (pos (qing_months_before y) -ℤ pos 1236) (first_moon beijing_offset y) y h

pub moon-qing : (side : Side) (y : ℤ) → IsQingNumber y → computed_first_moon side y ≡ pos (qing_months_before y) -ℤ pos 1236
moon-qing side y h = qing-is (first_moon (standard_offset side) y) (pos (qing_months_before y) -ℤ pos 1236) (first_moon beijing_offset y) y h

pub moon-early : (side : Side) (y : ℤ) → y <ℤ pos 1900 → computed_first_moon side y ≡ first_moon beijing_offset y
moon-early side y h = early-is (first_moon (standard_offset side) y) (pos (qing_months_before y) -ℤ pos 1236) (first_moon beijing_offset y) y h

abbrev Counts : ℤ → ℤ → YearParts → Type 0
Counts next moon parts = next ≡ moon +ℤ pos (months_of_year parts.leap_month)

counts-by : (n m k j : ℤ) (d e : YearParts) → n ≡ m → k ≡ j → d ≡ e → Counts m j e → Counts n k d
counts-by n m k j d e f g h c = rw (f, g, h) c

pub computed_first_moon-next : (side : Side) (y : ℤ) → computed_first_moon side (y +ℤ pos 1) ≡ computed_first_moon side y +ℤ pos (computed_month_count side y)
computed_first_moon-next side y =
    let n = y +ℤ pos 1 in
    let o = standard_offset side in
    let P : Type 0 = Counts (computed_first_moon side n) (computed_first_moon side y) (computed_parts side y) in
    let count : (m j : ℤ) (e : YearParts) → computed_first_moon side n ≡ m → computed_first_moon side y ≡ j → computed_parts side y ≡ e → Counts m j e → P = λ m j e. counts-by (computed_first_moon side n) m (computed_first_moon side y) j (computed_parts side y) e in
    by_times {P = P} y
    (λ late. count (first_moon o n) (first_moon o y) (mean_parts o y) (moon-late side n (omega (arith, signed, late))) (moon-late side y late) (computed-late side y late) (mean-moons o y))
    (λ qing. by_times {P = P} n
    (λ next.
    let last : pos 1911 ≡ y = omega (arith, signed, qing, next) in
    let after : n ≡ pos 1912 = omega (arith, signed, last) in
    let sum : neg_ℤ (pos 1087) ≡ pos (qing_months_before y) -ℤ pos 1236 +ℤ pos (months_of_year (qing_parts y).leap_month) = subst (λ (z : ℤ). neg_ℤ (pos 1087) ≡ pos (qing_months_before z) -ℤ pos 1236 +ℤ pos (months_of_year (qing_parts z).leap_month)) last refl in
    count (first_moon o n) (pos (qing_months_before y) -ℤ pos 1236) (qing_parts y) (moon-late side n next) (moon-qing side y qing) (computed-qing side y qing) (ap (λ (z : ℤ). first_moon o z) after ∙ first_moon-1912 side ∙ sum))
    (λ next. count (pos (qing_months_before n) -ℤ pos 1236) (pos (qing_months_before y) -ℤ pos 1236) (qing_parts y) (moon-qing side n next) (moon-qing side y qing) (computed-qing side y qing) (omega (arith, signed, qing-months y qing next)))
    (λ next. absurd (omega (arith, signed, qing, next))))
    (λ early. by_times {P = P} n
    (λ next. absurd (omega (arith, signed, early, next)))
    (λ next.
    let first : pos 1900 ≡ n = omega (arith, signed, early, next) in
    let none : pos (qing_months_before n) -ℤ pos 1236 ≡ neg_ℤ (pos 1236) = subst (λ (z : ℤ). pos (qing_months_before z) -ℤ pos 1236 ≡ neg_ℤ (pos 1236)) first refl in
    count (pos (qing_months_before n) -ℤ pos 1236) (first_moon beijing_offset y) (mean_parts beijing_offset y) (moon-qing side n next) (moon-early side y early) (computed-early side y early) (none ∙ sym first_moon-1900 ∙ ap (λ (z : ℤ). first_moon beijing_offset z) first ∙ mean-moons beijing_offset y))
    (λ next. count (first_moon beijing_offset n) (first_moon beijing_offset y) (mean_parts beijing_offset y) (moon-early side n next) (moon-early side y early) (computed-early side y early) (mean-moons beijing_offset y)))

-- so the months between two years are those between their first moons
pub computed_first_moon-span : (side : Side) (from to : ℤ) → computed_first_moon side to ≡ computed_first_moon side from +ℤ span (computed_month_count side) from to
computed_first_moon-span side from = span-unique (computed_month_count side) from (computed_first_moon side) (computed_first_moon-next side)
