-- The six lengths of a Hebrew year, by the new moons of four years as a day and the parts of a day after it.
use Rattle.std.proofs.Common.{if◌then◌else◌, ◌==◌, ◌≡◌, ℕ, ◌+◌, ◌*◌, ◌/◌, ◌%◌, ◌<◌, ◌≤◌, Bool, true, false, ◌&&◌, cond, nat_eq, nat_le, nat_lt, refl, sym, ap, ◌∙◌, arith}
use Rattle.std.proofs.lemmas.Bool.{and_from, and_parts, eq-eqb, eqb-true, le-leb, leb-true, lt-ltb, ltb-true}
use Rattle.std.proofs.lemmas.Bool.Decides.{nat_tests}
use Rattle.std.proofs.Common.{ℤ, pos, ◌+ℤ◌, ◌-ℤ◌, ◌*ℤ◌}
use Rattle.cal_days.specs.Division.{floor_div, floor_mod}
use Rattle.cal_days.proofs.Signed.{signed}
use Rattle.cal_days.proofs.DivisionLemmas.{floor_parts}
use Rattle.cal_days.specs.Molad.{follows_382_days, has_356_days, is_shunned, postponement}

-- a new moon on day u is put off by a day where 3u mod 7 is below 3
abbrev pub late : ℕ → ℕ
late u = if nat_lt ((3 * u) % 7) 3 then 1 else 0

-- and further where the year would have 356 days, or the one before 382
abbrev pub delay : ℕ → ℕ → ℕ → ℕ
delay before new next = if next == new + 356 then 2 else (if new == before + 382 then 1 else 0)

-- the new moon of a year of 12 or 13 months, as a day and parts of a day, and that of the next year
abbrev pub NextMoon : ℕ → ℕ → ℕ → ℕ → ℕ → Type 0
NextMoon months u f v g = (v ≡ u + 29 * months + (f + 13753 * months) / 25920) × (g ≡ (f + 13753 * months) % 25920)

-- the parts of a new moon are fewer than those of a day
part-small : (months t d u f : ℕ) → NextMoon months t d u f → f < 25920
part-small months t d u f (day, part) = omega (arith, part)

-- the days between the starts of two years, where their lengths don't matter
range_12 : (u f v g : ℕ) → f < 25920 → NextMoon 12 u f v g → (u + late u + 353 ≤ v + late v) × (v + late v ≤ u + late u + 356)
range_12 u f v g small (day, part) = grind (arith, nat_tests)

range_13 : (u f v g : ℕ) → f < 25920 → NextMoon 13 u f v g → (u + late u + 382 ≤ v + late v) × (v + late v ≤ u + late u + 385)
range_13 u f v g small (day, part) = grind (arith, nat_tests)

-- they are 356 exactly where the new moon is on a Tuesday, and so late
long_12 : (u f v g : ℕ) → f < 25920 → NextMoon 12 u f v g → v + late v ≡ u + late u + 356 → (u % 7 ≡ 2) × (16404 ≤ f)
long_12 u f v g small (day, part) long = grind (arith, nat_tests)

longer_12 : (u f v g : ℕ) → f < 25920 → NextMoon 12 u f v g → u % 7 ≡ 2 → 16404 ≤ f → v + late v ≡ u + late u + 356
longer_12 u f v g small (day, part) weekday late_in_day = grind (arith, nat_tests)

-- and 382 exactly where the next new moon is on a Monday, and so late
short_13 : (t d u f : ℕ) → d < 25920 → NextMoon 13 t d u f → u + late u ≡ t + late t + 382 → (u % 7 ≡ 1) × (23269 ≤ f)
short_13 t d u f small (day, part) short = grind (arith, nat_tests)

shorter_13 : (t d u f : ℕ) → d < 25920 → NextMoon 13 t d u f → u % 7 ≡ 1 → 23269 ≤ f → u + late u ≡ t + late t + 382
shorter_13 t d u f small (day, part) weekday late_in_day = grind (arith, nat_tests)

-- the year before one of 356 days
before_long_12 : (u f v g : ℕ) → f < 25920 → NextMoon 12 u f v g → v % 7 ≡ 2 → 16404 ≤ g → v + late v ≡ u + late u + 353
before_long_12 u f v g small (day, part) weekday late_in_day = grind (arith, nat_tests)

before_long_13 : (u f v g : ℕ) → f < 25920 → NextMoon 13 u f v g → v % 7 ≡ 2 → 16404 ≤ g → v + late v ≡ u + late u + 383
before_long_13 u f v g small (day, part) weekday late_in_day = grind (arith, nat_tests)

-- the year after one of 382 days
after_short_12 : (u f v g : ℕ) → f < 25920 → NextMoon 12 u f v g → u % 7 ≡ 1 → 23269 ≤ f → v + late v ≡ u + late u + 355
after_short_12 u f v g small (day, part) weekday late_in_day = grind (arith, nat_tests)

after_short_13 : (u f v g : ℕ) → f < 25920 → NextMoon 13 u f v g → u % 7 ≡ 1 → 23269 ≤ f → v + late v ≡ u + late u + 385
after_short_13 u f v g small (day, part) weekday late_in_day = grind (arith, nat_tests)

-- a year's length once it and the next one are put off: at least so much, and at most two days more
abbrev IsWithin : ℕ → ℕ → ℕ → ℕ → ℕ → Type 0
IsWithin a b c d least = (b + delay a b c + least ≤ c + delay b c d) × (c + delay b c d ≤ b + delay a b c + (least + 2))

common : (a b c d : ℕ) → (b + 353 ≤ c) × (c ≤ b + 356) → (d ≡ c + 356 → c ≡ b + 353) → (b ≡ a + 382 → c ≡ b + 355) → IsWithin a b c d 353
common a b c d range long short = by_tests (nat_eq d (c + 356)) (nat_eq b (a + 382)) refl refl
  where
    by_tests : (p q : Bool) → nat_eq d (c + 356) ≡ p → nat_eq b (a + 382) ≡ q → IsWithin a b c d 353
    by_tests true true e i =
        let before = long (eqb-true d (c + 356) e) in
        let after = short (eqb-true b (a + 382) i) in absurd (omega (arith, before, after))
    by_tests true false e i = let before = long (eqb-true d (c + 356) e) in grind (arith, nat_tests)
    by_tests false true e i = let after = short (eqb-true b (a + 382) i) in grind (arith, nat_tests)
    by_tests false false e i = grind (arith, nat_tests)

leap : (a b c d : ℕ) → (b + 382 ≤ c) × (c ≤ b + 385) → (d ≡ c + 356 → c ≡ b + 383) → (b ≡ a + 382 → c ≡ b + 385) → IsWithin a b c d 383
leap a b c d range long short = by_tests (nat_eq d (c + 356)) (nat_eq b (a + 382)) refl refl
  where
    by_tests : (p q : Bool) → nat_eq d (c + 356) ≡ p → nat_eq b (a + 382) ≡ q → IsWithin a b c d 383
    by_tests true true e i =
        let before = long (eqb-true d (c + 356) e) in
        let after = short (eqb-true b (a + 382) i) in absurd (omega (arith, before, after))
    by_tests true false e i = let before = long (eqb-true d (c + 356) e) in grind (arith, nat_tests)
    by_tests false true e i = let after = short (eqb-true b (a + 382) i) in grind (arith, nat_tests)
    by_tests false false e i = grind (arith, nat_tests)

-- the length of a year, by the months of the year before, the year itself and the year after
pub length_12_12_12 : (t d u f v g w h : ℕ) → d < 25920 → NextMoon 12 t d u f → NextMoon 12 u f v g → NextMoon 12 v g w h → (u + late u + delay (t + late t) (u + late u) (v + late v) + 353 ≤ v + late v + delay (u + late u) (v + late v) (w + late w)) × (v + late v + delay (u + late u) (v + late v) (w + late w) ≤ u + late u + delay (t + late t) (u + late u) (v + late v) + 355)
length_12_12_12 t d u f v g w h small a b c =
    let f_small = part-small 12 t d u f a in
    let g_small = part-small 12 u f v g b in
    common (t + late t) (u + late u) (v + late v) (w + late w) (range_12 u f v g f_small b)
    (λ long. let at = long_12 v g w h g_small c long in before_long_12 u f v g f_small b at.0 at.1)
    (λ short. absurd (omega (arith, short, range_12 t d u f small a)))

pub length_12_12_13 : (t d u f v g w h : ℕ) → d < 25920 → NextMoon 12 t d u f → NextMoon 12 u f v g → NextMoon 13 v g w h → (u + late u + delay (t + late t) (u + late u) (v + late v) + 353 ≤ v + late v + delay (u + late u) (v + late v) (w + late w)) × (v + late v + delay (u + late u) (v + late v) (w + late w) ≤ u + late u + delay (t + late t) (u + late u) (v + late v) + 355)
length_12_12_13 t d u f v g w h small a b c =
    let f_small = part-small 12 t d u f a in
    let g_small = part-small 12 u f v g b in
    common (t + late t) (u + late u) (v + late v) (w + late w) (range_12 u f v g f_small b)
    (λ long. absurd (omega (arith, long, range_13 v g w h g_small c)))
    (λ short. absurd (omega (arith, short, range_12 t d u f small a)))

pub length_12_13_12 : (t d u f v g w h : ℕ) → d < 25920 → NextMoon 12 t d u f → NextMoon 13 u f v g → NextMoon 12 v g w h → (u + late u + delay (t + late t) (u + late u) (v + late v) + 383 ≤ v + late v + delay (u + late u) (v + late v) (w + late w)) × (v + late v + delay (u + late u) (v + late v) (w + late w) ≤ u + late u + delay (t + late t) (u + late u) (v + late v) + 385)
length_12_13_12 t d u f v g w h small a b c =
    let f_small = part-small 12 t d u f a in
    let g_small = part-small 13 u f v g b in
    leap (t + late t) (u + late u) (v + late v) (w + late w) (range_13 u f v g f_small b)
    (λ long. let at = long_12 v g w h g_small c long in before_long_13 u f v g f_small b at.0 at.1)
    (λ short. absurd (omega (arith, short, range_12 t d u f small a)))

pub length_12_13_13 : (t d u f v g w h : ℕ) → d < 25920 → NextMoon 12 t d u f → NextMoon 13 u f v g → NextMoon 13 v g w h → (u + late u + delay (t + late t) (u + late u) (v + late v) + 383 ≤ v + late v + delay (u + late u) (v + late v) (w + late w)) × (v + late v + delay (u + late u) (v + late v) (w + late w) ≤ u + late u + delay (t + late t) (u + late u) (v + late v) + 385)
length_12_13_13 t d u f v g w h small a b c =
    let f_small = part-small 12 t d u f a in
    let g_small = part-small 13 u f v g b in
    leap (t + late t) (u + late u) (v + late v) (w + late w) (range_13 u f v g f_small b)
    (λ long. absurd (omega (arith, long, range_13 v g w h g_small c)))
    (λ short. absurd (omega (arith, short, range_12 t d u f small a)))

pub length_13_12_12 : (t d u f v g w h : ℕ) → d < 25920 → NextMoon 13 t d u f → NextMoon 12 u f v g → NextMoon 12 v g w h → (u + late u + delay (t + late t) (u + late u) (v + late v) + 353 ≤ v + late v + delay (u + late u) (v + late v) (w + late w)) × (v + late v + delay (u + late u) (v + late v) (w + late w) ≤ u + late u + delay (t + late t) (u + late u) (v + late v) + 355)
length_13_12_12 t d u f v g w h small a b c =
    let f_small = part-small 13 t d u f a in
    let g_small = part-small 12 u f v g b in
    common (t + late t) (u + late u) (v + late v) (w + late w) (range_12 u f v g f_small b)
    (λ long. let at = long_12 v g w h g_small c long in before_long_12 u f v g f_small b at.0 at.1)
    (λ short. let at = short_13 t d u f small a short in after_short_12 u f v g f_small b at.0 at.1)

pub length_13_12_13 : (t d u f v g w h : ℕ) → d < 25920 → NextMoon 13 t d u f → NextMoon 12 u f v g → NextMoon 13 v g w h → (u + late u + delay (t + late t) (u + late u) (v + late v) + 353 ≤ v + late v + delay (u + late u) (v + late v) (w + late w)) × (v + late v + delay (u + late u) (v + late v) (w + late w) ≤ u + late u + delay (t + late t) (u + late u) (v + late v) + 355)
length_13_12_13 t d u f v g w h small a b c =
    let f_small = part-small 13 t d u f a in
    let g_small = part-small 12 u f v g b in
    common (t + late t) (u + late u) (v + late v) (w + late w) (range_12 u f v g f_small b)
    (λ long. absurd (omega (arith, long, range_13 v g w h g_small c)))
    (λ short. let at = short_13 t d u f small a short in after_short_12 u f v g f_small b at.0 at.1)

pub length_13_13_12 : (t d u f v g w h : ℕ) → d < 25920 → NextMoon 13 t d u f → NextMoon 13 u f v g → NextMoon 12 v g w h → (u + late u + delay (t + late t) (u + late u) (v + late v) + 383 ≤ v + late v + delay (u + late u) (v + late v) (w + late w)) × (v + late v + delay (u + late u) (v + late v) (w + late w) ≤ u + late u + delay (t + late t) (u + late u) (v + late v) + 385)
length_13_13_12 t d u f v g w h small a b c =
    let f_small = part-small 13 t d u f a in
    let g_small = part-small 13 u f v g b in
    leap (t + late t) (u + late u) (v + late v) (w + late w) (range_13 u f v g f_small b)
    (λ long. let at = long_12 v g w h g_small c long in before_long_13 u f v g f_small b at.0 at.1)
    (λ short. let at = short_13 t d u f small a short in after_short_13 u f v g f_small b at.0 at.1)

pub length_13_13_13 : (t d u f v g w h : ℕ) → d < 25920 → NextMoon 13 t d u f → NextMoon 13 u f v g → NextMoon 13 v g w h → (u + late u + delay (t + late t) (u + late u) (v + late v) + 383 ≤ v + late v + delay (u + late u) (v + late v) (w + late w)) × (v + late v + delay (u + late u) (v + late v) (w + late w) ≤ u + late u + delay (t + late t) (u + late u) (v + late v) + 385)
length_13_13_13 t d u f v g w h small a b c =
    let f_small = part-small 13 t d u f a in
    let g_small = part-small 13 u f v g b in
    leap (t + late t) (u + late u) (v + late v) (w + late w) (range_13 u f v g f_small b)
    (λ long. absurd (omega (arith, long, range_13 v g w h g_small c)))
    (λ short. let at = short_13 t d u f small a short in after_short_13 u f v g f_small b at.0 at.1)

-- the months before year y: each year has 12 or 13
pub months_more : (y : ℤ) → (floor_div (pos 235 *ℤ (y +ℤ pos 1) -ℤ pos 234) 19 ≡ floor_div (pos 235 *ℤ y -ℤ pos 234) 19 +ℤ pos 12 +ℤ pos (cond (nat_lt (floor_mod (pos 7 *ℤ y +ℤ pos 1) 19) 7) 1 0))
months_more y = grind (arith, signed, nat_tests, floor_parts (pos 235 *ℤ (y +ℤ pos 1) -ℤ pos 234) 19, floor_parts (pos 235 *ℤ y -ℤ pos 234) 19, floor_parts (pos 7 *ℤ y +ℤ pos 1) 19)

pub same_test : (a b : Bool) → (a ≡ true → b ≡ true) → (b ≡ true → a ≡ true) → a ≡ b
same_test true b f g = sym (f refl)
same_test false true f g = g refl
same_test false false f g = refl

-- being put off by a day is told by the weekday
late-shunned : (u : ℕ) → late u ≡ (if is_shunned (u % 7) then 1 else 0)
late-shunned u = grind (arith, nat_tests)

-- whether a common year would have 356 days is told by its new moon
long-tests_12 : (u f v g r : ℕ) → f < 25920 → r < 12 → NextMoon 12 u f v g → nat_eq (v + late v) (u + late u + 356) ≡ has_356_days (u % 7) f r
long-tests_12 u f v g r small low next =
    same_test (nat_eq (v + late v) (u + late u + 356)) (has_356_days (u % 7) f r)
    (λ e.
    let at = long_12 u f v g small next (eqb-true (v + late v) (u + late u + 356) e) in
    and_from (nat_eq (u % 7) 2) (nat_le 16404 f && nat_lt r 12) (eq-eqb (u % 7) 2 at.0)
    (and_from (nat_le 16404 f) (nat_lt r 12) (le-leb 16404 f at.1) (lt-ltb r 12 low)))
    (λ e.
    let parts = and_parts (nat_eq (u % 7) 2) (nat_le 16404 f && nat_lt r 12) e in
    let late_in_day = (and_parts (nat_le 16404 f) (nat_lt r 12) parts.1).0 in
    eq-eqb (v + late v) (u + late u + 356)
    (longer_12 u f v g small next (eqb-true (u % 7) 2 parts.0) (leb-true 16404 f late_in_day)))

-- a leap year wouldn't
long-tests_13 : (u f v g r : ℕ) → f < 25920 → 12 ≤ r → NextMoon 13 u f v g → nat_eq (v + late v) (u + late u + 356) ≡ has_356_days (u % 7) f r
long-tests_13 u f v g r small high next =
    same_test (nat_eq (v + late v) (u + late u + 356)) (has_356_days (u % 7) f r)
    (λ e. let long = eqb-true (v + late v) (u + late u + 356) e in absurd (omega (arith, long, range_13 u f v g small next)))
    (λ e.
    let parts = and_parts (nat_eq (u % 7) 2) (nat_le 16404 f && nat_lt r 12) e in
    let low = ltb-true r 12 (and_parts (nat_le 16404 f) (nat_lt r 12) parts.1).1 in absurd (omega (arith, low, high)))

-- and so for the year before a new moon, and 382 days
short-tests_13 : (t d u f r : ℕ) → d < 25920 → r < 7 → NextMoon 13 t d u f → nat_eq (u + late u) (t + late t + 382) ≡ follows_382_days (u % 7) f r
short-tests_13 t d u f r small low next =
    same_test (nat_eq (u + late u) (t + late t + 382)) (follows_382_days (u % 7) f r)
    (λ e.
    let at = short_13 t d u f small next (eqb-true (u + late u) (t + late t + 382) e) in
    and_from (nat_eq (u % 7) 1) (nat_le 23269 f && nat_lt r 7) (eq-eqb (u % 7) 1 at.0)
    (and_from (nat_le 23269 f) (nat_lt r 7) (le-leb 23269 f at.1) (lt-ltb r 7 low)))
    (λ e.
    let parts = and_parts (nat_eq (u % 7) 1) (nat_le 23269 f && nat_lt r 7) e in
    let late_in_day = (and_parts (nat_le 23269 f) (nat_lt r 7) parts.1).0 in
    eq-eqb (u + late u) (t + late t + 382)
    (shorter_13 t d u f small next (eqb-true (u % 7) 1 parts.0) (leb-true 23269 f late_in_day)))

short-tests_12 : (t d u f r : ℕ) → d < 25920 → 7 ≤ r → NextMoon 12 t d u f → nat_eq (u + late u) (t + late t + 382) ≡ follows_382_days (u % 7) f r
short-tests_12 t d u f r small high next =
    same_test (nat_eq (u + late u) (t + late t + 382)) (follows_382_days (u % 7) f r)
    (λ e. let short = eqb-true (u + late u) (t + late t + 382) e in absurd (omega (arith, short, range_12 t d u f small next)))
    (λ e.
    let parts = and_parts (nat_eq (u % 7) 1) (nat_le 23269 f && nat_lt r 7) e in
    let low = ltb-true r 7 (and_parts (nat_le 23269 f) (nat_lt r 7) parts.1).1 in absurd (omega (arith, low, high)))

abbrev delayed : Bool → Bool → ℕ
delayed long short = if long then 2 else (if short then 1 else 0)

shunned_or : (w f r : ℕ) → (if is_shunned w then 1 else 0) + delayed (has_356_days w f r) (follows_382_days w f r) ≡ postponement w f r
shunned_or w f r = grind (arith, nat_tests)

postponed : (u f r a b c : ℕ) → nat_eq c (b + 356) ≡ has_356_days (u % 7) f r → nat_eq b (a + 382) ≡ follows_382_days (u % 7) f r → late u + delay a b c ≡ postponement (u % 7) f r
postponed u f r a b c long short =
    ap (λ p. late u + delayed p (nat_eq b (a + 382))) long
    ∙ (ap (λ q. late u + delayed (has_356_days (u % 7) f r) q) short
    ∙ (ap (λ l. l + delayed (has_356_days (u % 7) f r) (follows_382_days (u % 7) f r)) (late-shunned u)
    ∙ shunned_or (u % 7) f r))

-- how far a year is put off by its length and that of the year before, where neither is a leap year
pub put_off_12_12 : (t d u f v g r : ℕ) → d < 25920 → 7 ≤ r → r < 12 → NextMoon 12 t d u f → NextMoon 12 u f v g → late u + delay (t + late t) (u + late u) (v + late v) ≡ postponement (u % 7) f r
put_off_12_12 t d u f v g r small low high a b =
    postponed u f r (t + late t) (u + late u) (v + late v) (long-tests_12 u f v g r (part-small 12 t d u f a) high b)
    (short-tests_12 t d u f r small low a)

-- the same after a leap year
pub put_off_13_12 : (t d u f v g r : ℕ) → d < 25920 → r < 7 → NextMoon 13 t d u f → NextMoon 12 u f v g → late u + delay (t + late t) (u + late u) (v + late v) ≡ postponement (u % 7) f r
put_off_13_12 t d u f v g r small low a b =
    postponed u f r (t + late t) (u + late u) (v + late v) (long-tests_12 u f v g r (part-small 13 t d u f a) (omega (arith, low)) b)
    (short-tests_13 t d u f r small low a)

-- and of a leap year
pub put_off_12_13 : (t d u f v g r : ℕ) → d < 25920 → 12 ≤ r → NextMoon 12 t d u f → NextMoon 13 u f v g → late u + delay (t + late t) (u + late u) (v + late v) ≡ postponement (u % 7) f r
put_off_12_13 t d u f v g r small high a b =
    postponed u f r (t + late t) (u + late u) (v + late v) (long-tests_13 u f v g r (part-small 12 t d u f a) high b)
    (short-tests_12 t d u f r small (omega (arith, high)) a)
