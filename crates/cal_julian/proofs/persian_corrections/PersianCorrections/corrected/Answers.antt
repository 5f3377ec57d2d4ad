use Rattle.std.proofs.Common.{◌≡◌, ℕ, ◌<◌, Bool, true, false, if◌then◌else◌, List, sym, ap, ◌∙◌, arith, ℤ, pos, neg_ℤ, ◌+ℤ◌, ◌-ℤ◌, ◌<ℤ◌, to_z, of_z, w32}
use Rattle.cal_days.specs.Day.{IsBetween}
use Rattle.cal_days.specs.Persian.{persian_start, persian_year_length}
use Rattle.cal_days.proofs.Signed.{signed, by_bool, by_lt}
use Rattle.cal_days.proofs.PersianLemmas.{persian_start-next, persian_year_length-parts}
use Rattle.cal_julian.specs.PersianRule.{AreCorrectable, is_corrected, persian_new_year}
use Rattle.cal_julian.specs.laws.PersianRuleLaws.{corrected-apart, corrected-leap, persian_new_year-after, persian_new_year-near}
use Rattle.cal_julian.proofs.persian_corrections.PersianCorrections.corrected.Goals as goal
use Rattle.cal_julian.proofs.persian_corrections.PersianCorrections.corrected.Goals.{else-day-eq365-via-then-day-eq365+else-contains, else-day-eq365-via-else-day-eq365}

differ : ◌≡◌ {A = Bool} false true → ⊥
differ e = cc

module _ (years : List ℤ) (known : AreCorrectable years) (y : ℤ) where
  -- the year after a corrected one starts a day early, and the year after another one on time
  after : (b : Bool) → is_corrected years y ≡ b → persian_new_year years (y +ℤ pos 1) ≡ (if b then persian_start (y +ℤ pos 1) -ℤ pos 1 else persian_start (y +ℤ pos 1))
  after b h = persian_new_year-after years y ∙ ap (λ (x : Bool). if x then persian_start (y +ℤ pos 1) -ℤ pos 1 else persian_start (y +ℤ pos 1)) h

  corrected_length : is_corrected years y ≡ true → persian_year_length y ≡ 366
  corrected_length h = ap (λ (b : Bool). if b then 366 else 365) (corrected-leap years known y h)

  -- a day that isn't the last of a corrected year lies before the next year
  before_next : (p : ℕ) → p < persian_year_length y → (is_corrected years y ≡ true → p ≡ 365 → ⊥) → (persian_start y +ℤ pos p) <ℤ persian_new_year years (y +ℤ pos 1)
  before_next p within other =
      by_bool (is_corrected years y)
      (λ on.
      let early : p < 365 = by_lt p 365 (λ lt. lt) (λ ge. absurd (other on (omega (arith, ge, within, corrected_length on)))) in
      omega (arith, signed, early, after true on, persian_start-next y, corrected_length on))
      (λ off. omega (arith, signed, within, after false off, persian_start-next y))

  -- which that day, where it is the last, begins
  last_day : (p : ℕ) → p ≡ 365 → is_corrected years y ≡ true → persian_new_year years (y +ℤ pos 1) ≡ persian_start y +ℤ pos p
  last_day p last on = omega (arith, signed, last, after true on, persian_start-next y, corrected_length on)

  last_day-within : (p : ℕ) → p ≡ 365 → (persian_start y +ℤ pos p) <ℤ persian_new_year years (y +ℤ pos 1 +ℤ pos 1)
  last_day-within p last =
      omega (arith, signed, last, persian_new_year-near years (y +ℤ pos 1 +ℤ pos 1), persian_start-next y, persian_start-next (y +ℤ pos 1), persian_year_length-parts y, persian_year_length-parts (y +ℤ pos 1))

-- the numbers of the year, and of those beside it, as they are computed
module _ (y : ℤ) (range : IsBetween (neg_ℤ (pos 1000621)) (pos 999378) y) where
  this_year : to_z w32 (of_z w32 y) ≡ y
  this_year = omega (arith, signed, range)

  year_before : to_z w32 (of_z w32 (to_z w32 (of_z w32 y) -ℤ pos 1)) ≡ y -ℤ pos 1
  year_before = omega (arith, signed, range)

  next_year : to_z w32 (of_z w32 (to_z w32 (of_z w32 y) +ℤ pos 1)) ≡ y +ℤ pos 1
  next_year = omega (arith, signed, range)

pub returns-then-starts_early-clause-within : goal.returns-then-starts_early-clause-within
returns-then-starts_early-clause-within c =
    let years = c.args.self.now.years.now in let known = c.args.self.now.known in
    let y = c.args.year in
    let before : is_corrected years (y -ℤ pos 1) ≡ true = sym (ap (is_corrected years) (year_before y c.requires.year)) ∙ (sym c.contains-starts_early.ensures ∙ c.if-starts_early.true) in
    rw (this_year y c.requires.year) (before_next years known y c.args.day c.requires.day (λ on last. corrected-apart years known y before on))

pub returns-then-contains-clause-day : goal.returns-then-contains-clause-day
returns-then-contains-clause-day c =
    let years = c.args.self.now.years.now in let known = c.args.self.now.known in
    let y = c.args.year in
    let here : is_corrected years y ≡ true = sym (ap (is_corrected years) (this_year y c.requires.year)) ∙ (sym c.contains.ensures ∙ c.if-contains.true) in
    rw (next_year y c.requires.year) (omega (arith, signed, last_day years known y c.args.day c.if-day-eq365.true here))

pub returns-then-contains-clause-within : goal.returns-then-contains-clause-within
returns-then-contains-clause-within c =
    let years = c.args.self.now.years.now in let known = c.args.self.now.known in
    let y = c.args.year in
    rw (next_year y c.requires.year) (last_day-within years known y c.args.day c.if-day-eq365.true)

pub returns-else-day-eq365-clause-within : goal.returns-else-day-eq365-clause-within
returns-else-day-eq365-clause-within c =
    let years = c.args.self.now.years.now in let known = c.args.self.now.known in
    let y = c.args.year in
    rw (this_year y c.requires.year)
    (before_next years known y c.args.day c.requires.day (λ on last.
    elim c.else-day-eq365.branch [
      | else-day-eq365-via-then-day-eq365+else-contains w ↦ differ (sym w.if-contains.false ∙ (w.contains.ensures ∙ (ap (is_corrected years) (this_year y c.requires.year) ∙ on)))
      | else-day-eq365-via-else-day-eq365 w ↦ w.if-day-eq365.false last
    ]))
