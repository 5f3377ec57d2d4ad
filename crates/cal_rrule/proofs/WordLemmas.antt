-- Words that days and years pass through, and sums of days, months and years over plain numbers.
use Rattle.std.proofs.Common.{◌≡◌, ◌↔◌, IsTrue, Bool, true, false, FitsSigned, ℕ, ◌+◌, ◌-◌, ◌*◌, ◌<◌, ◌≤◌, ℤ, pos, neg_ℤ, ◌+ℤ◌, ◌-ℤ◌, ◌≤ℤ◌, ◌<ℤ◌, int_le, int_lt, sym, subst, ◌∙◌, to_z, of_z, w32, w64, arith}
use mathlib.Core.Bool.{true≢false}
use Rattle.cal_days.specs.Day.{IsBetween, IsFieldYear, IsHeld, IsValidDay, is_valid_day}
use Rattle.cal_days.specs.Sums.{years_up}
use Rattle.cal_days.proofs.RangeLemmas.{is_between-true}
use Rattle.cal_days.proofs.Signed.{by_bool, signed, signed_casts}

-- ---- words

-- a day and a year come out as they were
pub valid-word : (d : ℤ) → IsValidDay d → to_z w64 (of_z w64 d) ≡ d
valid-word d h = omega (arith, signed, h.0, h.1)

pub held-word : (n d : ℤ) → n ≡ d → IsValidDay d → to_z w64 (of_z w64 n) ≡ d
held-word n d e h = omega (arith, signed, e, h.0, h.1)

pub near-word : (n : ℤ) → IsBetween (neg_ℤ (pos 1000000000)) (pos 1000000000) n → to_z w64 (of_z w64 n) ≡ n
near-word n h = omega (arith, signed, h.0, h.1)

pub week-word : (n : ℤ) → IsBetween (neg_ℤ (pos 1000000100)) (pos 1000000100) n → to_z w64 (of_z w64 n) ≡ n
week-word n h = omega (arith, signed, h.0, h.1)

pub field-word : (y : ℤ) → IsFieldYear y → to_z w32 (of_z w32 y) ≡ y
field-word y h = omega (arith, signed, h.0, h.1)

pub number-word : (n y : ℤ) → n ≡ y → IsFieldYear y → to_z w32 (of_z w32 (to_z w64 (of_z w64 n))) ≡ y
number-word n y e h = omega (arith, signed, e, h.0, h.1)

-- the day behind some days
pub end-word : (e first : ℤ) (days : ℕ) → e ≡ first +ℤ pos days → IsBetween (neg_ℤ (pos 1000000000)) (pos 1000000000) first →
    days ≤ 403 → to_z w64 (of_z w64 e) ≡ first +ℤ pos days
end-word e first days is near short = omega (arith, signed, is, near.0, near.1, short)

pub month-short : (days : ℕ) → days ≤ 31 → days ≤ 403
month-short days short = omega (arith, short)

-- the year after a year, and the one before it
pub next-word : (y : ℤ) → IsFieldYear y → to_z w32 (of_z w32 (to_z w32 (of_z w32 y) +ℤ pos 1)) ≡ y +ℤ pos 1
next-word y h = omega (arith, signed, h.0, h.1)

pub last-word : (y : ℤ) → IsFieldYear y → to_z w32 (of_z w32 (to_z w32 (of_z w32 y) -ℤ pos 1)) ≡ y -ℤ pos 1
last-word y h = omega (arith, signed, h.0, h.1)

-- the ends of a span
pub span-from : (from to : ℤ) → neg_ℤ (pos 365252000) ≤ℤ from → from ≤ℤ to → to ≤ℤ pos 365252000 → to_z w64 (of_z w64 from) ≡ from
span-from from to low order high = omega (arith, signed, low, order, high)

pub span-to : (from to : ℤ) → neg_ℤ (pos 365252000) ≤ℤ from → from ≤ℤ to → to ≤ℤ pos 365252000 → to_z w64 (of_z w64 to) ≡ to
span-to from to low order high = omega (arith, signed, low, order, high)

-- ---- tests

pub le-holds : (a b : ℤ) → int_le a b ≡ true → a ≤ℤ b
le-holds a b e = omega (arith, signed, e)

pub le-fails : (a b : ℤ) → int_le a b ≡ false → b <ℤ a
le-fails a b e = omega (arith, signed, e)

pub lt-holds : (a b : ℤ) → int_lt a b ≡ true → a <ℤ b
lt-holds a b e = omega (arith, signed, e)

pub lt-fails : (a b : ℤ) → int_lt a b ≡ false → b ≤ℤ a
lt-fails a b e = omega (arith, signed, e)

-- a test of an order that fails
pub not-less : (a b : ℤ) (test : Bool) → IsTrue test ↔ (a <ℤ b) → test ≡ false → b ≤ℤ a
not-less a b test same fails = by_bool (int_lt a b)
    (λ e. absurd (true≢false (sym (same.1 (omega (arith, signed, e))) ∙ fails)))
    (λ e. omega (arith, signed, e))

-- ---- years ahead

-- so many years from one that fields can name to the one after another
pub next-own : (r look high : ℤ) → r ≡ high +ℤ pos 1 -ℤ look → IsFieldYear look → IsFieldYear high → to_z w64 (of_z w64 r) ≡ r
next-own r look high is a b = omega (arith, signed, is, a, b)

pub next-more : (z r look high : ℤ) (years : ℕ) → z ≡ r → r ≡ high +ℤ pos 1 -ℤ look → z <ℤ pos years →
    (high +ℤ pos 1) <ℤ (look +ℤ pos years)
next-more z r look high years same is more = omega (arith, signed, same, is, more)

pub next-least : (z r look high : ℤ) (years : ℕ) → z ≡ r → r ≡ high +ℤ pos 1 -ℤ look → pos years ≤ℤ z →
    (look +ℤ pos years) ≤ℤ (high +ℤ pos 1)
next-least z r look high years same is most = omega (arith, signed, same, is, most)

pub next-most : (z r look high : ℤ) (years : ℕ) → z ≡ r → r ≡ high +ℤ pos 1 -ℤ look → pos years ≤ℤ z →
    (high +ℤ pos 1) ≤ℤ (look +ℤ pos years) → look +ℤ pos years ≡ high +ℤ pos 1
next-most z r look high years same is most least = omega (arith, signed, same, is, most, least)

pub few-years : (look high : ℤ) (years : ℕ) → IsFieldYear look → IsFieldYear high → (look +ℤ pos years) ≤ℤ (high +ℤ pos 1) → years ≤ 2080001
few-years look high years a b most = omega (arith, signed, a.0, b.1, most)

pub added-years : (look from : ℤ) (years : ℕ) → from ≡ to_z w32 (of_z w32 look) → IsFieldYear look → years ≤ 2080001 →
    to_z w64 (of_z w64 (to_z w64 (of_z w64 from) +ℤ to_z w64 years)) ≡ look +ℤ pos years
added-years look from years is field few = by_same (field-word look field)
  where
    by_same : to_z w32 (of_z w32 look) ≡ look → to_z w64 (of_z w64 (to_z w64 (of_z w64 from) +ℤ to_z w64 years)) ≡ look +ℤ pos years
    by_same same = omega (arith, signed_casts, is, same, field.0, field.1, few)

-- a year that isn't up to another one is the next one, where it's at most that
module _ (look high n from : ℤ) (years : ℕ) (is : n ≡ look +ℤ pos years) (of : from ≡ to_z w32 (of_z w32 high))
    (low : IsFieldYear look) (field : IsFieldYear high) (most : (look +ℤ pos years) ≤ℤ (high +ℤ pos 1)) where
  high_is : from ≡ high
  high_is = of ∙ field-word high field

  pub next-year : int_lt (to_z w64 (of_z w64 from)) (to_z w64 (of_z w64 n)) ≡ true → look +ℤ pos years ≡ high +ℤ pos 1
  next-year test = by_same high_is
    where
      by_same : from ≡ high → look +ℤ pos years ≡ high +ℤ pos 1
      by_same same = omega (arith, signed, same, is, low.0, low.1, field.0, field.1, most, test)

  pub not-later : int_lt (to_z w64 (of_z w64 from)) (to_z w64 (of_z w64 n)) ≡ false → (look +ℤ pos years) ≤ℤ high
  not-later test = by_same high_is
    where
      by_same : from ≡ high → (look +ℤ pos years) ≤ℤ high
      by_same same = omega (arith, signed, same, is, low.0, low.1, field.0, field.1, most, test)

pub field-between : (look high : ℤ) (years : ℕ) → IsFieldYear look → IsFieldYear high → (look +ℤ pos years) ≤ℤ high → IsFieldYear (look +ℤ pos years)
field-between look high years a b most = (omega (arith, signed, a.0), omega (arith, signed, b.1, most))

pub own-order : (look high : ℤ) (years : ℕ) → (look +ℤ pos years) ≤ℤ high → look ≤ℤ high
own-order look high years most = omega (arith, signed, most)

pub later : (look : ℤ) (years : ℕ) → (years ≡ 0 → ⊥) → look <ℤ (look +ℤ pos years)
later look years some = omega (arith, signed, some)

pub none_later : (look : ℤ) (years : ℕ) → years ≡ 0 → look ≡ look +ℤ pos years
none_later look years zero = omega (arith, signed, zero)

-- ---- days near the valid days

pub from_to : {a b c : ℤ} → a ≤ℤ b → b ≤ℤ c → a ≤ℤ c
from_to p q = omega (arith, signed, p, q)

pub up_next : (a b c : ℤ) → a ≡ b → b ≤ℤ c → a ≤ℤ (c +ℤ pos 1)
up_next a b c e order = omega (arith, signed, e, order)

-- the first day of a year or month with a valid day
pub first-near : (first last : ℤ) (days : ℕ) → first ≤ℤ last → last <ℤ (first +ℤ pos days) → days ≤ 403 → IsValidDay last →
    IsBetween (neg_ℤ (pos 365252499)) (pos 365252134) first
first-near first last days low high short valid =
    (omega (arith, signed, high, short, valid.0), omega (arith, signed, low, valid.1))

-- the first day behind one
pub next-near : (first e last : ℤ) → first ≡ e → last <ℤ e → e ≤ℤ (last +ℤ pos 3) → IsValidDay last →
    IsBetween (neg_ℤ (pos 365243000)) (pos 365243000) first
next-near first e last is behind within valid =
    (omega (arith, signed, is, behind, valid.0), omega (arith, signed, is, within, valid.1))

-- ---- whether some days end behind a day
pub ends-left : (l last from : ℤ) (some : ℕ) → l ≡ last → IsValidDay last → from ≡ pos some → some ≤ 3 →
    to_z w64 (of_z w64 (to_z w64 (of_z w64 l) +ℤ to_z w64 (of_z w64 from))) ≡ last +ℤ pos some
ends-left l last from some is valid of few = omega (arith, signed, is, valid.0, valid.1, of, few)

-- ---- the week of a start, and the start's year

-- the week's fourth day beside the year's first day and the day behind it
module _ (first f e w day : ℤ) (days : ℕ) (near : IsBetween (neg_ℤ (pos 1000000000)) (pos 1000000000) first) (short : days ≤ 403)
    (fourth : f ≡ w +ℤ pos 3) (end : e ≡ first +ℤ pos days) (low : w ≤ℤ day) (high : day <ℤ (w +ℤ pos 7)) (valid : IsValidDay day) where
  fourth_word : to_z w64 (of_z w64 f) ≡ w +ℤ pos 3
  fourth_word = omega (arith, signed, fourth, low, high, valid.0, valid.1)

  pub fourth-far : int_le (to_z w64 (of_z w64 e)) (to_z w64 (of_z w64 f)) ≡ true → (first +ℤ pos days) ≤ℤ (w +ℤ pos 3)
  fourth-far test = le-holds _ _ (rw (end-word e first days end near short, fourth_word) at test)

  pub fourth-within : int_le (to_z w64 (of_z w64 e)) (to_z w64 (of_z w64 f)) ≡ false → (w +ℤ pos 3) <ℤ (first +ℤ pos days)
  fourth-within test = le-fails _ _ (rw (end-word e first days end near short, fourth_word) at test)

  pub fourth-from : int_le (to_z w64 (of_z w64 first)) (to_z w64 (of_z w64 f)) ≡ true → first ≤ℤ (w +ℤ pos 3)
  fourth-from test = le-holds _ _ (rw (near-word first near, fourth_word) at test)

  pub fourth-early : int_le (to_z w64 (of_z w64 first)) (to_z w64 (of_z w64 f)) ≡ false → (w +ℤ pos 3) <ℤ first
  fourth-early test = le-fails _ _ (rw (near-word first near, fourth_word) at test)

-- the years of periods, by the start's year
pub behind-same : (own y : ℤ) (n : ℕ) → y ≡ own +ℤ pos 1 → own +ℤ pos (n + 1) ≡ y +ℤ pos n
behind-same own y n same = omega (arith, signed, same)

pub before-same : (own y : ℤ) (n : ℕ) → y ≡ own -ℤ pos 1 → (n ≡ 0 → ⊥) → own +ℤ pos (n - 1) ≡ y +ℤ pos n
before-same own y n same some = omega (arith, signed, same, some)

pub before-none : (own y z : ℤ) (n : ℕ) → y ≡ own -ℤ pos 1 → z ≡ own -ℤ pos 1 → n ≡ 0 → z ≡ y +ℤ pos n
before-none own y z n same is zero = omega (arith, signed, same, is, zero)

-- the year before the start's, where the week belongs to that one
pub before-near : (first own w day : ℤ) (days : ℕ) → first +ℤ pos days ≡ own → days ≤ 403 → own ≤ℤ day → (w +ℤ pos 3) <ℤ own →
    day <ℤ (w +ℤ pos 7) → IsValidDay day → IsBetween (neg_ℤ (pos 365243000)) (pos 365243000) first
before-near first own w day days joins short low early high valid =
    (omega (arith, signed, joins, short, early, high, valid.0), omega (arith, signed, joins, low, valid.1))

-- ---- the weeks of a year

pub weeks-fit : (count : ℕ) → count ≤ 58 → 7 * count ≤ 448
weeks-fit count few = omega (arith, few)

pub weeks-low : (start year first : ℤ) → (year -ℤ pos 3) ≤ℤ first → year ≡ start → (start -ℤ pos 3) ≤ℤ first
weeks-low start year first low is = omega (arith, signed, low, is)

-- a day among some weeks is one of a row of bits that begins there
pub weeks-row : (n first row : ℤ) (count : ℕ) → n <ℤ (first +ℤ pos (7 * count)) → row ≡ first → count ≤ 58 → n <ℤ (row +ℤ pos 448)
weeks-row n first row count below is few = omega (arith, signed, below, is, few)

-- the same of a span
pub span-row : (n first from to : ℤ) → n <ℤ to → first ≡ from → to ≤ℤ (from +ℤ pos 448) → n <ℤ (first +ℤ pos 448)
span-row n first from to below is few = omega (arith, signed, below, is, few)

-- a year that begins near the valid days
pub nearer : (n : ℤ) → IsBetween (neg_ℤ (pos 365243000)) (pos 365243000) n → IsBetween (neg_ℤ (pos 365248000)) (pos 365248000) n
nearer n h = (omega (arith, signed, h.0), omega (arith, signed, h.1))

pub week-near : (w day : ℤ) → w ≤ℤ day → day <ℤ (w +ℤ pos 7) → IsValidDay day → IsBetween (neg_ℤ (pos 365253000)) (pos 365253000) (w +ℤ pos 3)
week-near w day low high valid = (omega (arith, signed, high, valid.0), omega (arith, signed, low, valid.1))

pub field-most : (y : ℤ) → IsFieldYear y → y ≤ℤ pos 1040001
field-most y h = omega (arith, signed, h.1)

-- ---- months

pub some-of : (n : ℕ) → (n ≡ 0 → ⊥) → 0 < n
some-of n some = omega (arith, some)

pub one-less : (n : ℕ) → (n ≡ 0 → ⊥) → n ≡ (n - 1) + 1
one-less n some = omega (arith, some)

-- the first day of a month with a valid day
pub month-near : (first day : ℤ) (days : ℕ) → first ≤ℤ day → day <ℤ (first +ℤ pos days) → days ≤ 31 → IsValidDay day →
    IsBetween (neg_ℤ (pos 365242600)) (pos 365242134) first
month-near first day days low high short valid = (omega (arith, signed, high, short, valid.0), omega (arith, signed, low, valid.1))

pub month-nearer : (n : ℤ) → IsBetween (neg_ℤ (pos 365242600)) (pos 365242134) n → IsBetween (neg_ℤ (pos 365252499)) (pos 365252134) n
month-nearer n h = (omega (arith, signed, h.0), omega (arith, signed, h.1))

pub next-month-near : (first before : ℤ) (days : ℕ) → first ≡ before +ℤ pos days → days ≤ 31 →
    IsBetween (neg_ℤ (pos 365242600)) (pos 365242134) before → IsBetween (neg_ℤ (pos 365252499)) (pos 365252134) first
next-month-near first before days joins short h = (omega (arith, signed, joins, h.0), omega (arith, signed, joins, short, h.1))

-- ---- days and years beside the valid days

-- the last day before some days
pub before-word : (first : ℤ) → IsBetween (neg_ℤ (pos 1000000000)) (pos 1000000000) first →
    to_z w64 (of_z w64 (to_z w64 (of_z w64 first) -ℤ pos 1)) ≡ first -ℤ pos 1
before-word first near = omega (arith, signed, near.0, near.1)

pub shift-fits : (y : ℤ) → IsFieldYear y → FitsSigned w32 (to_z w32 (of_z w32 y) +ℤ pos 1)
shift-fits y h = omega (arith, signed, h.0, h.1)

pub back-fits : (y : ℤ) → IsFieldYear y → FitsSigned w32 (to_z w32 (of_z w32 y) -ℤ pos 1)
back-fits y h = omega (arith, signed, h.0, h.1)

-- a first day that lies some days behind a day near the valid days, or before it
pub behind-near : (e first : ℤ) (days : ℕ) → e ≡ first +ℤ pos days → days ≤ 403 → IsBetween (neg_ℤ (pos 365252499)) (pos 365252134) first →
    IsBetween (neg_ℤ (pos 1000000000)) (pos 1000000000) (to_z w64 (of_z w64 e))
behind-near e first days is short h =
    (omega (arith, signed, is, short, h.0, h.1), omega (arith, signed, is, short, h.0, h.1))

-- the first day of the year before one, or of the month
pub back-word : (first from : ℤ) (days : ℕ) → from ≡ pos days → days ≤ 403 → IsBetween (neg_ℤ (pos 365252499)) (pos 365252134) first →
    to_z w64 (of_z w64 (to_z w64 (of_z w64 first) -ℤ to_z w64 (of_z w64 from))) ≡ first -ℤ pos days
back-word first from days is short h = omega (arith, signed, is, short, h.0, h.1)

pub back-near : (first from : ℤ) (days : ℕ) → from ≡ pos days → days ≤ 403 → IsBetween (neg_ℤ (pos 365252499)) (pos 365252134) first →
    IsBetween (neg_ℤ (pos 1000000000)) (pos 1000000000) (to_z w64 (of_z w64 (to_z w64 (of_z w64 first) -ℤ to_z w64 (of_z w64 from))))
back-near first from days is short h =
    (omega (arith, signed, is, short, h.0, h.1), omega (arith, signed, is, short, h.0, h.1))

-- the first day of a year before another one's
pub before-starts : (first start : ℤ) (days length : ℕ) → first ≡ start +ℤ pos length → days ≡ length → first -ℤ pos days ≡ start
before-starts first start days length joins is = omega (arith, signed, joins, is)

pub less-one : (i : ℕ) → 1 < i → i ≡ (i - 1) + 1
less-one i more = omega (arith, more)

pub last-back : (y : ℤ) → IsFieldYear y → y ≡ to_z w32 (of_z w32 (to_z w32 (of_z w32 y) -ℤ pos 1)) +ℤ pos 1
last-back y h = omega (arith, signed, h.0, h.1)

-- ---- months and years in a row

-- the first day of the month or year of a span's first day
pub walk-low : (first from : ℤ) (days : ℕ) → from <ℤ (first +ℤ pos days) → days ≤ 403 → neg_ℤ (pos 365252000) ≤ℤ from →
    neg_ℤ (pos 365252499) ≤ℤ first
walk-low first from days high short low = omega (arith, signed, high, short, low)

-- and of the next one
pub walk-on : (low first next : ℤ) (days : ℕ) → low ≤ℤ first → next ≡ first +ℤ pos days → low ≤ℤ next
walk-on low first next days from joins = omega (arith, signed, from, joins)

pub same-least : (a b c : ℤ) → a ≡ c → b ≡ c → a ≤ℤ b
same-least a b c e f = omega (arith, signed, e, f)

-- a month's first day beside the end of a year
module _ (look first e start : ℤ) (days length : ℕ) (near : IsBetween (neg_ℤ (pos 1000000000)) (pos 1000000000) look)
    (in_range : IsBetween (neg_ℤ (pos 1000000000)) (pos 1000000000) first) (short : days ≤ 403) (end : e ≡ first +ℤ pos days)
    (is_start : first ≡ start) (is_whole : days ≡ length) where
  whole : first +ℤ pos days ≡ start +ℤ pos length
  whole = omega (arith, signed, is_start, is_whole)

  pub begins-within : int_lt (to_z w64 (of_z w64 look)) (to_z w64 (of_z w64 e)) ≡ true → look <ℤ (start +ℤ pos length)
  begins-within test = lt-holds _ _ (rw (near-word look near, end-word e first days end in_range short ∙ whole) at test)

  pub begins-past : int_lt (to_z w64 (of_z w64 look)) (to_z w64 (of_z w64 e)) ≡ false → (start +ℤ pos length) ≤ℤ look
  begins-past test = lt-fails _ _ (rw (near-word look near, end-word e first days end in_range short ∙ whole) at test)

-- the day behind a month, and the row of bits from the day before it on
pub end-next-word : (e first : ℤ) (days : ℕ) → e ≡ first +ℤ pos days → IsBetween (neg_ℤ (pos 1000000000)) (pos 1000000000) first →
    days ≤ 403 → to_z w64 (of_z w64 (to_z w64 (of_z w64 e) +ℤ pos 1)) ≡ first +ℤ pos days +ℤ pos 1
end-next-word e first days is near short = omega (arith, signed, is, near.0, near.1, short)

pub month-row : (first : ℤ) (days : ℕ) → days ≤ 31 → (first +ℤ pos days +ℤ pos 1) ≤ℤ ((first -ℤ pos 1) +ℤ pos 448)
month-row first days short = omega (arith, signed, short)

pub month-small : (days : ℕ) → days ≤ 31 → days < 256
month-small days short = omega (arith, short)

pub row-backward : (f first n : ℤ) (days : ℕ) → f ≡ first -ℤ pos 1 → (first -ℤ pos 1) ≤ℤ n → n <ℤ (first +ℤ pos days) → days ≤ 31 →
    (f ≤ℤ n) × (n <ℤ (f +ℤ pos 448))
row-backward f first n days is low high short = (omega (arith, signed, is, low), omega (arith, signed, is, high, short))

pub row-forward : (f first n : ℤ) (days : ℕ) → f ≡ first -ℤ pos 1 → first ≤ℤ n → n <ℤ (first +ℤ pos days +ℤ pos 1) → days ≤ 31 →
    (f ≤ℤ n) × (n <ℤ (f +ℤ pos 448))
row-forward f first n days is low high short = (omega (arith, signed, is, low), omega (arith, signed, is, high, short))

-- a day of a week near the valid days, and the one 448 days behind it
pub from-word : (n : ℤ) → neg_ℤ (pos 365250000) ≤ℤ n → n ≤ℤ pos 365250000 → to_z w64 (of_z w64 n) ≡ n
from-word n low high = omega (arith, signed, low, high)

pub from-end-word : (n : ℤ) → neg_ℤ (pos 365250000) ≤ℤ n → n ≤ℤ pos 365250000 →
    to_z w64 (of_z w64 (to_z w64 (of_z w64 n) +ℤ pos 448)) ≡ n +ℤ pos 448
from-end-word n low high = omega (arith, signed, low, high)

-- ---- years as blocks

-- the bounds of the days that a year names
pub named-low : (from first start n : ℤ) → from ≡ first -ℤ pos 1 → first ≡ start → (start -ℤ pos 1) ≤ℤ n → from ≤ℤ n
named-low from first start n is begins low = omega (arith, signed, is, begins, low)

pub named-high : (to first start n : ℤ) (days length : ℕ) → to ≡ first +ℤ pos days +ℤ pos 32 → first ≡ start → days ≡ length →
    n <ℤ (start +ℤ pos length +ℤ pos 32) → n <ℤ to
named-high to first start n days length is begins whole high = omega (arith, signed, is, begins, whole, high)

-- a year ends where a valid day lies in it, or behind that
pub ends-low : (end day : ℤ) → day <ℤ end → neg_ℤ (pos 365242499) ≤ℤ day → neg_ℤ (pos 365242499) ≤ℤ end
ends-low end day high low = omega (arith, signed, high, low)

-- a year that was found, from the year of a valid day on and up to a last day
pub found-near : (first start own day last : ℤ) (days : ℕ) → own ≤ℤ start → first ≡ start → day <ℤ (own +ℤ pos days) → days ≤ 403 →
    IsValidDay day → first ≤ℤ (last +ℤ pos 1) → IsValidDay last → IsBetween (neg_ℤ (pos 365250000)) (pos 365250000) first
found-near first start own day last days order is high short valid low last_valid =
    (omega (arith, signed, order, is, high, short, valid.0), omega (arith, signed, low, last_valid.1))

pub found-most : (start first last : ℤ) → first ≡ start → first ≤ℤ (last +ℤ pos 1) → IsValidDay last → start ≤ℤ pos 365242135
found-most start first last is low valid = omega (arith, signed, is, low, valid.1)

pub year-order : (y z : ℤ) (n : ℕ) → z ≡ y +ℤ pos n → y ≤ℤ z
year-order y z n e = omega (arith, signed, e)

-- ---- the month of a day

pub day-few : (day length : ℕ) → day ≤ length → length ≤ 31 → day ≤ 403
day-few day length low high = omega (arith, low, high)

-- its first day, by the day of the month
pub first-word : (day from : ℤ) (n : ℕ) → from ≡ pos n → IsValidDay day → n ≤ 403 →
    to_z w64 (of_z w64 (to_z w64 (of_z w64 (to_z w64 (of_z w64 day) +ℤ pos 1)) -ℤ to_z w64 (of_z w64 from))) ≡ day +ℤ pos 1 -ℤ pos n
first-word day from n is valid few = omega (arith, signed, is, valid.0, valid.1, few)

pub never-same : (y z : ℤ) → z <ℤ y → y ≡ z → ⊥
never-same y z less same = omega (arith, signed, less, same)

-- ---- what passes through words and stays in its range

pub held-valid : (n d : ℤ) → n ≡ d → IsValidDay d → IsValidDay (to_z w64 (of_z w64 n))
held-valid n d e h = subst IsValidDay (sym (held-word n d e h)) h

pub field-back : (y : ℤ) → IsFieldYear y → IsFieldYear (to_z w32 (of_z w32 y))
field-back y h = subst IsFieldYear (sym (field-word y h)) h

-- a test of a valid day
pub valid-test : (test : Bool) (n : ℤ) → test ≡ is_valid_day n → test ≡ true → IsValidDay n
valid-test test n is holds = is_between-true (neg_ℤ (pos 365242499)) (pos 365242134) n (sym is ∙ holds)

pub first-fits : (day from : ℤ) (n : ℕ) → from ≡ pos n → IsValidDay day → n ≤ 403 →
    FitsSigned w64 (to_z w64 (of_z w64 (to_z w64 (of_z w64 day) +ℤ pos 1)) -ℤ to_z w64 (of_z w64 from))
first-fits day from n is valid few = omega (arith, signed, is, valid.0, valid.1, few)

pub first-kept : (day from : ℤ) (n : ℕ) → from ≡ pos n → IsValidDay day → n ≤ 403 →
    IsBetween (neg_ℤ (pos 1000000000)) (pos 1000000000) (to_z w64 (of_z w64 (to_z w64 (of_z w64 (to_z w64 (of_z w64 day) +ℤ pos 1)) -ℤ to_z w64 (of_z w64 from))))
first-kept day from n is valid few = between-day _ day n (first-word day from n is valid few) valid few
  where
    between-day : (z d : ℤ) (k : ℕ) → z ≡ d +ℤ pos 1 -ℤ pos k → IsValidDay d → k ≤ 403 → IsBetween (neg_ℤ (pos 1000000000)) (pos 1000000000) z
    between-day z d k e h small = (omega (arith, signed, e, h.0, small), omega (arith, signed, e, h.1))

-- the first day of a year, by the day of the year
pub year-day-few : (start : ℤ) (n before day length : ℕ) → start +ℤ pos n ≡ start +ℤ pos (before + (day - 1)) +ℤ pos 1 →
    1 ≤ day → before + day ≤ length → length ≤ 403 → n ≤ 403
year-day-few start n before day length is some within few = omega (arith, signed, is, some, within, few)

pub year-first : (start day at : ℤ) (n : ℕ) → start +ℤ pos n ≡ at +ℤ pos 1 → at ≡ day → day +ℤ pos 1 -ℤ pos n ≡ start
year-first start day at n is on = omega (arith, signed, is, on)

-- ---- the month or year before one

pub back-end : (w first : ℤ) (days : ℕ) → w ≡ first -ℤ pos days → w +ℤ pos days ≡ first
back-end w first days is = omega (arith, signed, is)

pub back-joins : (f w first : ℤ) (d days : ℕ) → f ≡ w → w ≡ first -ℤ pos days → d ≡ days → f +ℤ pos d ≡ first
back-joins f w first d days begins is length = omega (arith, signed, begins, is, length)

pub back-within : (w first : ℤ) (days : ℕ) → w ≡ first -ℤ pos days → days ≤ 403 → IsBetween (neg_ℤ (pos 365252499)) (pos 365252134) first →
    IsBetween (neg_ℤ (pos 400000000)) (pos 400000000) w
back-within w first days is short h = (omega (arith, signed, is, short, h.0), omega (arith, signed, is, h.1))

-- ---- years about a year that begins near the valid days

pub about-day : (n : ℤ) → IsBetween (neg_ℤ (pos 365248000)) (pos 365248000) n → IsBetween (neg_ℤ (pos 365252499)) (pos 365252134) n
about-day n h = (omega (arith, signed, h.0), omega (arith, signed, h.1))

pub about-own : (n : ℤ) → IsBetween (neg_ℤ (pos 365248000)) (pos 365248000) n → IsBetween (neg_ℤ (pos 365250000)) (pos 365250000) n
about-own n h = (omega (arith, signed, h.0), omega (arith, signed, h.1))

pub about-before : (first own : ℤ) (days : ℕ) → first +ℤ pos days ≡ own → days ≤ 403 →
    IsBetween (neg_ℤ (pos 365248000)) (pos 365248000) own → IsBetween (neg_ℤ (pos 365250000)) (pos 365250000) first
about-before first own days joins short h = (omega (arith, signed, joins, short, h.0), omega (arith, signed, joins, h.1))

pub about-behind : (first own : ℤ) (days : ℕ) → first ≡ own +ℤ pos days → days ≤ 403 →
    IsBetween (neg_ℤ (pos 365248000)) (pos 365248000) own → IsBetween (neg_ℤ (pos 365250000)) (pos 365250000) first
about-behind first own days joins short h = (omega (arith, signed, joins, h.0), omega (arith, signed, joins, short, h.1))

pub about-week : (first own : ℤ) → (own -ℤ pos 3) ≤ℤ first → first ≤ℤ (own +ℤ pos 3) →
    IsBetween (neg_ℤ (pos 365248000)) (pos 365248000) own → IsBetween (neg_ℤ (pos 365250000)) (pos 365250000) first
about-week first own low high h = (omega (arith, signed, low, h.0), omega (arith, signed, high, h.1))

-- ---- walks to a day beside the valid days

pub near-day-word : (n : ℤ) → IsBetween (neg_ℤ (pos 365252499)) (pos 365252134) n → to_z w64 (of_z w64 n) ≡ n
near-day-word n h = omega (arith, signed, h.0, h.1)

-- less is left
pub less-left : (end first next : ℤ) (days : ℕ) → first <ℤ end → next ≡ first +ℤ pos days → 1 ≤ days →
    years_up (end -ℤ next) < years_up (end -ℤ first)
less-left end first next days before joins some = omega (arith, signed, before, joins, some)

pub less-up : (end first next : ℤ) (days : ℕ) → next ≤ℤ end → next ≡ first +ℤ pos days → 1 ≤ days →
    years_up (end -ℤ next) < years_up (end -ℤ first)
less-up end first next days within joins some = omega (arith, signed, within, joins, some)

pub less-back : (day first next : ℤ) (days : ℕ) → day <ℤ first → next +ℤ pos days ≡ first → 1 ≤ days →
    years_up (next -ℤ day) < years_up (first -ℤ day)
less-back day first next days before joins some = omega (arith, signed, before, joins, some)

-- the walk behind the valid days begins with the last one's year or month
pub year-last-low : (first : ℤ) (days : ℕ) → pos 365242134 <ℤ (first +ℤ pos days) → days ≤ 403 → pos 365241000 ≤ℤ first
year-last-low first days high short = omega (arith, signed, high, short)

pub month-last-low : (first : ℤ) (days : ℕ) → pos 365242134 <ℤ (first +ℤ pos days) → days ≤ 31 → pos 365242000 ≤ℤ first
month-last-low first days high short = omega (arith, signed, high, short)

pub month-low : (first : ℤ) → pos 365242000 ≤ℤ first → pos 365241000 ≤ℤ first
month-low first low = omega (arith, signed, low)

pub behind-up : (first day : ℤ) → first ≤ℤ pos 365242134 → pos 365242134 <ℤ day → first ≤ℤ day
behind-up first day low behind = omega (arith, signed, low, behind)

pub walk-near : (first day : ℤ) → pos 365241000 ≤ℤ first → first ≤ℤ day → IsBetween (neg_ℤ (pos 365252499)) (pos 365252134) day →
    IsBetween (neg_ℤ (pos 365252499)) (pos 365252134) first
walk-near first day low up h = (omega (arith, signed, low), omega (arith, signed, up, h.1))

-- and the walk ahead of them with the first one's
pub ahead-end : (day end : ℤ) → day <ℤ neg_ℤ (pos 365242499) → neg_ℤ (pos 365242499) <ℤ end → day <ℤ end
ahead-end day end ahead within = omega (arith, signed, ahead, within)

pub walk-back : (low first next : ℤ) (days : ℕ) → first ≤ℤ low → next +ℤ pos days ≡ first → next ≤ℤ low
walk-back low first next days from joins = omega (arith, signed, from, joins)

-- ---- a month behind a last day

pub before-month : (l last first : ℤ) → l ≡ last → IsValidDay last → IsBetween (neg_ℤ (pos 1000000000)) (pos 1000000000) first →
    int_lt (to_z w64 (of_z w64 (to_z w64 (of_z w64 l) +ℤ pos 1))) (to_z w64 (of_z w64 first)) ≡ true → (last +ℤ pos 1) <ℤ first
before-month l last first is valid near test = omega (arith, signed, is, valid.0, valid.1, near.0, near.1, test)

-- ---- days that are held

-- the ends of a span
pub held-from : (from to : ℤ) → neg_ℤ (pos 365252000) ≤ℤ from → from ≤ℤ to → to ≤ℤ pos 365252000 → IsHeld (to_z w64 (of_z w64 from))
held-from from to low order high = subst IsHeld (sym (span-from from to low order high)) (omega (arith, signed, low), omega (arith, signed, order, high))

pub held-to : (from to : ℤ) → neg_ℤ (pos 365252000) ≤ℤ from → from ≤ℤ to → to ≤ℤ pos 365252000 → IsHeld (to_z w64 (of_z w64 to))
held-to from to low order high = subst IsHeld (sym (span-to from to low order high)) (omega (arith, signed, low, order), omega (arith, signed, high))

-- the day before a month, and the one behind the day that follows it
pub held-before : (first : ℤ) → IsBetween (neg_ℤ (pos 1000000000)) (pos 1000000000) first → IsHeld (to_z w64 (of_z w64 (to_z w64 (of_z w64 first) -ℤ pos 1)))
held-before first near = subst IsHeld (sym (before-word first near)) (omega (arith, signed, near.0), omega (arith, signed, near.1))

pub held-behind : (e first : ℤ) (days : ℕ) → e ≡ first +ℤ pos days → IsBetween (neg_ℤ (pos 1000000000)) (pos 1000000000) first →
    days ≤ 403 → IsHeld (to_z w64 (of_z w64 (to_z w64 (of_z w64 e) +ℤ pos 1)))
held-behind e first days is near short =
    subst IsHeld (sym (end-next-word e first days is near short)) (omega (arith, signed, near.0), omega (arith, signed, near.1, short))

-- ---- blocks of weeks

pub block-near : (from w day last : ℤ) (n : ℕ) → from ≡ w +ℤ pos n → day <ℤ (w +ℤ pos 7) → IsValidDay day → from ≤ℤ last → IsValidDay last →
    IsBetween (neg_ℤ (pos 365250000)) (pos 365250000) from
block-near from w day last n is week valid early last_valid = (omega (arith, signed, is, week, valid.0), omega (arith, signed, early, last_valid.1))

-- ---- months on a walk

-- up to the end of a year near the valid days
pub within-near : (look first : ℤ) (days : ℕ) → first ≤ℤ look → look <ℤ (first +ℤ pos days) → days ≤ 403 →
    IsBetween (neg_ℤ (pos 365250000)) (pos 365250000) first → IsBetween (neg_ℤ (pos 365252499)) (pos 365252134) look
within-near look first days low high short h = (omega (arith, signed, low, h.0), omega (arith, signed, high, short, h.1))

-- up to the end of a span
pub before-near-end : (first to : ℤ) (days : ℕ) → neg_ℤ (pos 365252499) ≤ℤ first → (first +ℤ pos days) <ℤ to → to ≤ℤ pos 365252000 →
    IsBetween (neg_ℤ (pos 365252499)) (pos 365252134) first
before-near-end first to days low before high = (low, omega (arith, signed, before, high))

pub block-few : (block : ℕ) → block < 200000000 → block < 4294967295
block-few block few = omega (arith, few)
