-- Mean lunisolar years of China and Korea: months begin on the day of a mean new moon,
-- and mean solar terms give them their numbers. Moments are milliseconds, counted from the start of day 0.
use Rattle.std.specs.Prelude.{◌≡◌, ℕ, zero, suc, ◌+◌, ◌-◌, ◌*◌, ◌<◌, ◌≤◌, ◌⊎◌, ◌↔◌, Bool, false, if◌then◌else◌, List, [], ◌∷◌, length, slice_index_or, nat_eq, nat_lt, nat_le, int_le, unsigned_abs, Option, Some, None, ℤ, pos, neg_ℤ, ◌+ℤ◌, ◌-ℤ◌, ◌*ℤ◌, ◌≤ℤ◌}
use Rattle.cal_days.specs.Division.{floor_div}
use Rattle.cal_types.specs.Month.{MonthParts}
use Rattle.cal_types.specs.CalendarList.{Entry, no_entry}

-- the day of a moment
abbrev pub day : ℤ → ℤ
day t = floor_div t 86400000

-- mean new moon k, at an offset from Greenwich
unfoldable pub moon : ℤ → ℤ → ℤ
moon offset k = pos (730125 * 86400000 + 65640000) +ℤ offset +ℤ pos 2551442876 *ℤ k

-- mean solar term j of year y; term 0 is the mean winter solstice, in the December before y
unfoldable pub term : ℤ → ℤ → ℕ → ℤ
term offset y j =
    pos (730110 * 86400000 + 27840000) +ℤ offset +ℤ pos 31556952000 *ℤ (y -ℤ pos 2000) +ℤ pos (2629746000 * j)

-- k is the greatest moon whose day is at most d
abbrev pub IsLastMoon : ℤ → ℤ → ℤ → Type 0
IsLastMoon offset d k = (m : ℤ) → (day (moon offset m) ≤ℤ d) ↔ (m ≤ℤ k)

-- that moon, by the moments from moon 0 to the end of day d
unfoldable pub last_moon : ℤ → ℤ → ℤ
last_moon offset d = floor_div (pos 86400000 *ℤ (d +ℤ pos 1) -ℤ pos 1 -ℤ moon offset (pos 0)) 2551442876

-- the moon of the month that has the winter solstice, from which the months of a year are counted
unfoldable pub solstice_moon : ℤ → ℤ → ℤ
solstice_moon offset y = last_moon offset (day (term offset y 0))

-- the first day of month i, counted from the solstice month, which is month 0
unfoldable pub month_start : ℤ → ℤ → ℕ → ℤ
month_start offset y i = day (moon offset (solstice_moon offset y +ℤ pos i))

-- the month after month i doesn't begin after the day of term i
unfoldable pub lacks_term : ℤ → ℤ → ℕ → Bool
lacks_term offset y i = int_le (month_start offset y (i + 1)) (day (term offset y i))

-- the least of n numbers from i that meets a test
abbrev pub least : (ℕ → Bool) → ℕ → ℕ → Option ℕ
least test i zero = None
least test i (suc n) = if test i then Some i else least test (i + 1) n

-- the leap month: the first of the months 0 to 14 that lacks its term
unfoldable pub leap_month : ℤ → ℤ → Option ℕ
leap_month offset y = least (lacks_term offset y) 0 15

-- the year has the months of the terms 2 to 13. Where the leap month is at most month 2, it belongs to the year before,
-- and the month of term 2 is month 3
abbrev pub first_month : Option ℕ → ℕ
first_month None = 2
first_month (Some g) = if nat_le g 2 then 3 else 2

-- the month after the month of term 13, and after the leap month where that follows it
abbrev pub end_month : Option ℕ → ℕ
end_month None = 14
end_month (Some g) = 15

-- before the leap month, month i has term i, and after it term i - 1.
-- The month of term t is plain month t - 1, and the leap month has the number of the month before it
abbrev pub name_of : Option ℕ → ℕ → MonthParts
name_of None i = record { number = i - 1; is_leap = false }
name_of (Some g) i = record { number = if nat_lt i g then i - 1 else i - 2; is_leap = nat_eq i g }

abbrev pub mean_entry : ℤ → ℤ → ℕ → Entry
mean_entry offset y i =
    record {
      month = name_of (leap_month offset y) i;
      days = unsigned_abs (month_start offset y (i + 1) -ℤ month_start offset y i);
    }

-- n months from month i
abbrev pub entries_from : ℤ → ℤ → ℕ → ℕ → List Entry
entries_from offset y i zero = []
entries_from offset y i (suc n) = mean_entry offset y i ∷ entries_from offset y (i + 1) n

-- the months of the year
unfoldable pub mean_months : ℤ → ℤ → List Entry
mean_months offset y =
    let g = leap_month offset y in entries_from offset y (first_month g) (end_month g - first_month g)

-- the first day of the year
unfoldable pub new_year : ℤ → ℤ → ℤ
new_year offset y = month_start offset y (first_month (leap_month offset y))

-- the moon that the year begins with
unfoldable pub first_moon : ℤ → ℤ → ℤ
first_moon offset y = solstice_moon offset y +ℤ pos (first_month (leap_month offset y))

-- how many months the year has
abbrev pub month_total : ℤ → ℤ → ℕ
month_total offset y = length (mean_months offset y)

-- how many months the year and the two after it have
abbrev pub months_of_three : ℤ → ℤ → ℕ
months_of_three offset y = month_total offset y + month_total offset (y +ℤ pos 1) + month_total offset (y +ℤ pos 2)

-- the winter solstice before the year falls in the month from which its months are counted:
-- no later moon's day is at most the solstice's
abbrev pub HasSolsticeMoon : ℤ → ℤ → Type 0
HasSolsticeMoon offset y = IsLastMoon offset (day (term offset y 0)) (solstice_moon offset y)

-- 12 or 13 months of 29 or 30 days
pub record AreMonths (months : List Entry) : Type 0 where
  pub count : (length months ≡ 12) ⊎ (length months ≡ 13)
  pub lengths : (i : ℕ) → i < length months
      → (29 ≤ (slice_index_or months i no_entry).days) × ((slice_index_or months i no_entry).days ≤ 30)

-- the offsets that years are computed at: from that of Beijing's mean time to that of Korea's standard time
abbrev pub IsOffset : ℤ → Type 0
IsOffset offset = (pos 27940000 ≤ℤ offset) × (offset ≤ℤ pos 32400000)

-- moons of the years that year rules are used for
abbrev pub IsNearMoon : ℤ → Type 0
IsNearMoon k = (neg_ℤ (pos 200000000) ≤ℤ k) × (k ≤ℤ pos 200000000)
