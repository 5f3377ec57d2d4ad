-- Years of plain months that are numbered from 1, as the calendars without leap months have them.
use Rattle.std.specs.Prelude.{◌≡◌, ◌⊎◌, ℕ, ◌≤◌, Bool, false, not, ◌&&◌, nat_le, ℤ}
use Rattle.cal_types.specs.Month.{MonthParts}
use Rattle.cal_types.specs.CalendarList.{CalendarList, Entry, month_at, month_count, month_length}

-- the plain month of a number
abbrev pub numbered_month : ℕ → MonthParts
numbered_month number = record { number = number; is_leap = false }

-- the same, with its days
abbrev pub plain_entry : ℕ → ℕ → Entry
plain_entry number days = record { month = numbered_month number; days = days }

-- whether a month is one of the plain months 1 to n
abbrev pub is_plain_month : ℕ → MonthParts → Bool
is_plain_month n m = not m.is_leap && (nat_le 1 m.number && nat_le m.number n)

-- each year has the plain months 1 to n, of 1 to 31 days, and the calendar knows no other month; n is 12 or 13
pub record HasPlainMonths (n : ℕ) (c : CalendarList) : Type 0 where
  pub number : (n ≡ 12) ⊎ (n ≡ 13)
  pub count : (y : ℤ) → month_count c y ≡ n
  pub months : (y : ℤ) (i : ℕ) → 1 ≤ i → i ≤ n → month_at c y i ≡ numbered_month i
  pub lengths : (y : ℤ) (i : ℕ) → 1 ≤ i → i ≤ n → (1 ≤ month_length c y i) × (month_length c y i ≤ 31)
  pub kind : (m : MonthParts) → c.is_of_kind m ≡ is_plain_month n m
