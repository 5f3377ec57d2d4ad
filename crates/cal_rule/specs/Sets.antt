-- Sets as bits: of places that are counted from either end, of months, and of weekdays.
use Rattle.std.specs.Prelude.{ℕ, ◌/◌, ◌%◌, ◌==◌, ◌&&◌, Bool, true, false, if◌then◌else◌, List, get_or, Option, Some, None}
use Rattle.std.specs.Int.{bit_at}
use Rattle.cal_types.specs.Month.{MonthParts, month_rank}
use Rattle.cal_types.specs.Weekday.{days_since_sunday, is_weekday}
use Rattle.cal_rule.specs.declared.month_set.MonthSet.{MonthSet}
use Rattle.cal_rule.specs.declared.weekday_places.WeekdayPlace.{WeekdayPlace}
use Rattle.cal_rule.specs.declared.weekday_places.WeekdayPlaces.{WeekdayPlaces}
use Rattle.cal_rule.specs.declared.place_set.Place.{Place}
use Rattle.cal_rule.specs.declared.place_set.Place.TheVariants.{FromFront, FromBack}
use Rattle.cal_rule.specs.declared.place_set.PlaceSet.{PlaceSet}

-- whether a word has a bit
abbrev pub has_bit : ℕ → ℕ → Bool
has_bit word i = bit_at word i == 1

-- whether words of 64 bits have the bit of a number
abbrev pub has_number : List ℕ → ℕ → Bool
has_number words i = has_bit (get_or words (i / 64) 0) (i % 64)

-- the number of a place
abbrev pub number_of : Place → ℕ
number_of (FromFront n) = n
number_of (FromBack n) = n

-- whether two places are the same
abbrev pub is_place : Place → Place → Bool
is_place (FromFront m) (FromFront n) = m == n
is_place (FromBack m) (FromBack n) = m == n
is_place (FromFront m) (FromBack n) = false
is_place (FromBack m) (FromFront n) = false

-- whether a set has a place
abbrev pub has_place : {words : ℕ} → PlaceSet words → Place → Bool
has_place set (FromFront n) = has_number set.front n
has_place set (FromBack n) = has_number set.back n

-- whether two months are the same
abbrev pub is_month : MonthParts → MonthParts → Bool
is_month m n = month_rank m == month_rank n

-- whether a set has a month
abbrev pub has_month : MonthSet → MonthParts → Bool
has_month set m = has_bit (if m.is_leap then set.leap else set.regular) m.number

-- whether two ordinals are the same, or both are missing
abbrev pub is_ordinal : Option Place → Option Place → Bool
is_ordinal None None = true
is_ordinal (Some p) (Some q) = is_place p q
is_ordinal None (Some _) = false
is_ordinal (Some _) None = false

-- whether two are the same weekday with the same ordinal
abbrev pub is_weekday_place : WeekdayPlace → WeekdayPlace → Bool
is_weekday_place v w = is_weekday v.day w.day && is_ordinal v.ordinal w.ordinal

-- whether a set has the weekday in a place from Sunday on, with an ordinal or without one
abbrev pub has_ordinal : WeekdayPlaces → ℕ → Option Place → Bool
has_ordinal set day None = get_or set.every day false
has_ordinal set day (Some (FromFront n)) = has_bit (get_or set.front day 0) n
has_ordinal set day (Some (FromBack n)) = has_bit (get_or set.back day 0) n

-- whether a set has a weekday with an ordinal, or without one
abbrev pub has_weekday : WeekdayPlaces → WeekdayPlace → Bool
has_weekday set w = has_ordinal set (days_since_sunday w.day) w.ordinal
