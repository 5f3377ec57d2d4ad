-- What the fields of a form name: an extended year, the number of a month, and a day.
use Rattle.std.specs.Prelude.{ℕ, ℤ, Some, None}
use Rattle.icu_calendar.specs.declared.DateFromFieldsOptions.{DateFromFieldsOptions}
use Rattle.icu_calendar.specs.declared.Overflow.TheVariants.{Reject}
use Rattle.icu_calendar.specs.Bag.{Bag, year_month_day}
use Rattle.icu_calendar.specs.Month.{plain_month}

abbrev pub form_fields : ℤ → ℕ → ℕ → Bag
form_fields y m d = year_month_day y (plain_month m) d

-- a month or a day that isn't there is refused
abbrev pub strictly : DateFromFieldsOptions
strictly = record { overflow = Some Reject; missing_fields_strategy = None }
