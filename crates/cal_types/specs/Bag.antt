-- The fields of a date that a caller gives: a property bag of ECMAScript Temporal.
use Rattle.std.specs.Prelude.{ℕ, ℤ, List, Option, Some, None, option_map}
use Rattle.cal_types.specs.Month.{MonthParts}
use Rattle.cal_types.specs.MonthParts.{month_parts}
use Rattle.cal_types.specs.declared.fields.DateFields.{DateFields}

-- the fields of a date that are given
pub record Bag : Type 0 where
  pub era : Option (List ℕ)
  pub era_year : Option ℤ
  pub extended_year : Option ℤ
  pub month : Option MonthParts
  pub month_code : Option (List ℕ)
  pub ordinal_month : Option ℕ
  pub day : Option ℕ

-- the fields that a value of the program holds
abbrev pub bag_of : DateFields → Bag
bag_of f = record {
  era = option_map (λ bytes. bytes.now) f.era;
  era_year = f.era_year;
  extended_year = f.extended_year;
  month = option_map month_parts f.month;
  month_code = option_map (λ bytes. bytes.now) f.month_code;
  ordinal_month = f.ordinal_month;
  day = f.day;
}

-- an extended year, a month and a day
abbrev pub year_month_day : ℤ → MonthParts → ℕ → Bag
year_month_day y m d = record {
  era = None;
  era_year = None;
  extended_year = Some y;
  month = Some m;
  month_code = None;
  ordinal_month = None;
  day = Some d;
}
