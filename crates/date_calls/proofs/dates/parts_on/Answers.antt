use Rattle.std.proofs.Common.{rules}
use Rattle.date_calls.proofs.dates.parts_on.Goals as goal

pub returns : goal.returns
returns g c = record {
  day_number_is = search rules;
  extended_year = search rules;
  era_year = search rules;
  cyclic_year = search rules;
  ordinal_month = search rules;
  month_number = search rules;
  month_is_leap = search rules;
  day = search rules;
}
