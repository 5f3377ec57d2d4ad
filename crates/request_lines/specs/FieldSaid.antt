-- What the program reads a field as.
use Rattle.cal_types.specs.MonthParts.{month_parts}
use Rattle.request_lines.specs.Bags as bags
use Rattle.request_lines.specs.declared.bag.Field.{Field}
use Rattle.request_lines.specs.declared.bag.Field.TheVariants.{Era, EraYear, ExtendedYear, Month, MonthCode, OrdinalMonth, Day}

-- the field that the program's value stands for
abbrev pub field_said : Field → bags.Field
field_said (Era x) = bags.Era x.now
field_said (EraYear x) = bags.EraYear x
field_said (ExtendedYear x) = bags.ExtendedYear x
field_said (Month x) = bags.Month (month_parts x)
field_said (MonthCode x) = bags.MonthCode x.now
field_said (OrdinalMonth x) = bags.OrdinalMonth x
field_said (Day x) = bags.Day x
