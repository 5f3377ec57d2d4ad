-- When dates of a list are equal, and how they are ordered.
use Rattle.std.specs.Prelude.{Bool, ◌&&◌, nat_eq}
use Rattle.std.specs.Ordering.{nat_cmp, int_cmp, int_eq, ordering_then}
use Rattle.std.specs.declared.cmp.Ordering.{Ordering}
use Rattle.cal_types.specs.CalendarList.{Date}

-- the same year, month and day
abbrev pub date_eq : Date → Date → Bool
date_eq t u = int_eq t.year u.year && (nat_eq t.month u.month && nat_eq t.day u.day)

-- by year, then month, then day
abbrev pub date_cmp : Date → Date → Ordering
date_cmp t u = ordering_then (int_cmp t.year u.year) (ordering_then (nat_cmp t.month u.month) (nat_cmp t.day u.day))
