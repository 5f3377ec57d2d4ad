-- Years of the same parts are the same, whatever the proofs of their facts.
use Rattle.std.specs.Prelude.{Bool, ◌&&◌, nat_eq}
use Rattle.std.specs.Ordering.{int_eq}
use Rattle.cal_east_asian.specs.declared.east_asian_traditional_year.EastAsianTraditionalYear.{EastAsianTraditionalYear}

-- the same number, first day, month lengths and leap month
abbrev pub same_year : EastAsianTraditionalYear → EastAsianTraditionalYear → Bool
same_year a b =
    (int_eq a.related_iso b.related_iso && int_eq a.new_year b.new_year)
    && (nat_eq a.long_months b.long_months && nat_eq a.leap_month b.leap_month)
