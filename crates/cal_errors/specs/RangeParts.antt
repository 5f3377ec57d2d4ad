-- What an argument that is out of its range says, and an error of a date that is made of numbers.
use Rattle.std.specs.Prelude.{ℕ, ℤ, List}
use Rattle.cal_errors.specs.declared.errors.RangeError.{RangeError}
use Rattle.cal_errors.specs.declared.errors.DateError.{DateError}
use Rattle.cal_errors.specs.declared.errors.DateError.TheVariants.{Range, UnknownEra}

-- the argument's name, the value that was given, and the least and the greatest that are allowed
pub record RangeParts : Type 0 where
  pub field : List ℕ
  pub value : ℤ
  pub min : ℤ
  pub max : ℤ

abbrev pub range_parts : RangeError → RangeParts
range_parts e = record { field = e.field.now; value = e.value; min = e.min; max = e.max }

-- an argument is out of its range, or the era is unknown
pub data DateFault : Type 0 where
  OutOfRange : RangeParts → DateFault
  NoEra : DateFault

abbrev pub date_fault : DateError → DateFault
date_fault (Range field value min max) = OutOfRange (record { field = field.now; value = value; min = min; max = max })
date_fault UnknownEra = NoEra
