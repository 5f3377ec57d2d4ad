-- Bags that are read on from a later word, and years with months in the form that most have.
use Rattle.std.specs.Prelude.{◌≡◌, ℕ, List, Some, is_none, true}
use Rattle.cal_types.specs.Bag.{Bag}
use Rattle.cal_types.specs.MonthParts.{month_parts}
use Rattle.request_lines.specs.Bags.{ExtendedYear, Month, field_read, bag_before_to, bag_of_all}
use Rattle.request_lines.specs.Reading.{next_word}
use Rattle.request_lines.specs.declared.plain_words.PlainMonth.{PlainMonth}

-- a bag that is read of some words is the bag that is read of fewer words onto a larger bag
pub record GoesOn (bag : Bag) (words : List (List ℕ)) (larger : Bag) (fewer : List (List ℕ)) : Type 0 where
  pub before_to : bag_before_to (Some bag) words ≡ bag_before_to (Some larger) fewer
  pub of_all : bag_of_all (Some bag) words ≡ bag_of_all (Some larger) fewer

-- a bag has neither a year nor a month
pub record HasNoMonth (bag : Bag) : Type 0 where
  pub year : is_none bag.extended_year ≡ true
  pub month : is_none bag.month ≡ true

-- the first two words are a year and a month
pub record SaysMonth (words : List (List ℕ)) (it : PlainMonth) (left : List (List ℕ)) : Type 0 where
  pub behind_year : List (List ℕ)
  pub year : next_word field_read words ≡ Some (ExtendedYear it.year, behind_year)
  pub month : next_word field_read behind_year ≡ Some (Month (month_parts it.month), left)
