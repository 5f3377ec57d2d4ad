-- The years of an accepted table have their numbers, and join.
use Rattle.std.proofs.Common.{int_le, List, ℤ, pos}
use Rattle.cal_types.proofs.DateTests.{and-left}
use Rattle.cal_types.specs.Rows.{AreConsecutive, AreJoined}
use Rattle.cal_types.specs.laws.RowLaws.{consecutive}
use Rattle.cal_types.specs.laws.RowPlaces.{chosen-number}
use Rattle.cal_types.specs.laws.RowJoins.{chosen-join}
use Rattle.cal_hijri.specs.HijriList.{Numbered, Joins}
use Rattle.cal_hijri.specs.TableYears.{number_of, chosen}
use Rattle.cal_hijri.specs.TableAccepted.{row_before, start_of, end_day, is_next, IsAccepted}
use Rattle.cal_hijri.specs.declared.hijri_year.HijriYear.{HijriYear}
use Rattle.cal_errors.specs.declared.errors.TablePart.TheVariants.{Year, Join, End}

module _ (year_of : ℤ → HijriYear) (rows : List HijriYear) (accepted : IsAccepted year_of rows) where
  pub accepted-consecutive : AreConsecutive number_of rows
  accepted-consecutive = consecutive number_of (pos 1) rows (λ i row h. and-left (is_next (row_before rows i) row) (int_le row.extended_year (pos 9999)) (accepted i row h Year))

  accepted-joined : AreJoined number_of start_of end_day year_of rows
  accepted-joined = record { starts = λ i row h. accepted i row h Join; last = λ i row h. accepted i row h End }

  pub chosen-numbered : Numbered year_of → Numbered (chosen year_of rows)
  chosen-numbered numbered y rule = chosen-number number_of year_of rows accepted-consecutive y (numbered y rule)

  pub chosen-joins : Joins year_of → Joins (chosen year_of rows)
  chosen-joins joined y rule next = chosen-join number_of start_of end_day year_of rows accepted-consecutive accepted-joined y (joined y rule next)
