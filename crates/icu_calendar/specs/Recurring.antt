-- The occurrences of rules.
pub use Rattle.cal_recur.specs.Listing.{Occurs, AreOccurrences, occurrences, occurrences_left, IsRestAfter, GoesOn}
pub use Rattle.cal_recur.specs.Occurrence.{occurrence, units, day_in}
pub use Rattle.cal_recur.specs.FirstIndex.{constrained, AreBefore, IsLeast, IsFirstIndex}
pub use Rattle.cal_recur.specs.Rule.{IsRule, overflow_of}
