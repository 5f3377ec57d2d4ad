use Rattle.std.proofs.Common.{◌≡◌, ℕ, ℤ, pos, refl, to_z, of_z, w32, arith}
use Rattle.cal_days.specs.Day.{IsFieldYear}
use Rattle.cal_days.proofs.Signed.{signed}
use Rattle.cal_types.specs.CalendarList.{date, IsValidDate}
use Rattle.cal_types.proofs.RenumberedBoundLemmas.{ranged-renumbered}
use Rattle.cal_base.specs.GregorianList.{gregorian_list}
use Rattle.cal_base.specs.laws.GregorianLaws.{gregorian_list-bounded}
use Rattle.cal_base.specs.OffsetList.{offset_list}
use Rattle.cal_base.specs.laws.OffsetListLaws.{true-offset}
use Rattle.cal_gregory.proofs.japanese.JapaneseErasGregorianYears.era_year_from_extended.Goals as goal

-- the year of a valid day is a field year
field_year : (year : ℤ) (month day : ℕ) → IsValidDate (offset_list (pos 0)) (date year month day) → IsFieldYear (to_z w32 (of_z w32 year))
field_year year month day h =
    let field = (ranged-renumbered (pos 0) (true-offset (pos 0) refl) gregorian_list gregorian_list-bounded (date year month day) h).0 in
    let kept : to_z w32 (of_z w32 year) ≡ year = omega (arith, signed, field) in
    rw kept field

pub year_in_era-requires-clause-year : goal.year_in_era-requires-clause-year
year_in_era-requires-clause-year c = field_year c.args.extended_year c.args.month c.args.day c.requires

pub era_year-requires : goal.era_year-requires
era_year-requires c = field_year c.args.extended_year c.args.month c.args.day c.requires
