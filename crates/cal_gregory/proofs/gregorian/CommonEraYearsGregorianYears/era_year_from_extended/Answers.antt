use Rattle.std.proofs.Common.{◌≡◌, pos, refl, to_z, of_z, w32, arith}
use Rattle.cal_days.proofs.Signed.{signed}
use Rattle.cal_types.specs.CalendarList.{date}
use Rattle.cal_types.proofs.RenumberedBoundLemmas.{ranged-renumbered}
use Rattle.cal_base.specs.GregorianList.{gregorian_list}
use Rattle.cal_base.specs.laws.GregorianLaws.{gregorian_list-bounded}
use Rattle.cal_base.specs.laws.OffsetListLaws.{true-offset}
use Rattle.cal_gregory.proofs.gregorian.CommonEraYearsGregorianYears.era_year_from_extended.Goals as goal

pub era_year-requires : goal.era_year-requires
era_year-requires c =
    let field = (ranged-renumbered (pos 0) (true-offset (pos 0) refl) gregorian_list gregorian_list-bounded (date c.args.extended_year c.args._month c.args._day) c.requires).0 in
    let kept : to_z w32 (of_z w32 c.args.extended_year) ≡ c.args.extended_year = omega (arith, signed, field) in
    rw kept field
