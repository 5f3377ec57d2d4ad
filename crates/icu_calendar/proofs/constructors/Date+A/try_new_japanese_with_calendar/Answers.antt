use Rattle.std.proofs.Common.{to_z, of_z, w32}
use Rattle.cal_gregory.specs.laws.JapaneseLaws.{japanese_reads-covered}
use Rattle.icu_calendar.proofs.constructors.Date+A.try_new_japanese_with_calendar.Goals as goal

pub placed_in_era-requires : goal.placed_in_era-requires
placed_in_era-requires g c =
    let eras = (g.A.AsCalendar.cal_of c.args.japanese_calendar).eras in
    λ z taken read. japanese_reads-covered eras c.args.era.now (to_z w32 (of_z w32 c.args.year)) z taken read
