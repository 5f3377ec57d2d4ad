use Rattle.std.proofs.lemmas.Option.{slice_get_within}
use Rattle.cal_hijri.specs.HijriRows.{years_of}
use Rattle.cal_hijri.proofs.hijri_table.first_broken_of_year.Goals as goal

pub meets_end-requires-clause-within : goal.meets_end-requires-clause-within
meets_end-requires-clause-within c = slice_get_within (years_of c.args.rows.now) c.args.index c.args.row c.requires.row
