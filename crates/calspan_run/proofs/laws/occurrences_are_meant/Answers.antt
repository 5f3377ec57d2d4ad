use Rattle.cal_recur.proofs.ListingLemmas.{occurrences-meant}
use Rattle.cal_tables.proofs.KindLemmas.{kind_lawful}
use Rattle.cal_tables.specs.Kinds.{kind_system}
use Rattle.cal_types.proofs.ResolvingLemmas.{resolve-date}
use Rattle.cal_types.specs.CalendarList.{IsValidDate}
use Rattle.cal_types.specs.Resolving.{overflow_of, missing_fields_of}
use Rattle.table_rows.specs.TableRows.{contents_of}
use Rattle.calspan_run.specs.Recurrences.{no_options}
use Rattle.calspan_run.proofs.KindLimits.{kind_limits}
use Rattle.calspan_run.proofs.laws.occurrences_are_meant.Goals as goal

pub returns : goal.returns
returns c a rows accepted rule start named =
    let s = kind_system (contents_of rows) a.header.calendar in
    let law = kind_lawful (contents_of rows) a.header.calendar in
    let found = resolve-date s.list law s.year_names a.start (overflow_of no_options.overflow) (missing_fields_of no_options.missing_fields_strategy) start named in
    let valid : IsValidDate s.list start = record { date = found.0; valid = found.1 } in
    occurrences-meant s law start valid ((kind_limits rows accepted a.header.calendar).ranged start valid).1 rule a.header.first a.header.last
