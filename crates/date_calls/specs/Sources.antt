-- What the tables of a source of years hold.
use Rattle.cal_tables.specs.Kinds.{TableContents, no_contents}
use Rattle.date_calls.specs.declared.sources.YearSource.{YearSource}
use Rattle.date_calls.specs.declared.sources.YearSource.TheVariants.{Computed, Published}
use Rattle.published_years.specs.Published.{published_contents}

-- no rows, so that all years are computed, or the published years
abbrev pub source_contents : YearSource → TableContents
source_contents Computed = no_contents
source_contents Published = published_contents
