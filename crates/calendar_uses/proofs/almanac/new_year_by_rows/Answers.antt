use Rattle.std.proofs.Common.{◌≡◌, arith, to_z, of_z, w32}
use Rattle.icu_calendar.specs.IsoSystem.{iso_date}
use Rattle.icu_calendar.specs.Kinds.{table_contents}
use Rattle.icu_calendar.specs.OwnRows.{rows_said}
use Rattle.icu_calendar.proofs.Signed.{signed}
use Rattle.calendar_uses.proofs.AlmanacLemmas.{new_year-by_rows}
use Rattle.calendar_uses.proofs.almanac.new_year_by_rows.Goals as goal

pub returns-in-Ok-try_new_chinese_traditional : goal.returns-in-Ok-try_new_chinese_traditional
returns-in-Ok-try_new_chinese_traditional c =
    let (read, within) = c.in-Ok.ensures.reads in
    let (accepted, same) = c.in-Ok-tables.ensures in
    let day = rw (c.in-Ok-try_new_chinese_traditional.ensures.calendar) at c.to_iso.ensures.day in
    let fits = c.ranges.year.sfits in
    let asked : to_z w32 (of_z w32 c.args.year) ≡ c.args.year = omega (arith, signed, fits) in
    new_year-by_rows c.args.text.now _ c.args.year (iso_date c.to_iso.result.inner) _ (rows_said c.in-Ok.rows) (table_contents c.in-Ok-tables.tables) _ _
    read accepted same c.chinese.ensures.system c.new.ensures asked c.in-Ok-try_new_chinese_traditional.ensures.made day
