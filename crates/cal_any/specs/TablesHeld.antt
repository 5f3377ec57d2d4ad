-- The table that a calendar is made with.
use Rattle.std.specs.Prelude.{◌≡◌, [], ⊤}
use Rattle.cal_tables.specs.declared.tables.Tables.{Tables}
use Rattle.cal_any.specs.declared.any_calendar.AnyCalendar.{AnyCalendar}
use Rattle.cal_any.specs.declared.any_calendar.AnyCalendar.TheVariants as calendar

-- a calendar has the table of its kind; the simulation for Mecca has no rows,
-- and calendars by rules alone have no table
abbrev pub HoldsTable : AnyCalendar → Tables → Type 0
HoldsTable (calendar.Chinese c) t = c.0.table ≡ t.china
HoldsTable (calendar.Dangi c) t = c.0.table ≡ t.korea
HoldsTable (calendar.HijriSimulated c) t = c.0.table.rows.now ≡ []
HoldsTable (calendar.HijriUmmAlQura c) t = c.0.table ≡ t.umm_al_qura
HoldsTable (calendar.Japanese c) t = c.eras ≡ t.eras
HoldsTable (calendar.JapaneseExtended c) t = c.eras ≡ t.eras
HoldsTable (calendar.Persian c) t = c.corrections ≡ t.persian
HoldsTable _ t = ⊤
