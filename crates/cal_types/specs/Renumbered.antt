-- A calendar that counts another one's years from a different year,
-- as the Buddhist and the Minguo calendar count the ISO years.
use Rattle.std.specs.Prelude.{ℤ, ◌+ℤ◌, ◌-ℤ◌}
use Rattle.cal_types.specs.CalendarList.{CalendarList, Date, date}

-- the list whose year y is year y + shift of the given one
unfoldable pub renumbered : ℤ → CalendarList → CalendarList
renumbered shift c = record {
  anchor_year = c.anchor_year -ℤ shift;
  anchor_day = c.anchor_day;
  entries = λ y. c.entries (y +ℤ shift);
  is_of_kind = c.is_of_kind;
  stand_in = c.stand_in;
}

-- a date of the renumbered list, with its year in the given one
abbrev pub shifted_date : ℤ → Date → Date
shifted_date shift t = date (t.year +ℤ shift) t.month t.day

-- a date of the given list, with its year as the renumbered list counts it
abbrev pub counted_date : ℤ → Date → Date
counted_date shift t = date (t.year -ℤ shift) t.month t.day
