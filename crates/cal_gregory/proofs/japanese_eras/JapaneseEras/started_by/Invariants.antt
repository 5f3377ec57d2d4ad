use Rattle.std.proofs.Common.{◌≡◌, ◌-◌}
use Rattle.cal_types.specs.CalendarList.{date}
use Rattle.cal_gregory.specs.JapaneseEraList.{last_era, has_started}
use Rattle.cal_gregory.specs.JapaneseEras.{listed_eras}
use Rattle.cal_gregory.specs.JapaneseErasLeft.{eras_left}
use Rattle.cal_gregory.proofs.japanese_eras.JapaneseEras.started_by.Given as goal

-- the eras that were looked at start later
abbrev pub invariant-loop-era : goal.invariant-loop-era
invariant-loop-era l =
    let started = has_started (date l.on.year l.on.month l.on.day) in
    last_era started (listed_eras l.self) ≡ last_era started (eras_left l.eras)

abbrev pub decreases-loop-era : goal.decreases-loop-era
decreases-loop-era l = l.eras.back - l.eras.front
