use Rattle.std.proofs.Common.{◌≡◌, ◌-◌}
use Rattle.cal_types.specs.YearNames.{is_code}
use Rattle.cal_gregory.specs.JapaneseEraList.{last_era, ListedEra}
use Rattle.cal_gregory.specs.JapaneseEras.{listed_eras}
use Rattle.cal_gregory.specs.JapaneseErasLeft.{eras_left}
use Rattle.cal_gregory.proofs.japanese_eras.JapaneseEras.with_code.Given as goal

-- the eras that were looked at have other codes
abbrev pub invariant-loop-era : goal.invariant-loop-era
invariant-loop-era l =
    let coded = λ (e : ListedEra). is_code l.code e.1 in
    last_era coded (listed_eras l.self) ≡ last_era coded (eras_left l.eras)

abbrev pub decreases-loop-era : goal.decreases-loop-era
decreases-loop-era l = l.eras.back - l.eras.front
