-- What an iterator of the listed eras still has to give.
use Rattle.std.specs.Prelude.{List, slice_range}
use Rattle.cal_gregory.specs.JapaneseEraList.{ListedEra}
use Rattle.cal_gregory.specs.JapaneseEras.{listed_eras}
use Rattle.cal_gregory.specs.declared.japanese_eras_iter.JapaneseErasIter.{JapaneseErasIter}

-- the eras from one place up to another
abbrev pub eras_left : JapaneseErasIter → List ListedEra
eras_left iter = slice_range (listed_eras iter.eras) iter.front iter.back
