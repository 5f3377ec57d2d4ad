use Rattle.cal_gregory.specs.JapaneseEras.{listed_eras}
use Rattle.cal_gregory.proofs.JapaneseEraLemmas.{slice_range-all}
use Rattle.cal_gregory.proofs.japanese_eras_iter.JapaneseErasIter.new.Goals as goal

pub returns : goal.returns
returns c = slice_range-all (listed_eras c.args.eras) c.count-back.result c.count-back.ensures
