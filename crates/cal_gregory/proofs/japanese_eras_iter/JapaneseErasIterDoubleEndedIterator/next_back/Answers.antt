use Rattle.cal_gregory.specs.JapaneseEras.{listed_eras}
use Rattle.cal_gregory.specs.JapaneseErasLeft.{eras_left}
use Rattle.cal_gregory.proofs.JapaneseEraLemmas.{progress-back, slice_range-back}
use Rattle.cal_gregory.proofs.japanese_eras_iter.JapaneseErasIterDoubleEndedIterator.next_back.Goals as goal
use Rattle.std.proofs.Common.{◌<◌, arith}

pub returns-clause-steps : goal.returns-clause-steps
returns-clause-steps c =
    let iter = c.args.self.now in
    let ahead : iter.front < iter.back = omega (arith, iter.ordered, c.if-self.false) in
    slice_range-back (listed_eras iter.eras) iter.front iter.back c.listed.result ahead iter.fits c.listed.ensures

pub returns-clause-goes : goal.returns-clause-goes
returns-clause-goes c = progress-back eras_left _ _ _ (returns-clause-steps c)
