use Rattle.std.proofs.Common.{◌≡◌, ℤ, pos, ◌+ℤ◌, subst, arith}
use Rattle.cal_days.specs.Day.{IsFieldYear}
use Rattle.cal_days.proofs.Signed.{signed}
use Rattle.cal_types.proofs.AddingLemmas.{difference-added_back}
use Rattle.cal_arith.proofs.laws.difference_added_back.Goals as goal

-- a year shifted by nothing
unshifted : (y : ℤ) → IsFieldYear y → IsFieldYear (y +ℤ pos 0)
unshifted y h = let same : y ≡ y +ℤ pos 0 = omega (arith, signed) in subst IsFieldYear same h

pub returns-clause-own : goal.returns-clause-own
returns-clause-own g c = λ t u h k diff.
    let s = c.args.cal.now in let laws = g.met.C.YearShapes in
    let p = (laws.ranged s t h).0 in let q = (laws.ranged s u k).0 in
    difference-added_back (g.C.YearShapes.years s).list (laws.lawful s) t u h k c.args.unit c.args.duration diff (pos 0) p q (unshifted t.year p) (unshifted u.year q) (laws.apart s t u h k)

pub returns-clause-shifted : goal.returns-clause-shifted
returns-clause-shifted g c = λ t u h k diff.
    let s = c.args.cal.now in let laws = g.met.C.YearShapes in
    let p = laws.ranged s t h in let q = laws.ranged s u k in
    difference-added_back (g.C.YearShapes.years s).list (laws.lawful s) t u h k c.args.unit c.args.duration diff (g.C.YearShapes.years s).offset p.0 q.0 p.1 q.1 (laws.apart s t u h k)
