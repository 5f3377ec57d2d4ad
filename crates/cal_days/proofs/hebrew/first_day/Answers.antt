use Rattle.std.proofs.Common.{◌≡◌, ◌%◌, to_z, of_z, w32, arith}
use Rattle.cal_days.proofs.Signed.{signed_casts}
use Rattle.cal_days.proofs.HebrewLemmas.{start-of_molad, postponement-most}
use Rattle.cal_days.proofs.hebrew.first_day.Goals as goal

pub returns : goal.returns
returns c =
    let moon = c.molad_of-moon.result in
    let same : to_z w32 (of_z w32 c.args.year) ≡ c.args.year = omega (arith, signed_casts) in
    let formula = start-of_molad c.args.year moon.day moon.part moon.left c.requires (rw same at c.molad_of-moon.ensures.day) (rw same at c.molad_of-moon.ensures.part) (rw same at c.molad_of-moon.ensures.left) in
    omega (arith, signed_casts, formula, c.days_put_off.ensures, c.new.ensures, c.molad_of-moon.ensures.bound, postponement-most (moon.day % 7) moon.part moon.left)

pub overflow_sub-moon : goal.overflow_sub-moon
overflow_sub-moon c =
    let moon = c.molad_of-moon.result in
    omega (arith, signed_casts, c.days_put_off.ensures, c.molad_of-moon.ensures.bound, postponement-most (moon.day % 7) moon.part moon.left)

pub new-requires : goal.new-requires
new-requires c =
    let moon = c.molad_of-moon.result in let most = postponement-most (moon.day % 7) moon.part moon.left in
    (omega (arith, signed_casts, c.days_put_off.ensures, c.molad_of-moon.ensures.bound, most), omega (arith, signed_casts, c.days_put_off.ensures, c.molad_of-moon.ensures.bound, most))
