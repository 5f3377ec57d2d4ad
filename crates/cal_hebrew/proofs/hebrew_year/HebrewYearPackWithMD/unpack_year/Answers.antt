use Rattle.std.proofs.Common.{◌≡◌, ◌∙◌, to_z, of_z, w32, arith}
use Rattle.cal_days.proofs.Signed.{signed}
use Rattle.cal_hebrew.specs.PackedYears.{packed_year}
use Rattle.cal_hebrew.specs.laws.SameYears.{same_parts}
use Rattle.cal_hebrew.proofs.hebrew_year.HebrewYearPackWithMD.unpack_year.Goals as goal

pub returns : goal.returns
returns c =
    let kept : to_z w32 (of_z w32 c.unpack_year.result) ≡ c.unpack_year.result = omega (arith, signed, c.unpack_year.ensures.range) in
    same_parts _ (packed_year c.args.packed) (kept ∙ c.unpack_year.ensures.value) c.unpack_length.ensures.value
