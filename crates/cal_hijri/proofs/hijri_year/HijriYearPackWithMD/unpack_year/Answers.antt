use Rattle.std.proofs.Common.{◌≡◌, ◌∙◌, ℤ, ap, arith, pos, neg_ℤ, ◌+ℤ◌, to_z, of_z, w8, w32, w64}
use Rattle.cal_days.specs.Day.{IsBetween}
use Rattle.cal_days.specs.Islamic.{islamic_mean_start}
use Rattle.cal_days.proofs.IslamicLemmas.{mean_start-bounds}
use Rattle.cal_days.proofs.Signed.{signed}
use Rattle.date_bytes.specs.Bytes.{year_from}
use Rattle.cal_hijri.specs.PackedYears.{packed_year}
use Rattle.cal_hijri.specs.laws.SameYears.{same_parts}
use Rattle.cal_hijri.proofs.hijri_year.HijriYearPackWithMD.unpack_year.Goals as goal

-- the number arrives as it is
number : (y : ℤ) → IsBetween (neg_ℤ (pos 4194304)) (pos 4194303) y → to_z w32 (of_z w32 y) ≡ y
number y range = omega (arith, signed, range)

-- and the first day is that of the definition
first : (y z mean day off from : ℤ) → IsBetween (neg_ℤ (pos 4194304)) (pos 4194303) y → y ≡ z → mean ≡ islamic_mean_start (to_z w32 (of_z w32 y)) → day ≡ mean → IsBetween (neg_ℤ (pos 5)) (pos 5) off → from ≡ to_z w8 (of_z w8 off) → to_z w64 (of_z w64 (to_z w64 (of_z w64 day) +ℤ to_z w64 (of_z w64 from))) ≡ islamic_mean_start z +ℤ off
first y z mean day off from range is said same small kept =
    let mean_is : mean ≡ islamic_mean_start z = said ∙ ap islamic_mean_start (number y range ∙ is) in
    omega (arith, signed, mean_is, same, small, kept, range, is, mean_start-bounds z)

pub mean_start-requires : goal.mean_start-requires
mean_start-requires c = let range = c.unpack_year-extended_year.ensures.range in (omega (arith, signed, range), omega (arith, signed, range))

pub returns : goal.returns
returns c =
    let year = c.unpack_year-extended_year in
    same_parts _ (packed_year c.args.packed) (number year.result year.ensures.range ∙ year.ensures.value)
    (first year.result (year_from 2 c.args.packed) c.mean_start.result c.to_i64_date-mean.result c.unpack_offset.result c.from.result year.ensures.range year.ensures.value c.mean_start.ensures.formula c.to_i64_date-mean.ensures.value c.unpack_offset.ensures.small c.from.ensures
    ∙ ap (λ (z : ℤ). islamic_mean_start (year_from 2 c.args.packed) +ℤ z) c.unpack_offset.ensures.value)
    c.unpack_long_months.ensures.value
