use Rattle.std.proofs.Common.{◌≡◌, ◌∙◌, ℕ, List, ℤ, ap, arith, pos, neg_ℤ, ◌+ℤ◌, ◌-ℤ◌, to_z, of_z, w8, w32, w64}
use Rattle.cal_days.specs.Day.{IsBetween, IsFieldYear}
use Rattle.cal_days.specs.Islamic.{islamic_mean_start}
use Rattle.cal_days.proofs.IslamicLemmas.{mean_start-bounds}
use Rattle.cal_days.proofs.Signed.{signed}
use Rattle.cal_arith.specs.Dates.{ymd}
use Rattle.date_bytes.specs.Bytes.{day_from, month_from, year_from}
use Rattle.date_bytes.specs.HijriBytes.{hijri_bytes, long_in, offset_in}
use Rattle.cal_hijri.specs.HijriMonths.{IsNearMean}
use Rattle.cal_hijri.specs.laws.SameYears.{same_parts}
use Rattle.cal_hijri.specs.PackedYears.{packed_year}
use Rattle.cal_hijri.specs.declared.hijri_year.HijriYear.{HijriYear}
use Rattle.cal_hijri.proofs.hijri_year.HijriYearPackWithMD.pack.Goals as goal

-- the number of a year that is packed arrives as it is
number : (y : ℤ) → IsFieldYear y → to_z w32 (of_z w32 y) ≡ y
number y field = omega (arith, signed, field)

-- so does the offset from the mean start
offset : (y first mean day : ℤ) → IsFieldYear y → IsNearMean y first → mean ≡ islamic_mean_start (to_z w32 (of_z w32 y)) → day ≡ mean → to_z w8 (of_z w8 (to_z w64 (of_z w64 (to_z w64 (of_z w64 first) -ℤ to_z w64 (of_z w64 day))))) ≡ first -ℤ islamic_mean_start y
offset y first mean day field near said same =
    let is : day ≡ islamic_mean_start y = same ∙ (said ∙ ap islamic_mean_start (number y field)) in
    omega (arith, signed, is, near, field, mean_start-bounds y)

small : (y first : ℤ) → IsNearMean y first → IsBetween (neg_ℤ (pos 5)) (pos 5) (first -ℤ islamic_mean_start y)
small y first near = (omega (arith, signed, near), omega (arith, signed, near))

pub pack-requires-clause-offset : goal.pack-requires-clause-offset
pack-requires-clause-offset c =
    let year = c.args.self in
    rw (offset year.extended_year year.first_day c.mean_start.result c.to_i64_date.result c.requires.storable year.near c.mean_start.ensures.formula c.to_i64_date.ensures.value) (small year.extended_year year.first_day year.near)

-- the bytes of equal parts are equal
bytes-same : (bytes : List ℕ) (y z : ℤ) (l : ℕ) (o p : ℤ) (m d : ℕ) → bytes ≡ hijri_bytes y l o m d → y ≡ z → o ≡ p → bytes ≡ hijri_bytes z l p m d
bytes-same bytes y z l o p m d said same also = said ∙ ap (λ (x : ℤ). hijri_bytes x l o m d) same ∙ ap (λ (x : ℤ). hijri_bytes z l x m d) also

pub returns-clause-bytes : goal.returns-clause-bytes
returns-clause-bytes c =
    let year = c.args.self in
    let off = offset year.extended_year year.first_day c.mean_start.result c.to_i64_date.result c.requires.storable year.near c.mean_start.ensures.formula c.to_i64_date.ensures.value in
    bytes-same _ _ year.extended_year _ _ (year.first_day -ℤ islamic_mean_start year.extended_year) _ _ c.pack.ensures.bytes (number year.extended_year c.requires.storable) off

-- and hold the year
held : (p : List ℕ) (year : HijriYear) → year_from 2 p ≡ year.extended_year → long_in p ≡ year.long_months → offset_in p ≡ year.first_day -ℤ islamic_mean_start year.extended_year → packed_year p ≡ year
held p year same long off =
    let first : islamic_mean_start (year_from 2 p) +ℤ offset_in p ≡ year.first_day = ap (λ (z : ℤ). islamic_mean_start z +ℤ offset_in p) same ∙ omega (arith, signed, off) in
    same_parts (packed_year p) year same first long

pub returns-clause-parts : goal.returns-clause-parts
returns-clause-parts c =
    let year = c.args.self in
    let p = c.pack.result in
    let off = offset year.extended_year year.first_day c.mean_start.result c.to_i64_date.result c.requires.storable year.near c.mean_start.ensures.formula c.to_i64_date.ensures.value in
    let same = held p year (c.pack.ensures.year ∙ number year.extended_year c.requires.storable) c.pack.ensures.long (c.pack.ensures.offset ∙ off) in
    ap (λ (y : HijriYear). ymd y (month_from 2 p) (day_from 2 p)) same
    ∙ ap (λ (m : ℕ). ymd year m (day_from 2 p)) c.pack.ensures.month
    ∙ ap (λ (d : ℕ). ymd year c.args.month d) c.pack.ensures.day

pub overflow_sub-offset : goal.overflow_sub-offset
overflow_sub-offset c =
    let year = c.args.self in
    let y = year.extended_year in
    let mean : c.to_i64_date.result ≡ islamic_mean_start y = c.to_i64_date.ensures.value ∙ (c.mean_start.ensures.formula ∙ ap islamic_mean_start (number y c.requires.storable)) in
    omega (arith, signed, mean, year.near, mean_start-bounds y, c.requires.storable)

pub overflow_cast-offset : goal.overflow_cast-offset
overflow_cast-offset c =
    let year = c.args.self in
    let y = year.extended_year in
    let mean : c.to_i64_date.result ≡ islamic_mean_start y = c.to_i64_date.ensures.value ∙ (c.mean_start.ensures.formula ∙ ap islamic_mean_start (number y c.requires.storable)) in
    omega (arith, signed, mean, year.near, mean_start-bounds y, c.requires.storable)
