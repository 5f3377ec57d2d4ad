use Rattle.std.proofs.Common.{◌≡◌, ◌∙◌, ◌≤◌, ap, arith, min, to_z, of_z, w32}
use Rattle.cal_days.proofs.IslamicLemmas.{mean_start-bounds}
use Rattle.cal_days.proofs.Signed.{signed}
use Rattle.cal_days.specs.Islamic.{islamic_mean_start}
use Rattle.cal_hijri.proofs.hijri_row.start_after.Goals as goal

pub returns-clause-near : goal.returns-clause-near
returns-clause-near c =
    let y = c.args.year in
    let kept : to_z w32 (of_z w32 y) ≡ y = omega (arith, signed, c.requires) in
    let mean : c.to_i64_date.result ≡ islamic_mean_start y = c.to_i64_date.ensures.value ∙ (c.mean_start.ensures.formula ∙ ap islamic_mean_start kept) in
    let few : min c.args.offset 10 ≤ 10 = omega arith in
    (omega (arith, signed, mean, mean_start-bounds y, c.requires, c.from.ensures, c.min.ensures, few), omega (arith, signed, mean, mean_start-bounds y, c.requires, c.from.ensures, c.min.ensures, few))

pub returns-clause-value : goal.returns-clause-value
returns-clause-value c =
    let y = c.args.year in
    let kept : to_z w32 (of_z w32 y) ≡ y = omega (arith, signed, c.requires) in
    let mean : c.to_i64_date.result ≡ islamic_mean_start y = c.to_i64_date.ensures.value ∙ (c.mean_start.ensures.formula ∙ ap islamic_mean_start kept) in
    let few : min c.args.offset 10 ≤ 10 = omega arith in
    omega (arith, signed, mean, mean_start-bounds y, c.requires, c.from.ensures, c.min.ensures, few)
