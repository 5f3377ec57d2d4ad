use Rattle.std.proofs.Common.{◌≡◌, ◌∙◌, ◌+◌, ◌*◌, ◌≤◌, arith, pos, neg_ℤ, ◌+ℤ◌, ◌≤ℤ◌, to_z, of_z, w64}
use Rattle.std.proofs.lemmas.List.{length-set}
use Rattle.cal_days.proofs.Signed.{signed}
use Rattle.table_rows.specs.RowYears.{days_at}
use Rattle.table_rows.proofs.RowYearLemmas.{starts-filled}
use Rattle.table_rows.proofs.row_years.month_starts.Goals as goal

pub months-preserved : goal.months-preserved
months-preserved g c =
    let i = c.months.index in
    let day = to_z w64 c.months.day-bits in
    let more = days_at c.args.letters.now i in
    let few : i ≤ 13 = omega (arith, c.months-test.true, c.requires) in
    let low : neg_ℤ (pos 3000000000) ≤ℤ day = c.months.invariant.low in
    let high : day ≤ℤ pos (3000000000 + 30 * i) = c.months.invariant.high in
    let put : c.new.result ≡ day = omega (arith, signed, c.new.ensures) in
    let most : more ≤ 30 = c.month_days-day.ensures.most in
    let days : c.month_days-day.result ≡ pos more = c.month_days-day.ensures.value in
    let same : to_z w64 (of_z w64 c.month_days-day.result) ≡ pos more = omega (arith, signed) in
    let later : to_z w64 (of_z w64 (day +ℤ to_z w64 (of_z w64 c.month_days-day.result))) ≡ day +ℤ pos more = omega (arith, signed) in
    record {
      index = omega (arith, c.months-test.true);
      size = length-set c.months.starts i c.new.result ∙ c.months.invariant.size;
      low = omega (arith, signed, later);
      high = omega (arith, signed, later);
      filled = starts-filled g.row.N i c.args.letters.now _ day c.months.starts c.months-test.true c.months.invariant.size c.new.result _ put later c.months.invariant.filled;
    }
