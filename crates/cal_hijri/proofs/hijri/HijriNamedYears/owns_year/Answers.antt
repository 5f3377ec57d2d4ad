use Rattle.std.proofs.Common.{◌≡◌, ◌∙◌, sym, true, arith, pos, neg_ℤ, to_z, of_z, w32}
use Rattle.std.specs.Prelude.{int_le}
use Rattle.cal_days.specs.Day.{is_field_year}
use Rattle.cal_days.proofs.Signed.{signed}
use Rattle.cal_types.proofs.DateTests.{and-left, and-right}
use Rattle.cal_hijri.proofs.hijri.HijriNamedYears.owns_year.Goals as goal

pub year-requires : goal.year-requires
year-requires g c =
    let y = to_z w32 (of_z w32 c.args.year.extended_year) in
    let named : is_field_year y ≡ true = sym c.can_be_named.ensures ∙ c.if-can_be_named.true in
    let low = and-left (int_le (neg_ℤ (pos 1040000)) y) (int_le y (pos 1040000)) named in
    let high = and-right (int_le (neg_ℤ (pos 1040000)) y) (int_le y (pos 1040000)) named in
    (omega (arith, signed, low), omega (arith, signed, high))
