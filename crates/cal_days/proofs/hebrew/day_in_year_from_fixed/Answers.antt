use Rattle.std.proofs.Common.{◌≡◌, pos, ◌+ℤ◌, ◌-ℤ◌, to_z, of_z, w32, arith}
use Rattle.cal_days.specs.Hebrew.{hebrew_start}
use Rattle.cal_days.proofs.Signed.{signed_casts}
use Rattle.cal_days.proofs.HebrewLemmas.{hebrew_year_of_day}
use Rattle.cal_days.proofs.hebrew.day_in_year_from_fixed.Goals as goal

pub day_in_year-requires-else-since-lt0-clause-within : goal.day_in_year-requires-else-since-lt0-clause-within
day_in_year-requires-else-since-lt0-clause-within c =
    let after : to_z w32 (of_z w32 (to_z w32 (of_z w32 c.near_year-near.result) +ℤ pos 1)) ≡ c.near_year-near.result +ℤ pos 1 = omega (arith, signed_casts, c.near_year-near.ensures.range) in
    let next : c.first_day-else-since-lt0.result ≡ hebrew_start (c.near_year-near.result +ℤ pos 1) = rw after at c.first_day-else-since-lt0.ensures in
    (omega (arith, signed_casts, c.since.ensures, c.if-since-lt0.false), omega (arith, signed_casts, next, c.near_year-near.ensures.high))

pub returns-then-since-lt0-clause-range : goal.returns-then-since-lt0-clause-range
returns-then-since-lt0-clause-range c =
    let found = c.day_in_year.result in
    let same = c.day_in_year.ensures.year in
    hebrew_year_of_day c.args.rd found.year found.day found.year_length c.requires (rw same c.day_in_year.ensures.day) (rw same c.day_in_year.ensures.length) c.day_in_year.ensures.within

pub returns-else-since-lt0-clause-range : goal.returns-else-since-lt0-clause-range
returns-else-since-lt0-clause-range c =
    let found = c.day_in_year-else-since-lt0.result in
    let same = c.day_in_year-else-since-lt0.ensures.year in
    hebrew_year_of_day c.args.rd found.year found.day found.year_length c.requires (rw same c.day_in_year-else-since-lt0.ensures.day) (rw same c.day_in_year-else-since-lt0.ensures.length) c.day_in_year-else-since-lt0.ensures.within

pub day_in_year-requires-clause-within : goal.day_in_year-requires-clause-within
day_in_year-requires-clause-within c =
    let before : to_z w32 (of_z w32 (to_z w32 (of_z w32 c.near_year-near.result) -ℤ pos 1)) ≡ c.near_year-near.result -ℤ pos 1 = omega (arith, signed_casts, c.near_year-near.ensures.range) in
    let first : c.first_day.result ≡ hebrew_start (c.near_year-near.result -ℤ pos 1) = rw before at c.first_day.ensures in
    (omega (arith, signed_casts, first, c.near_year-near.ensures.low), omega (arith, signed_casts, c.since.ensures, c.if-since-lt0.true))

pub day_in_year-requires-clause-next : goal.day_in_year-requires-clause-next
day_in_year-requires-clause-next c =
    let near = c.near_year-near.result in
    let before : to_z w32 (of_z w32 (to_z w32 (of_z w32 near) -ℤ pos 1)) ≡ near -ℤ pos 1 = omega (arith, signed_casts, c.near_year-near.ensures.range) in
    let same : to_z w32 (of_z w32 near) ≡ near = omega (arith, signed_casts, c.near_year-near.ensures.range) in
    let again : near -ℤ pos 1 +ℤ pos 1 ≡ near = omega (arith, signed_casts) in
    let this : c.first_day-first.result ≡ hebrew_start near = rw same at c.first_day-first.ensures in
    rw (before, again) this

pub day_in_year-requires-else-since-lt0-clause-next : goal.day_in_year-requires-else-since-lt0-clause-next
day_in_year-requires-else-since-lt0-clause-next c =
    let near = c.near_year-near.result in
    let after : to_z w32 (of_z w32 (to_z w32 (of_z w32 near) +ℤ pos 1)) ≡ near +ℤ pos 1 = omega (arith, signed_casts, c.near_year-near.ensures.range) in
    let same : to_z w32 (of_z w32 near) ≡ near = omega (arith, signed_casts, c.near_year-near.ensures.range) in
    let next : c.first_day-else-since-lt0.result ≡ hebrew_start (near +ℤ pos 1) = rw after at c.first_day-else-since-lt0.ensures in
    rw same next
