use Rattle.std.proofs.Common.{◌≡◌, ℤ, pos, neg_ℤ, ◌+ℤ◌, ◌-ℤ◌, ◌≤ℤ◌, ◌<ℤ◌, to_z, of_z, w32, w64, arith}
use Rattle.cal_days.specs.Day.{IsBetween, IsHeld}
use Rattle.cal_days.proofs.Signed.{signed}
use Rattle.cal_hijri.proofs.Finding.{IsFound, earlier, itself, later, first_day-small}
use Rattle.cal_hijri.proofs.rules.Rules.year_containing_rd.Given.{Over}
use Rattle.cal_hijri.proofs.rules.Rules.year_containing_rd.Goals as goal

-- a first day near enough is read as it is, and so is a day number
read : (first : ℤ) → IsBetween (neg_ℤ (pos 4000000000)) (pos 4000000000) first → to_z w64 (of_z w64 first) ≡ first
read first small = omega (arith, signed, small)

told : (day : ℤ) → IsHeld day → to_z w64 (of_z w64 day) ≡ day
told day range = omega (arith, signed, range)

before : (g : Over) (c : goal.After-year g) → IsFound (g.Self.Rules.year_of c.args.self.now) (g.met.Self.Rules.numbered c.args.self.now) (g.met.Self.Rules.joins c.args.self.now) c.args.rd c.mean_year_from_fixed-mean.result c.mean_year_from_fixed-mean.ensures.first c.mean_year_from_fixed-mean.ensures.last c.mean_year_from_fixed-mean.ensures.range c.year.result
before g c =
    let s = c.args.self.now in
    let mean = c.mean_year_from_fixed-mean in
    let range = mean.ensures.range in
    let at : to_z w32 (of_z w32 mean.result) ≡ mean.result = omega (arith, signed, range) in
    let down : to_z w32 (of_z w32 (to_z w32 (of_z w32 mean.result) -ℤ pos 1)) ≡ mean.result -ℤ pos 1 = omega (arith, signed, range) in
    let small = first_day-small (g.Self.Rules.year_of s) (g.met.Self.Rules.numbered s) (g.met.Self.Rules.joins s) c.year-year.result (to_z w32 (of_z w32 mean.result)) c.year-year.ensures (omega (arith, signed, range, at), omega (arith, signed, range, at)) in
    let lt : c.args.rd <ℤ c.year-year.result.first_day = omega (arith, signed, read c.year-year.result.first_day small, told c.to_i64_date.result c.to_i64_date.ensures.range, c.to_i64_date.ensures.value, c.if-to_i64_date-year.true) in
    earlier (g.Self.Rules.year_of s) (g.met.Self.Rules.numbered s) (g.met.Self.Rules.joins s) c.args.rd mean.result mean.ensures.first mean.ensures.last range c.year-year.result c.year.result _ _ c.year-year.ensures at c.year.ensures down lt

pub returns-then-to_i64_date-year-clause-given : goal.returns-then-to_i64_date-year-clause-given
returns-then-to_i64_date-year-clause-given g c = (before g c).given

pub returns-then-to_i64_date-year-clause-range : goal.returns-then-to_i64_date-year-clause-range
returns-then-to_i64_date-year-clause-range g c = (before g c).field

pub returns-then-to_i64_date-year-clause-first : goal.returns-then-to_i64_date-year-clause-first
returns-then-to_i64_date-year-clause-first g c = (before g c).starts

pub returns-then-to_i64_date-year-clause-last : goal.returns-then-to_i64_date-year-clause-last
returns-then-to_i64_date-year-clause-last g c = (before g c).ends

within : (g : Over) (c : goal.Then-to_i64_date-next g) → IsFound (g.Self.Rules.year_of c.args.self.now) (g.met.Self.Rules.numbered c.args.self.now) (g.met.Self.Rules.joins c.args.self.now) c.args.rd c.mean_year_from_fixed-mean.result c.mean_year_from_fixed-mean.ensures.first c.mean_year_from_fixed-mean.ensures.last c.mean_year_from_fixed-mean.ensures.range c.year-year.result
within g c =
    let s = c.args.self.now in
    let mean = c.mean_year_from_fixed-mean in
    let range = mean.ensures.range in
    let at : to_z w32 (of_z w32 mean.result) ≡ mean.result = omega (arith, signed, range) in
    let up : to_z w32 (of_z w32 (to_z w32 (of_z w32 mean.result) +ℤ pos 1)) ≡ mean.result +ℤ pos 1 = omega (arith, signed, range) in
    let small = first_day-small (g.Self.Rules.year_of s) (g.met.Self.Rules.numbered s) (g.met.Self.Rules.joins s) c.year-year.result (to_z w32 (of_z w32 mean.result)) c.year-year.ensures (omega (arith, signed, range, at), omega (arith, signed, range, at)) in
    let small_next = first_day-small (g.Self.Rules.year_of s) (g.met.Self.Rules.numbered s) (g.met.Self.Rules.joins s) c.year-next.result (to_z w32 (of_z w32 (to_z w32 (of_z w32 mean.result) +ℤ pos 1))) c.year-next.ensures (omega (arith, signed, range, up), omega (arith, signed, range, up)) in
    let le : c.year-year.result.first_day ≤ℤ c.args.rd = omega (arith, signed, read c.year-year.result.first_day small, told c.to_i64_date.result c.to_i64_date.ensures.range, c.to_i64_date.ensures.value, c.if-to_i64_date-year.false) in
    let lt : c.args.rd <ℤ c.year-next.result.first_day = omega (arith, signed, read c.year-next.result.first_day small_next, told c.to_i64_date-2.result c.to_i64_date-2.ensures.range, c.to_i64_date-2.ensures.value, c.if-to_i64_date-next.true) in
    itself (g.Self.Rules.year_of s) (g.met.Self.Rules.numbered s) (g.met.Self.Rules.joins s) c.args.rd mean.result mean.ensures.first mean.ensures.last range c.year-year.result c.year-next.result _ _ c.year-year.ensures at c.year-next.ensures up le lt

pub returns-then-to_i64_date-next-clause-given : goal.returns-then-to_i64_date-next-clause-given
returns-then-to_i64_date-next-clause-given g c = (within g c).given

pub returns-then-to_i64_date-next-clause-range : goal.returns-then-to_i64_date-next-clause-range
returns-then-to_i64_date-next-clause-range g c = (within g c).field

pub returns-then-to_i64_date-next-clause-last : goal.returns-then-to_i64_date-next-clause-last
returns-then-to_i64_date-next-clause-last g c = (within g c).ends

after : (g : Over) (c : goal.Else-to_i64_date-next g) → IsFound (g.Self.Rules.year_of c.args.self.now) (g.met.Self.Rules.numbered c.args.self.now) (g.met.Self.Rules.joins c.args.self.now) c.args.rd c.mean_year_from_fixed-mean.result c.mean_year_from_fixed-mean.ensures.first c.mean_year_from_fixed-mean.ensures.last c.mean_year_from_fixed-mean.ensures.range c.year-next.result
after g c =
    let s = c.args.self.now in
    let mean = c.mean_year_from_fixed-mean in
    let range = mean.ensures.range in
    let up : to_z w32 (of_z w32 (to_z w32 (of_z w32 mean.result) +ℤ pos 1)) ≡ mean.result +ℤ pos 1 = omega (arith, signed, range) in
    let small = first_day-small (g.Self.Rules.year_of s) (g.met.Self.Rules.numbered s) (g.met.Self.Rules.joins s) c.year-next.result (to_z w32 (of_z w32 (to_z w32 (of_z w32 mean.result) +ℤ pos 1))) c.year-next.ensures (omega (arith, signed, range, up), omega (arith, signed, range, up)) in
    let le : c.year-next.result.first_day ≤ℤ c.args.rd = omega (arith, signed, read c.year-next.result.first_day small, told c.to_i64_date-2.result c.to_i64_date-2.ensures.range, c.to_i64_date-2.ensures.value, c.if-to_i64_date-next.false) in
    later (g.Self.Rules.year_of s) (g.met.Self.Rules.numbered s) (g.met.Self.Rules.joins s) c.args.rd mean.result mean.ensures.first mean.ensures.last range c.year-next.result _ c.year-next.ensures up le

pub returns-else-to_i64_date-next-clause-given : goal.returns-else-to_i64_date-next-clause-given
returns-else-to_i64_date-next-clause-given g c = (after g c).given

pub returns-else-to_i64_date-next-clause-range : goal.returns-else-to_i64_date-next-clause-range
returns-else-to_i64_date-next-clause-range g c = (after g c).field

pub returns-else-to_i64_date-next-clause-last : goal.returns-else-to_i64_date-next-clause-last
returns-else-to_i64_date-next-clause-last g c = (after g c).ends
