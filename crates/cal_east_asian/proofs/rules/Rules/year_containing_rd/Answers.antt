use Rattle.std.proofs.Common.{◌≡◌, pos, ◌-ℤ◌, ◌≤ℤ◌, ◌<ℤ◌, to_z, of_z, w32, arith}
use Rattle.cal_days.proofs.Signed.{signed}
use Rattle.cal_east_asian.proofs.Finding.{IsFound, earlier, itself, new_year-small}
use Rattle.cal_east_asian.proofs.rules.Rules.year_containing_rd.Given.{Over}
use Rattle.cal_east_asian.proofs.rules.Rules.year_containing_rd.Goals as goal

before : (g : Over) (c : goal.After-year g) → IsFound (g.Self.Rules.year_of c.args.self.now) (g.met.Self.Rules.lawful c.args.self.now) c.args.rd c.year_from_fixed-iso_year.result c.year_from_fixed-iso_year.ensures.first c.year_from_fixed-iso_year.ensures.last c.year_from_fixed-iso_year.ensures.range c.year.result
before g c =
    let s = c.args.self.now in
    let iso = c.year_from_fixed-iso_year in
    let range = iso.ensures.range in
    let at : to_z w32 (of_z w32 iso.result) ≡ iso.result = omega (arith, signed, range) in
    let down : to_z w32 (of_z w32 (to_z w32 (of_z w32 iso.result) -ℤ pos 1)) ≡ iso.result -ℤ pos 1 = omega (arith, signed, range) in
    let small = new_year-small (g.Self.Rules.year_of s) (g.met.Self.Rules.lawful s) c.year-year.result (to_z w32 (of_z w32 iso.result)) c.year-year.ensures (omega (arith, signed, range, at), omega (arith, signed, range, at)) in
    let lt : c.args.rd <ℤ c.year-year.result.new_year = omega (arith, signed, small, c.to_i64_date.ensures, c.if-to_i64_date-year.true) in
    earlier (g.Self.Rules.year_of s) (g.met.Self.Rules.lawful s) c.args.rd iso.result iso.ensures.first iso.ensures.last range c.year-year.result c.year.result _ _ c.year-year.ensures at c.year.ensures down lt

pub returns-then-to_i64_date-year-clause-given : goal.returns-then-to_i64_date-year-clause-given
returns-then-to_i64_date-year-clause-given g c = (before g c).given

pub returns-then-to_i64_date-year-clause-range : goal.returns-then-to_i64_date-year-clause-range
returns-then-to_i64_date-year-clause-range g c = (before g c).field

pub returns-then-to_i64_date-year-clause-first : goal.returns-then-to_i64_date-year-clause-first
returns-then-to_i64_date-year-clause-first g c = (before g c).starts

pub returns-then-to_i64_date-year-clause-last : goal.returns-then-to_i64_date-year-clause-last
returns-then-to_i64_date-year-clause-last g c = (before g c).ends

within : (g : Over) (c : goal.Else-to_i64_date-year g) → IsFound (g.Self.Rules.year_of c.args.self.now) (g.met.Self.Rules.lawful c.args.self.now) c.args.rd c.year_from_fixed-iso_year.result c.year_from_fixed-iso_year.ensures.first c.year_from_fixed-iso_year.ensures.last c.year_from_fixed-iso_year.ensures.range c.year-year.result
within g c =
    let s = c.args.self.now in
    let iso = c.year_from_fixed-iso_year in
    let range = iso.ensures.range in
    let at : to_z w32 (of_z w32 iso.result) ≡ iso.result = omega (arith, signed, range) in
    let small = new_year-small (g.Self.Rules.year_of s) (g.met.Self.Rules.lawful s) c.year-year.result (to_z w32 (of_z w32 iso.result)) c.year-year.ensures (omega (arith, signed, range, at), omega (arith, signed, range, at)) in
    let le : c.year-year.result.new_year ≤ℤ c.args.rd = omega (arith, signed, small, c.to_i64_date.ensures, c.if-to_i64_date-year.false) in
    itself (g.Self.Rules.year_of s) (g.met.Self.Rules.lawful s) c.args.rd iso.result iso.ensures.first iso.ensures.last range c.year-year.result _ c.year-year.ensures at le

pub returns-else-to_i64_date-year-clause-given : goal.returns-else-to_i64_date-year-clause-given
returns-else-to_i64_date-year-clause-given g c = (within g c).given

pub returns-else-to_i64_date-year-clause-range : goal.returns-else-to_i64_date-year-clause-range
returns-else-to_i64_date-year-clause-range g c = (within g c).field

pub returns-else-to_i64_date-year-clause-last : goal.returns-else-to_i64_date-year-clause-last
returns-else-to_i64_date-year-clause-last g c = (within g c).ends
