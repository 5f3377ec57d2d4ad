use Rattle.std.proofs.Common.{◌∙◌, ◌≤◌, ℕ, ℤ, pos, ◌+ℤ◌, sym, subst, to_z, of_z, w32}
use Rattle.cal_types.proofs.ListLemmas.{year_length-most}
use Rattle.cal_rrule.specs.Looks.{look_year}
use Rattle.cal_rrule.specs.Stretches.{InStretch}
use Rattle.cal_rrule.proofs.NearYearLemmas.{own-field, next-year-field, next-starts, year-joins}
use Rattle.cal_rrule.proofs.WordLemmas.{behind-near, end-word, next-word, shift-fits, valid-test}
use Rattle.cal_rrule.proofs.near_years.year_after.Goals as goal

pub returns-then-is_valid-clause-year : goal.returns-then-is_valid-clause-year
returns-then-is_valid-clause-year g c =
    let list = (g.C.Calendar.system c.args.calendar.now).list in
    let law = g.met.C.Calendar.lawful c.args.calendar.now in
    let look = c.args.look.now in
    let end = end-word c.end-first.result look.first look.days c.end-first.ensures look.near look.short in
    let within = subst (λ (n : ℤ). InStretch (look_year c.year_of.result) n) end c.year_of.ensures.within in
    (year-joins list law look c.requires.look c.year_of.result c.year_of.ensures.look within).0

pub returns-then-is_valid-clause-joins : goal.returns-then-is_valid-clause-joins
returns-then-is_valid-clause-joins g c =
    let list = (g.C.Calendar.system c.args.calendar.now).list in
    let law = g.met.C.Calendar.lawful c.args.calendar.now in
    let look = c.args.look.now in
    let end = end-word c.end-first.result look.first look.days c.end-first.ensures look.near look.short in
    let within = subst (λ (n : ℤ). InStretch (look_year c.year_of.result) n) end c.year_of.ensures.within in
    (year-joins list law look c.requires.look c.year_of.result c.year_of.ensures.look within).1

pub overflow_add-year : goal.overflow_add-year
overflow_add-year g c =
    let look = c.args.look.now in
    shift-fits look.year (own-field (g.C.Calendar.system c.args.calendar.now).list (g.met.C.Calendar.lawful c.args.calendar.now) look
    c.requires.look c.requires.nearby c.requires.near)

pub days_of_year-days-requires-clause-low : goal.days_of_year-days-requires-clause-low
days_of_year-days-requires-clause-low g c =
    let list = (g.C.Calendar.system c.args.calendar.now).list in
    let law = g.met.C.Calendar.lawful c.args.calendar.now in
    let look = c.args.look.now in
    let shifted = next-word look.year (own-field list law look c.requires.look c.requires.nearby c.requires.near) in
    (next-year-field list law look c.requires.look c.requires.nearby c.requires.near _ shifted).0

pub days_of_year-days-requires-clause-high : goal.days_of_year-days-requires-clause-high
days_of_year-days-requires-clause-high g c =
    let list = (g.C.Calendar.system c.args.calendar.now).list in
    let law = g.met.C.Calendar.lawful c.args.calendar.now in
    let look = c.args.look.now in
    let shifted = next-word look.year (own-field list law look c.requires.look c.requires.nearby c.requires.near) in
    (next-year-field list law look c.requires.look c.requires.nearby c.requires.near _ shifted).1

pub invariant_of-result : goal.invariant_of-result
invariant_of-result g c =
    let list = (g.C.Calendar.system c.args.calendar.now).list in
    let law = g.met.C.Calendar.lawful c.args.calendar.now in
    let look = c.args.look.now in
    let most = year_length-most list (to_z w32 (of_z w32 (to_z w32 (of_z w32 look.year) +ℤ pos 1))) law in
    record {
      short = subst (λ (n : ℕ). n ≤ 403) (sym c.days_of_year-days.ensures) most;
      near = behind-near c.end-first.result look.first look.days c.end-first.ensures look.short c.requires.near;
    }

pub returns-clause-look : goal.returns-clause-look
returns-clause-look g c =
    let list = (g.C.Calendar.system c.args.calendar.now).list in
    let law = g.met.C.Calendar.lawful c.args.calendar.now in
    let look = c.args.look.now in
    let shifted = next-word look.year (own-field list law look c.requires.look c.requires.nearby c.requires.near) in
    let end = end-word c.end-first.result look.first look.days c.end-first.ensures look.near look.short in
    record { is_start = end ∙ sym (next-starts list law look c.requires.look _ shifted); is_whole = c.days_of_year-days.ensures }

pub returns-clause-year : goal.returns-clause-year
returns-clause-year g c =
    let look = c.args.look.now in
    next-word look.year (own-field (g.C.Calendar.system c.args.calendar.now).list (g.met.C.Calendar.lawful c.args.calendar.now) look
    c.requires.look c.requires.nearby c.requires.near)

pub year_of-requires-clause-low : goal.year_of-requires-clause-low
year_of-requires-clause-low g c = (valid-test c.is_valid.result _ c.is_valid.ensures c.if-is_valid.true).0

pub year_of-requires-clause-high : goal.year_of-requires-clause-high
year_of-requires-clause-high g c = (valid-test c.is_valid.result _ c.is_valid.ensures c.if-is_valid.true).1
