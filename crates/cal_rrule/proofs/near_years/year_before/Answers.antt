use Rattle.std.proofs.Common.{◌∙◌, ◌≤◌, ℕ, ℤ, pos, ◌-ℤ◌, sym, subst, to_z, of_z, w32}
use Rattle.cal_types.proofs.ListLemmas.{year_length-most}
use Rattle.cal_rrule.specs.Looks.{look_year}
use Rattle.cal_rrule.specs.Stretches.{InStretch}
use Rattle.cal_rrule.proofs.NearYearLemmas.{own-field, last-year-field, last-stops, year-meets}
use Rattle.cal_rrule.proofs.WordLemmas.{back-end, back-fits, back-near, back-word, before-starts, before-word, last-word, valid-test}
use Rattle.cal_rrule.proofs.near_years.year_before.Goals as goal

pub returns-then-is_valid-clause-year : goal.returns-then-is_valid-clause-year
returns-then-is_valid-clause-year g c =
    let list = (g.C.Calendar.system c.args.calendar.now).list in
    let law = g.met.C.Calendar.lawful c.args.calendar.now in
    let look = c.args.look.now in
    let within = subst (λ (n : ℤ). InStretch (look_year c.year_of.result) n) (before-word look.first look.near) c.year_of.ensures.within in
    (year-meets list law look c.requires.look c.year_of.result c.year_of.ensures.look within).0

pub returns-then-is_valid-clause-joins : goal.returns-then-is_valid-clause-joins
returns-then-is_valid-clause-joins g c =
    let list = (g.C.Calendar.system c.args.calendar.now).list in
    let law = g.met.C.Calendar.lawful c.args.calendar.now in
    let look = c.args.look.now in
    let within = subst (λ (n : ℤ). InStretch (look_year c.year_of.result) n) (before-word look.first look.near) c.year_of.ensures.within in
    (year-meets list law look c.requires.look c.year_of.result c.year_of.ensures.look within).1

pub overflow_sub-year : goal.overflow_sub-year
overflow_sub-year g c =
    let look = c.args.look.now in
    back-fits look.year (own-field (g.C.Calendar.system c.args.calendar.now).list (g.met.C.Calendar.lawful c.args.calendar.now) look
    c.requires.look c.requires.nearby c.requires.near)

pub days_of_year-days-requires-clause-low : goal.days_of_year-days-requires-clause-low
days_of_year-days-requires-clause-low g c =
    let list = (g.C.Calendar.system c.args.calendar.now).list in
    let law = g.met.C.Calendar.lawful c.args.calendar.now in
    let look = c.args.look.now in
    let shifted = last-word look.year (own-field list law look c.requires.look c.requires.nearby c.requires.near) in
    (last-year-field list law look c.requires.look c.requires.nearby c.requires.near _ shifted).0

pub days_of_year-days-requires-clause-high : goal.days_of_year-days-requires-clause-high
days_of_year-days-requires-clause-high g c =
    let list = (g.C.Calendar.system c.args.calendar.now).list in
    let law = g.met.C.Calendar.lawful c.args.calendar.now in
    let look = c.args.look.now in
    let shifted = last-word look.year (own-field list law look c.requires.look c.requires.nearby c.requires.near) in
    (last-year-field list law look c.requires.look c.requires.nearby c.requires.near _ shifted).1

pub invariant_of-result : goal.invariant_of-result
invariant_of-result g c =
    let list = (g.C.Calendar.system c.args.calendar.now).list in
    let law = g.met.C.Calendar.lawful c.args.calendar.now in
    let look = c.args.look.now in
    let most = year_length-most list (to_z w32 (of_z w32 (to_z w32 (of_z w32 look.year) -ℤ pos 1))) law in
    let short = subst (λ (n : ℕ). n ≤ 403) (sym c.days_of_year-days.ensures) most in
    record { short = short; near = back-near look.first c.from.result c.days_of_year-days.result c.from.ensures short c.requires.near }

pub returns-clause-look : goal.returns-clause-look
returns-clause-look g c =
    let list = (g.C.Calendar.system c.args.calendar.now).list in
    let law = g.met.C.Calendar.lawful c.args.calendar.now in
    let look = c.args.look.now in
    let shifted = last-word look.year (own-field list law look c.requires.look c.requires.nearby c.requires.near) in
    let most = year_length-most list (to_z w32 (of_z w32 (to_z w32 (of_z w32 look.year) -ℤ pos 1))) law in
    let short = subst (λ (n : ℕ). n ≤ 403) (sym c.days_of_year-days.ensures) most in
    let stops = last-stops list law look c.requires.look _ shifted in
    record {
      is_start = back-word look.first c.from.result c.days_of_year-days.result c.from.ensures short c.requires.near
          ∙ before-starts look.first _ c.days_of_year-days.result _ stops c.days_of_year-days.ensures;
      is_whole = c.days_of_year-days.ensures;
    }

pub returns-clause-year : goal.returns-clause-year
returns-clause-year g c =
    let look = c.args.look.now in
    last-word look.year (own-field (g.C.Calendar.system c.args.calendar.now).list (g.met.C.Calendar.lawful c.args.calendar.now) look
    c.requires.look c.requires.nearby c.requires.near)

pub year_of-requires-clause-low : goal.year_of-requires-clause-low
year_of-requires-clause-low g c = (valid-test c.is_valid.result _ c.is_valid.ensures c.if-is_valid.true).0

pub year_of-requires-clause-high : goal.year_of-requires-clause-high
year_of-requires-clause-high g c = (valid-test c.is_valid.result _ c.is_valid.ensures c.if-is_valid.true).1

pub returns-clause-joins : goal.returns-clause-joins
returns-clause-joins g c =
    let list = (g.C.Calendar.system c.args.calendar.now).list in
    let law = g.met.C.Calendar.lawful c.args.calendar.now in
    let look = c.args.look.now in
    let most = year_length-most list (to_z w32 (of_z w32 (to_z w32 (of_z w32 look.year) -ℤ pos 1))) law in
    let short = subst (λ (n : ℕ). n ≤ 403) (sym c.days_of_year-days.ensures) most in
    back-end _ look.first c.days_of_year-days.result
    (back-word look.first c.from.result c.days_of_year-days.result c.from.ensures short c.requires.near)
