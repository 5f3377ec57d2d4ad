use Rattle.std.proofs.Common.{◌≡◌, ℤ, pos, ◌+ℤ◌, ◌<ℤ◌, ◌≤ℤ◌, to_z, of_z, w32, true, false, inl, inr, sym, subst, ◌∙◌, arith}
use Rattle.std.proofs.lemmas.Int.{by_lt_z}
use Rattle.icu_calendar.specs.CalendarList.{day_number}
use Rattle.icu_calendar.specs.GregorianSystem.{gregorian_date, gregorian_system}
use Rattle.icu_calendar.proofs.Signed.{signed}
use Rattle.calendar_uses.specs.Feasts.{IsEasterOf}
use Rattle.calendar_uses.proofs.FeastLemmas.{named-year, small-year}
use Rattle.calendar_uses.proofs.feasts.next_easter.Goals as goal

pub overflow_add-year : goal.overflow_add-year
overflow_add-year c =
    let t = gregorian_date c.args.date.now.inner in
    let year = named-year c.year.result t c.extended_year-year.result c.extended_year-year.ensures c.year.ensures in
    let small = small-year c.args.date.now.inner c.args.date.now.belongs in
    omega (arith, signed, year, small)

pub returns-then-is_earlier : goal.returns-then-is_earlier
returns-then-is_earlier c =
    let t = gregorian_date c.args.date.now.inner in
    let easter = gregorian_date c.easter_gregorian-easter.result.inner in
    let year = named-year c.year.result t c.extended_year-year.result c.extended_year-year.ensures c.year.ensures in
    let small = small-year c.args.date.now.inner c.args.date.now.belongs in
    let same : to_z w32 (of_z w32 c.extended_year-year.result) ≡ t.year = omega (arith, signed, year, small) in
    inl (subst (λ (y : ℤ). IsEasterOf y easter) same c.easter_gregorian-easter.ensures, c.is_earlier.ensures.0 c.if-is_earlier.true)

pub returns-else-is_earlier : goal.returns-else-is_earlier
returns-else-is_earlier c =
    let t = gregorian_date c.args.date.now.inner in
    let easter = gregorian_date c.easter_gregorian-easter.result.inner in
    let year = named-year c.year.result t c.extended_year-year.result c.extended_year-year.ensures c.year.ensures in
    let small = small-year c.args.date.now.inner c.args.date.now.belongs in
    let same : to_z w32 (of_z w32 c.extended_year-year.result) ≡ t.year = omega (arith, signed, year, small) in
    let next : to_z w32 (of_z w32 (to_z w32 (of_z w32 c.extended_year-year.result) +ℤ pos 1)) ≡ t.year +ℤ pos 1 = omega (arith, signed, same, small) in
    let today = day_number gregorian_system.list t in
    let feast = day_number gregorian_system.list easter in
    let passed : feast ≤ℤ today = by_lt_z {P = feast ≤ℤ today} today feast
    (λ less. let both : false ≡ true = sym c.if-is_earlier.false ∙ c.is_earlier.ensures.1 less in absurd cc)
    (λ no. no) in
    inr (subst (λ (y : ℤ). IsEasterOf y (gregorian_date c.easter_gregorian.result.inner)) next c.easter_gregorian.ensures, (easter, (subst (λ (y : ℤ). IsEasterOf y easter) same c.easter_gregorian-easter.ensures, passed)))
