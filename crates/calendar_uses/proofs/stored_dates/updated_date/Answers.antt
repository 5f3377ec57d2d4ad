use Rattle.std.proofs.Common.{◌≡◌, ◌∙◌, ℤ, Bool, false, List, refl, ap, sym, subst}
use Rattle.icu_calendar.specs.HijriLengthening.{IsNotAdded, Lengthens}
use Rattle.icu_calendar.specs.HijriSystem.{kept_date}
use Rattle.icu_calendar.specs.declared.HijriRow.{HijriRow}
use Rattle.icu_calendar.specs.declared.HijriTable.{HijriTable}
use Rattle.calendar_uses.proofs.stored_dates.updated_date.Goals as goal

-- what is said of the rows of two calendars, over a table's rows and those of a text
kept : (stored old shown longer : List HijriRow) (year : ℤ) (moved : Bool) → stored ≡ old → shown ≡ longer → Lengthens old longer → IsNotAdded old longer year
    → (Lengthens stored shown → IsNotAdded stored shown year → moved ≡ false) → moved ≡ false
kept stored old shown longer year moved same made lengthens free law =
    law (subst (λ (rows : List HijriRow). Lengthens rows shown) (sym same) (subst (Lengthens old) (sym made) lengthens))
    (subst (λ (rows : List HijriRow). IsNotAdded rows shown year) (sym same) (subst (λ (rows : List HijriRow). IsNotAdded old rows year) (sym made) free))

pub returns-in-Ok-clause-stays : goal.returns-in-Ok-clause-stays
returns-in-Ok-clause-stays c same free =
    let old = c.args.table.now.rows.now in
    let longer = c.args.rows.now.hijri.items in
    let lengthens : Lengthens old longer = subst (Lengthens old) c.umm_al_qura.ensures.rows (c.in-Ok.ensures.exact.0 refl) in
    let made = ap (λ (table : HijriTable). table.rows.now) c.new_umm_al_qura.ensures ∙ (c.in-Ok.ensures.first ∙ c.umm_al_qura.ensures.rows) in
    kept c.args.stored.now.calendar.0.table.rows.now old _ longer (kept_date c.args.stored.now.inner.0.parts).year c.hijri_date_kept.result.moved
    same made lengthens free c.hijri_date_kept.ensures.stays

-- the date has the calendar of the longer table
pub returns-in-Ok-clause-longer : goal.returns-in-Ok-clause-longer
returns-in-Ok-clause-longer c =
    ap (λ calendar. calendar.0.table.rows.now) c.hijri_date_kept.ensures.calendar
    ∙ (ap (λ (table : HijriTable). table.rows.now) c.new_umm_al_qura.ensures ∙ (c.in-Ok.ensures.first ∙ c.umm_al_qura.ensures.rows))
