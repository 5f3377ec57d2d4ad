use Rattle.std.proofs.Common.{◌≡◌, FitsSigned, w32, to_z, of_z, sym, ap₂, ◌∙◌, rules, arith}
use Rattle.cal_days.proofs.Signed.{signed}
use Rattle.cal_tables.specs.Kinds.{kind_system, table_contents}
use Rattle.calspan_run.specs.Anniversaries.{anniversaries_in}
use Rattle.command_line.specs.CommandSaid.{anniversary_said}
use Rattle.calspan_run.specs.DayLines.{is_window}
use Rattle.calspan_run.proofs.WritingLemmas.{window_refused}
use Rattle.calspan_run.proofs.anniversary.days.AnniversaryWordsTableList.write.Goals as goal

pub returns-in_default-clause-listed : goal.returns-in_default-clause-listed
returns-in_default-clause-listed g c =
    let self = c.args.self.now in
    let fits : FitsSigned w32 self.first = search rules in
    let fits_last : FitsSigned w32 self.last = search rules in
    let first : to_z w32 (of_z w32 self.first) ≡ self.first = omega (arith, signed, fits) in
    let last : to_z w32 (of_z w32 self.last) ≡ self.last = omega (arith, signed, fits_last) in
    let t = table_contents c.args.tables.now in
    window_refused c.refuse_list.result _ _ (is_window self.first self.last) (anniversaries_in (kind_system t self.calendar) (kind_system t self.shown) (anniversary_said self))
    (sym (ap₂ is_window first last) ∙ c.in_default.ensures.none) c.refuse_list.ensures.listed
