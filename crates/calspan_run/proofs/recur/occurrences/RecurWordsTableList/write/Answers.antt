use Rattle.std.proofs.Common.{◌≡◌, FitsSigned, w32, to_z, of_z, sym, ap₂, ◌∙◌, rules, arith}
use Rattle.cal_days.proofs.Signed.{signed}
use Rattle.cal_tables.specs.Kinds.{table_contents}
use Rattle.command_line.specs.CommandSaid.{recur_said}
use Rattle.calspan_run.specs.DayLines.{is_window}
use Rattle.calspan_run.proofs.WritingLemmas.{recur_window_refused, every_refused, rule_listed}
use Rattle.calspan_run.proofs.recur.occurrences.RecurWordsTableList.write.Goals as goal

pub returns-in_default-clause-listed : goal.returns-in_default-clause-listed
returns-in_default-clause-listed g c =
    let header = c.args.self.now.header in
    let fits : FitsSigned w32 header.first = search rules in
    let fits_last : FitsSigned w32 header.last = search rules in
    let first : to_z w32 (of_z w32 header.first) ≡ header.first = omega (arith, signed, fits) in
    let last : to_z w32 (of_z w32 header.last) ≡ header.last = omega (arith, signed, fits_last) in
    recur_window_refused c.refuse_list.result _ _ (recur_said c.args.self.now) (table_contents c.args.tables.now)
    (sym (ap₂ is_window first last) ∙ c.in_default.ensures.none) c.refuse_list.ensures.listed

pub returns-in_default-try_new-clause-listed : goal.returns-in_default-try_new-clause-listed
returns-in_default-try_new-clause-listed g c =
    let header = c.args.self.now.header in
    let fits : FitsSigned w32 header.first = search rules in
    let fits_last : FitsSigned w32 header.last = search rules in
    let first : to_z w32 (of_z w32 header.first) ≡ header.first = omega (arith, signed, fits) in
    let last : to_z w32 (of_z w32 header.last) ≡ header.last = omega (arith, signed, fits_last) in
    every_refused c.refuse_list-in_default-try_new.result _ _ (recur_said c.args.self.now) (table_contents c.args.tables.now)
    (sym (ap₂ is_window first last) ∙ c.in-Some.ensures.none.0) c.in_default-try_new.ensures c.refuse_list-in_default-try_new.ensures.listed

pub returns-clause-listed : goal.returns-clause-listed
returns-clause-listed g c =
    let header = c.args.self.now.header in
    let fits : FitsSigned w32 header.first = search rules in
    let fits_last : FitsSigned w32 header.last = search rules in
    let first : to_z w32 (of_z w32 header.first) ≡ header.first = omega (arith, signed, fits) in
    let last : to_z w32 (of_z w32 header.last) ≡ header.last = omega (arith, signed, fits_last) in
    rule_listed c.write_in_kind.result _ _ (recur_said c.args.self.now) (table_contents c.args.tables.now) c.in-Some-try_new.rule
    (sym (ap₂ is_window first last) ∙ c.in-Some.ensures.none.0) c.in-Some-try_new.ensures c.write_in_kind.ensures.listed
