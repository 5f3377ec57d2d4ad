use Rattle.std.proofs.Common.{◌≡◌, ◌++◌, ℕ, List, Err, FitsSigned, w32, to_z, of_z, sym, ap, ap₂, subst, ◌∙◌, rules, arith}
use Rattle.cal_days.proofs.Signed.{signed}
use Rattle.cal_tables.specs.Kinds.{table_contents}
use Rattle.command_line.specs.RruleSaid.{rrule_said}
use Rattle.calspan_run.specs.DayLines.{IsListEnd, is_window}
use Rattle.calspan_run.specs.Endings.{EndsList}
use Rattle.calspan_run.specs.RuleErrors.{rule_error_text}
use Rattle.near_years.proofs.KindNear.{kind_near}
use Rattle.calspan_run.proofs.RuleListLemmas.{rule_window_refused, rule_refused, rule_listed}
use Rattle.calspan_run.proofs.rrule.listing.RruleWordsTableList.write.Goals as goal

pub returns-in_default-clause-listed : goal.returns-in_default-clause-listed
returns-in_default-clause-listed g c =
    let header = c.args.self.now.header in
    let fits : FitsSigned w32 header.first = search rules in
    let fits_last : FitsSigned w32 header.last = search rules in
    let first : to_z w32 (of_z w32 header.first) ≡ header.first = omega (arith, signed, fits) in
    let last : to_z w32 (of_z w32 header.last) ≡ header.last = omega (arith, signed, fits_last) in
    rule_window_refused c.refuse_list.result _ _ (rrule_said c.args.self.now) (table_contents c.args.tables.now)
    (sym (ap₂ is_window first last) ∙ c.in_default.ensures.none) c.refuse_list.ensures.listed

pub returns-in-Err-clause-listed : goal.returns-in-Err-clause-listed
returns-in-Err-clause-listed g c =
    let header = c.args.self.now.header in
    let fits : FitsSigned w32 header.first = search rules in
    let fits_last : FitsSigned w32 header.last = search rules in
    let first : to_z w32 (of_z w32 header.first) ≡ header.first = omega (arith, signed, fits) in
    let last : to_z w32 (of_z w32 header.last) ≡ header.last = omega (arith, signed, fits_last) in
    let error = c.in-Err.error in
    let same : c.deref.result.now ≡ rule_error_text error = c.deref.ensures.0 ∙ (c.push_rule_error.ensures.items ∙ ap (λ t. t ++ rule_error_text error) c.new-why.ensures) in
    rule_refused c.refuse_list-in-Err.result _ _ (rrule_said c.args.self.now) (table_contents c.args.tables.now) error
    (sym (ap₂ is_window first last) ∙ c.in-Some.ensures.none.0) c.in-Err.ensures.refused
    (subst (λ (t : List ℕ). EndsList c.refuse_list-in-Err.result (g.K.Sink.taken c.args.sink.now) (g.K.Sink.taken c.refuse_list-in-Err.new.sink) (IsListEnd (Err t))) same c.refuse_list-in-Err.ensures.listed)

pub write_in_kind-requires : goal.write_in_kind-requires
write_in_kind-requires g c = kind_near c.args.tables.now c.args.self.now.header.calendar

pub returns-clause-listed : goal.returns-clause-listed
returns-clause-listed g c =
    let header = c.args.self.now.header in
    let fits : FitsSigned w32 header.first = search rules in
    let fits_last : FitsSigned w32 header.last = search rules in
    let first : to_z w32 (of_z w32 header.first) ≡ header.first = omega (arith, signed, fits) in
    let last : to_z w32 (of_z w32 header.last) ≡ header.last = omega (arith, signed, fits_last) in
    rule_listed c.write_in_kind.result _ _ (rrule_said c.args.self.now) (table_contents c.args.tables.now) c.in-Ok.rule
    (sym (ap₂ is_window first last) ∙ c.in-Some.ensures.none.0) c.in-Ok.ensures.read c.write_in_kind.ensures.listed
