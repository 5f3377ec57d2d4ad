use Rattle.cal_tables.specs.Kinds.{table_contents}
use Rattle.command_line.specs.ConvertSaid.{convert_said}
use Rattle.calspan_run.proofs.ConvertAnswerLemmas.{answered, answered_err, dated, end_short, rest_short}
use Rattle.calspan_run.proofs.convert.answers.answer_text.Goals as goal

pub returns-in_err-push-clause-answered : goal.returns-in_err-push-clause-answered
returns-in_err-push-clause-answered g c before so_far h =
    let a = convert_said c.args.conversion.now.words in
    let tables = table_contents c.args.conversion.now.tables in
    let at = c.tab_place-at.result in
    let is = c.tab_place-at.ensures.value in
    let p = c.push_date_answer-is_bad.ensures in
    answered_err c.from_residual.result before _ _ so_far _ c.from_residual.ensures.0
    (rest_short a tables c.args.text.now at is _ _ _ p before _ so_far h _ (c.in_err-push.ensures.text before _ (dated a tables c.args.text.now at is _ _ _ p before _ so_far h)))

pub returns-in_err-push-2-clause-answered : goal.returns-in_err-push-2-clause-answered
returns-in_err-push-2-clause-answered g c before so_far h =
    let a = convert_said c.args.conversion.now.words in
    let tables = table_contents c.args.conversion.now.tables in
    let at = c.tab_place-at.result in
    let is = c.tab_place-at.ensures.value in
    let p = c.push_date_answer-is_bad.ensures in
    answered_err c.from_residual-in_err-push-2.result before _ _ so_far _ c.from_residual-in_err-push-2.ensures.0
    (end_short a tables c.args.text.now at is _ _ _ p before _ so_far h _ (c.in_err-push-2.ensures.text before _ (c.in_ok-push.ensures.text before _ (dated a tables c.args.text.now at is _ _ _ p before _ so_far h))))

pub returns-clause-answered : goal.returns-clause-answered
returns-clause-answered g c before so_far h =
    let a = convert_said c.args.conversion.now.words in
    let tables = table_contents c.args.conversion.now.tables in
    let at = c.tab_place-at.result in
    let is = c.tab_place-at.ensures.value in
    let p = c.push_date_answer-is_bad.ensures in
    answered a tables c.args.text.now at is _ _ _ p before _ so_far h _ _ (c.in_ok-push-2.ensures.text before _ (c.in_ok-push.ensures.text before _ (dated a tables c.args.text.now at is _ _ _ p before _ so_far h)))
