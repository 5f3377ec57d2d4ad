use Rattle.std.proofs.Common.{sym}
use Rattle.std.proofs.lemmas.List.{take_rest}
use Rattle.cal_types.proofs.DurationLemmas.{all-digits, ends-first, parts-behind}
use Rattle.cal_types.proofs.duration_text.first_part.Goals as goal

pub returns-in-Some-clause-parts : goal.returns-in-Some-clause-parts
returns-in-Some-clause-parts c = rw take_rest (ends-first _ _ (sym c.in-Some.ensures.value)).first

pub returns-in-Some-clause-digits : goal.returns-in-Some-clause-digits
returns-in-Some-clause-digits c = (ends-first _ _ (sym c.in-Some.ensures.value)).digits

pub returns-in-None-clause-parts : goal.returns-in-None-clause-parts
returns-in-None-clause-parts c =
    rw take_rest (parts-behind c.args.text.now c.requires (all-digits c.args.text.now (sym c.in-None.ensures.value)))

pub returns-in-None-clause-digits : goal.returns-in-None-clause-digits
returns-in-None-clause-digits c = all-digits c.args.text.now (sym c.in-None.ensures.value)
