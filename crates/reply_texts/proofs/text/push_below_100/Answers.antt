use Rattle.std.proofs.Common.{◌++◌, ap, sym, ◌∙◌}
use Rattle.std.proofs.lemmas.Fmt.{decimal_digit}
use Rattle.itoa.proofs.Decimal.{decimal_two}
use Rattle.reply_texts.proofs.text.push_below_100.Goals as goal

pub returns-then-number-lt10-clause-items : goal.returns-then-number-lt10-clause-items
returns-then-number-lt10-clause-items c =
    c.push.ensures.items ∙ ap (λ t. c.args.text.now.items ++ t) (sym (decimal_digit c.args.number c.if-number-lt10.true))

pub returns-else-number-lt10-clause-items : goal.returns-else-number-lt10-clause-items
returns-else-number-lt10-clause-items c =
    c.push_two_digits.ensures ∙ ap (λ t. c.args.text.now.items ++ t) (sym (decimal_two c.args.number c.if-number-lt10.false c.requires.small))
