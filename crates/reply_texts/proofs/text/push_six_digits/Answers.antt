use Rattle.std.proofs.Common.{◌++◌, ◌/◌, ◌%◌, ap, sym, ◌∙◌, append_assoc, arith}
use Rattle.std.specs.Fmt.{decimal}
use Rattle.itoa.proofs.Decimal.{decimal_pair}
use Rattle.reply_texts.specs.Texts.{two_digits}
use Rattle.reply_texts.proofs.text.push_six_digits.Goals as goal

pub returns-clause-items : goal.returns-clause-items
returns-clause-items c =
    let old = c.args.text.now.items in
    let n = c.args.number in
    c.push_two_digits.ensures
    ∙ (ap (λ t. t ++ two_digits (n % 100)) c.push_four_digits.ensures.items
    ∙ (append_assoc old (decimal (n / 100)) (two_digits (n % 100))
    ∙ ap (λ t. old ++ t) (sym (decimal_pair n (omega (arith, c.requires.least)) (omega (arith, c.requires.small))))))
