use Rattle.std.proofs.Common.{◌++◌, ◌/◌, ◌%◌, ap, sym, ◌∙◌, append_assoc, arith}
use Rattle.itoa.proofs.Decimal.{decimal_pair, decimal_two}
use Rattle.reply_texts.specs.Texts.{two_digits}
use Rattle.reply_texts.proofs.text.push_four_digits.Goals as goal

pub returns-clause-items : goal.returns-clause-items
returns-clause-items c =
    let old = c.args.text.now.items in
    let n = c.args.number in
    let high = decimal_two (n / 100) (omega (arith, c.requires.least)) (omega (arith, c.requires.small)) in
    c.push_two_digits-2.ensures
    ∙ (ap (λ t. t ++ two_digits (n % 100)) c.push_two_digits.ensures
    ∙ (append_assoc old (two_digits (n / 100)) (two_digits (n % 100))
    ∙ ap (λ t. old ++ t) (sym (decimal_pair n (omega (arith, c.requires.least)) (omega (arith, c.requires.small)) ∙ ap (λ t. t ++ two_digits (n % 100)) high))))
