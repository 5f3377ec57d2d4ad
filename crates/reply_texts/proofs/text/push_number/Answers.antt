use Rattle.std.proofs.Common.{◌++◌, ◌/◌, ◌%◌, ap, sym, ◌∙◌, append_assoc, arith}
use Rattle.std.specs.Fmt.{decimal}
use Rattle.itoa.proofs.Decimal.{decimal_pair}
use Rattle.reply_texts.specs.Texts.{two_digits}
use Rattle.reply_texts.proofs.text.push_number.Goals as goal

pub returns-then-number-lt1000000-clause-items : goal.returns-then-number-lt1000000-clause-items
returns-then-number-lt1000000-clause-items c =
    let old = c.args.text.now.items in
    let n = c.args.number in
    c.push_two_digits.ensures
    ∙ (ap (λ t. t ++ two_digits (n % 100)) c.push_below_10000-then-number-lt1000000.ensures.items
    ∙ (append_assoc old (decimal (n / 100)) (two_digits (n % 100)) ∙ ap (λ t. old ++ t) (sym (decimal_pair n (omega (arith, c.if-number-lt10000.false)) (omega (arith, c.if-number-lt1000000.true))))))
