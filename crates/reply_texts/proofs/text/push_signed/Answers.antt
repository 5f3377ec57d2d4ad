use Rattle.std.proofs.Common.{◌≡◌, ◌++◌, ◌∷◌, [], ℤ, pos, negsuc, true, int_le, unsigned_abs, refl, ap, ◌∙◌, append_assoc, to_z-of_z}
use Rattle.std.specs.Fmt.{decimal, signed_decimal}
use Rattle.itoa.proofs.Decimal.{minus_first}
use Rattle.reply_texts.proofs.text.push_signed.Goals as goal

plain : (z : ℤ) → int_le (pos 0) z ≡ true → decimal (unsigned_abs z) ≡ signed_decimal z
plain (pos n) e = refl
plain (negsuc n) e = cc

pub returns-then-number-ge0-clause-items : goal.returns-then-number-ge0-clause-items
returns-then-number-ge0-clause-items c =
    let old = c.args.text.now.items in
    let back = to_z-of_z c.ranges.number in
    c.push_number.ensures.items
    ∙ (ap (λ n. old ++ decimal n) (c.unsigned_abs-size.ensures.value ∙ ap unsigned_abs back) ∙ ap (λ t. old ++ t) (plain c.args.number (rw back at c.if-number-ge0.true)))

pub returns-else-number-ge0-clause-items : goal.returns-else-number-ge0-clause-items
returns-else-number-ge0-clause-items c =
    let old = c.args.text.now.items in
    let back = to_z-of_z c.ranges.number in
    let size = c.unsigned_abs-size.ensures.value ∙ ap unsigned_abs back in
    c.push_number-else-number-ge0.ensures.items
    ∙ (ap (λ t. t ++ decimal c.unsigned_abs-size.result) c.push.ensures.items
    ∙ (append_assoc old (45 ∷ []) (decimal c.unsigned_abs-size.result)
    ∙ (ap (λ n. old ++ 45 ∷ decimal n) size ∙ ap (λ t. old ++ t) (minus_first c.args.number (rw back at c.if-number-ge0.false)))))
