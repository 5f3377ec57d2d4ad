use Rattle.std.proofs.Common.{◌≡◌, ℕ, List, [], ◌∷◌, ◌++◌, ap, ◌∙◌, append_assoc, arith}
use Rattle.itoa.proofs.Decimal.{PAIRS_at}
use Rattle.reply_texts.specs.Texts.{two_digits}
use Rattle.reply_texts.proofs.text.push_two_digits.Goals as goal

pushed : (old a b : List ℕ) (x y z w : ℕ) → a ≡ old ++ x ∷ [] → b ≡ a ++ y ∷ [] → x ≡ z → y ≡ w → b ≡ old ++ z ∷ w ∷ []
pushed old a b x y z w p q r s = rw (q, p, r, s) (append_assoc old (z ∷ []) (w ∷ []))

pub returns : goal.returns
returns c =
    let n = c.from-at.ensures in
    let pairs = PAIRS_at c.from-at.result (omega (arith, n, c.requires.small)) in
    pushed c.args.text.now.items c.push.new.self.items c.push-2.new.self.items _ _ _ _ c.push.ensures.items c.push-2.ensures.items pairs.0 pairs.1
    ∙ ap (λ (m : ℕ). c.args.text.now.items ++ two_digits m) n
