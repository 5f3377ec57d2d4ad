use Rattle.std.proofs.Common.{◌≡◌, ℕ, Bool, true, false, List, [], ◌∷◌, ◌++◌, if◌then◌else◌, refl, sym, ap, ◌∙◌, append_assoc}
use Rattle.reply_texts.specs.DateTexts.{parts_text, nonzero_text}
use Rattle.reply_texts.proofs.date_texts.push_duration.Goals as goal

-- the text of a duration that has parts
nonzero : (negative : Bool) (parts : List ℕ) → (parts ≡ [] → ⊥) → nonzero_text negative parts ≡ (if negative then 45 ∷ [] else []) ++ 80 ∷ parts
nonzero negative [] some = absurd (some refl)
nonzero negative (first ∷ more) some = refl

-- the sign, the letter and the parts, one after another
pushed : (old sign parts a b all : List ℕ) → a ≡ old ++ sign → b ≡ a ++ 80 ∷ [] → all ≡ b ++ parts → all ≡ old ++ (sign ++ 80 ∷ parts)
pushed old sign parts a b all p q r = rw (r, q, p) (simp append_assoc)

pub returns-clause-items : goal.returns-clause-items
returns-clause-items c =
    let d = c.args.duration.now in
    let some : parts_text d ≡ [] → ⊥ = λ none. no (sym c.if-is_zero.false ∙ c.is_zero.ensures.1 none) in
    pushed c.args.text.now.items (if d.is_negative then 45 ∷ [] else []) (parts_text d) c.push_sign.new.text.items c.push.new.self.items c.push_parts.new.text.items c.push_sign.ensures.items c.push.ensures.items c.push_parts.ensures.items
    ∙ ap (λ t. c.args.text.now.items ++ t) (sym (nonzero d.is_negative (parts_text d) some)) where
      no : ◌≡◌ {A = Bool} false true → ⊥
      no e = cc
