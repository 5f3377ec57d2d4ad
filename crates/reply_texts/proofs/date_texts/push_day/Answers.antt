use Rattle.std.proofs.Common.{◌≡◌, ℕ, List, [], ◌∷◌, ◌++◌, append_assoc}
use Rattle.reply_texts.proofs.date_texts.push_day.Goals as goal

-- both dates, one after another
pushed : (old first second a b all : List ℕ) → a ≡ old ++ first → b ≡ a ++ 32 ∷ [] → all ≡ b ++ second → all ≡ old ++ (first ++ 32 ∷ second)
pushed old first second a b all e1 e2 e3 = rw (e3, e2, e1) (simp append_assoc)

pub returns-clause-items : goal.returns-clause-items
returns-clause-items c s other t u first second =
    pushed c.args.text.now.items _ _ _ _ _ (c.push_date.ensures.items s t first) c.push.ensures.items (c.push_date-2.ensures.items other u second)
