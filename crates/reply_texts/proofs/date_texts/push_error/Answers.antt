use Rattle.std.proofs.Common.{◌≡◌, ℕ, List, [], ◌∷◌, ◌++◌, append_assoc, arith}
use Rattle.std.proofs.lemmas.Grind.{common_steps}
use Rattle.reply_texts.proofs.date_texts.push_error.Goals as goal

-- the parts of a refusal, one after another
pushed : (old head side cause a b d e all : List ℕ) → a ≡ old ++ head → b ≡ a ++ side → d ≡ b ++ 32 ∷ [] → e ≡ d ++ cause → all ≡ e ++ 10 ∷ [] → all ≡ old ++ (head ++ side ++ 32 ∷ cause ++ 10 ∷ [])
pushed old head side cause a b d e all e1 e2 e3 e4 e5 = rw (e5, e4, e3, e2, e1) (simp append_assoc)

pub returns : goal.returns
returns c = pushed c.args.text.now.items _ _ _ _ _ _ _ c.push-2.new.self.items c.push_all.ensures c.push_side.ensures.items c.push.ensures.items c.push_cause.ensures.items c.push-2.ensures.items

pub push_side-requires : goal.push_side-requires
push_side-requires c = grind (arith, common_steps)

pub push-requires : goal.push-requires
push-requires c = grind (arith, common_steps)

pub push_cause-requires : goal.push_cause-requires
push_cause-requires c = grind (arith, common_steps)

pub push-requires-2 : goal.push-requires-2
push-requires-2 c = grind (arith, common_steps)
