use Rattle.std.proofs.Common.{◌≡◌, ℕ, List, [], ◌∷◌, ◌++◌, subst, ◌∙◌, append_assoc, arith}
use Rattle.std.proofs.lemmas.Grind.{common_steps}
use Rattle.cal_types.specs.CalendarList.{IsOn}
use Rattle.cal_tables.specs.Kinds.{kind_system, table_contents}
use Rattle.calspan_run.proofs.span.replies.push_span.Goals as goal

-- the parts of a reply, one after another
pushed : (old head x y z a b d e f g all : List ℕ) → a ≡ old ++ head → b ≡ a ++ x → d ≡ b ++ 32 ∷ [] → e ≡ d ++ y → f ≡ e ++ 32 ∷ [] → g ≡ f ++ z → all ≡ g ++ 10 ∷ []
    → all ≡ old ++ (head ++ x ++ 32 ∷ y ++ 32 ∷ z ++ 10 ∷ [])
pushed old head x y z a b d e f g all e1 e2 e3 e4 e5 e6 e7 = rw (e7, e6, e5, e4, e3, e2, e1) (simp append_assoc)

pub push-requires : goal.push-requires
push-requires c = grind (arith, common_steps)

pub push-requires-2 : goal.push-requires-2
push-requires-2 c = grind (arith, common_steps)

pub push-requires-3 : goal.push-requires-3
push-requires-3 c = grind (arith, common_steps)

pub returns : goal.returns
returns c s first second options unit named =
    let other = kind_system (table_contents c.args.tables.now) c.args.shown in
    let from = c.show_days.ensures.from in
    let to = c.show_days.ensures.to in
    record {
      from_shown = from.date;
      to_shown = to.date;
      duration = c.args.parts.now.duration;
      from_on = subst (λ n. IsOn other.list n from.date) (c.unnamed.ensures ∙ named.from_parts.rata_die) from.on;
      to_on = subst (λ n. IsOn other.list n to.date) (c.unnamed-2.ensures ∙ named.to_parts.rata_die) to.on;
      until = named.until;
      says = pushed c.args.text.now.items _ _ _ _ _ _ _ _ _ _ c.push-3.new.self.items c.push_all.ensures
          (c.push_day.ensures.items s other named.from_date from.date named.from_parts from.parts) c.push.ensures.items
          (c.push_day-2.ensures.items s other named.to_date to.date named.to_parts to.parts) c.push-2.ensures.items
          c.push_duration.ensures.items c.push-3.ensures.items;
    }

pub push_duration-requires : goal.push_duration-requires
push_duration-requires c = grind (arith, common_steps)

pub push_day-requires-2-clause-room : goal.push_day-requires-2-clause-room
push_day-requires-2-clause-room c = grind (arith, common_steps)
