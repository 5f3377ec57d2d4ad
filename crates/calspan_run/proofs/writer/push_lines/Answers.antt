use Rattle.std.proofs.Common.{◌++◌, arith, sym, ap, subst, ◌∙◌, rules}
use Rattle.std.proofs.lemmas.List.{append_assoc}
use Rattle.std.specs.Iterator.{Yields}
use Rattle.calspan_run.specs.TextSoFar.{TextSoFar, lines_text}
use Rattle.calspan_run.specs.Written.{WrotePrefix}
use Rattle.calspan_run.proofs.WriterLemmas.{not_both, text_more, short_more, pushed_err, lines_so_far, lines_end, lines_more}
use Rattle.calspan_run.proofs.writer.push_lines.Goals as goal

pub returns-in_err-make_room-clause-text : goal.returns-in_err-make_room-clause-text
returns-in_err-make_room-clause-text g c all before text yields h =
    let line = g.L.ItemLines.line_of c.args.lines.now in
    let xs = c.loop-item.yielded in
    let short = c.in_err-make_room.ensures.text before (text ++ lines_text line xs) (c.loop-item.invariant.text before text h) in
    let all_lines = lines_so_far g.I.Iterator.next_gives line c.args.items c.loop-item.item-iterator all xs yields (subst (λ i. Yields g.I.Iterator.next_gives i c.loop-item.yielded c.loop-item.item-iterator) c.into_iter-item-iterator.ensures.into_iter_gives c.loop-item.yielded_by) in
    pushed_err c.from_residual.result before _ _ (text ++ lines_text line all) c.from_residual.ensures.0
    (subst (λ t. WrotePrefix before (g.K.Sink.taken c.make_room.new.sink) t) (append_assoc text (lines_text line xs) _ ∙ ap (λ t. text ++ t) (sym all_lines)) (short_more before _ (text ++ lines_text line xs) _ short))

pub loop-item-preserved : goal.loop-item-preserved
loop-item-preserved g c = record {
  can = search rules;
  finite = search rules;
  text = λ before text h.
      let line = g.L.ItemLines.line_of c.args.lines.now in
      let xs = c.loop-item.yielded in
      let room = c.in_ok-make_room.ensures.text before (text ++ lines_text line xs) (c.loop-item.invariant.text before text h) in
      subst (λ t. TextSoFar before (g.K.Sink.taken c.make_room.new.sink) c.push_line.new.text.items t) (sym (lines_more line text xs c.in-Some.item))
      (text_more before _ c.make_room.new.pending.items (line c.in-Some.item) c.push_line.new.text.items (text ++ lines_text line xs) room c.push_line.ensures);
  later = omega (arith, c.loop-item.invariant.later, c.in_ok-make_room.ensures.cause.later);
}

pub returns-clause-text : goal.returns-clause-text
returns-clause-text g c all before text yields h =
    let line = g.L.ItemLines.line_of c.args.lines.now in
    subst (λ t. TextSoFar before (g.K.Sink.taken c.loop-item.sink) c.loop-item.pending.items (text ++ t))
    (lines_end g.I.Iterator.next_gives line c.args.items c.loop-item.item-iterator c.next.new.self all c.loop-item.yielded c.next.result yields (subst (λ i. Yields g.I.Iterator.next_gives i c.loop-item.yielded c.loop-item.item-iterator) c.into_iter-item-iterator.ensures.into_iter_gives c.loop-item.yielded_by) c.in-None.is c.next.ensures.steps)
    (c.loop-item.invariant.text before text h)

pub returns-in_err-make_room-clause-given : goal.returns-in_err-make_room-clause-given
returns-in_err-make_room-clause-given g c =
    let line = g.L.ItemLines.line_of c.args.lines.now in
    let xs = c.loop-item.yielded in
    let yields = subst (λ i. Yields g.I.Iterator.next_gives i xs c.loop-item.item-iterator) c.into_iter-item-iterator.ensures.into_iter_gives c.loop-item.yielded_by in (
      xs,
      (c.loop-item.item-iterator, yields, λ ok. not_both c.from_residual.result ok c.from_residual.ensures.0),
      λ before text h.
          pushed_err c.from_residual.result before _ _ (text ++ lines_text line xs) c.from_residual.ensures.0
          (c.in_err-make_room.ensures.text before (text ++ lines_text line xs) (c.loop-item.invariant.text before text h)),
    )

pub returns-clause-given : goal.returns-clause-given
returns-clause-given g c =
    let xs = c.loop-item.yielded in
    let yields = subst (λ i. Yields g.I.Iterator.next_gives i xs c.loop-item.item-iterator) c.into_iter-item-iterator.ensures.into_iter_gives c.loop-item.yielded_by in
    let last = subst (λ r. g.I.Iterator.next_gives c.loop-item.item-iterator r c.next.new.self) c.in-None.is c.next.ensures.steps in
    (xs, (c.loop-item.item-iterator, yields, λ ok. (c.next.new.self, last)), λ before text h. c.loop-item.invariant.text before text h)
