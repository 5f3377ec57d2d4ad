use Rattle.std.proofs.Common.{◌∙◌, ap, sym, arith}
use Rattle.std.proofs.lemmas.Grind.{common_steps}
use Rattle.cal_kinds.specs.NamePlaces.{named_at}
use Rattle.cal_kinds.proofs.NamePlaceLemmas.{kind_in_place, none_in_place}
use Rattle.cal_kinds.proofs.any_calendar_kind.AnyCalendarKind.from_program_name.Goals as goal

pub returns-in-Some : goal.returns-in-Some
returns-in-Some c =
    c.kind_if.ensures
    ∙ kind_in_place c.args.bytes.now (c.in-Some.name.now, c.in-Some.kind) (sym (c.in-Some.ensures ∙ ap named_at c.place_of.ensures))

pub returns-in-None : goal.returns-in-None
returns-in-None c = none_in_place c.args.bytes.now (sym (c.in-None.ensures ∙ ap named_at c.place_of.ensures))

pub returns-then-is_empty : goal.returns-then-is_empty
returns-then-is_empty c = grind (arith, common_steps)
