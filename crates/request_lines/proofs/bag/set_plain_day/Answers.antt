use Rattle.std.proofs.Common.{sym, ◌∙◌}
use Rattle.cal_types.specs.Bag.{bag_of}
use Rattle.request_lines.specs.WordsLeft.{words_left}
use Rattle.request_lines.proofs.PlainDateLemmas.{day_goes_on, not_set-plain}
use Rattle.request_lines.proofs.bag.set_plain_day.Goals as goal

pub returns-in-Some : goal.returns-in-Some
returns-in-Some c =
    day_goes_on (bag_of c.args.fields.now) (words_left c.args.words.now) (words_left c.take_plain_day.new.self) c.in-Some.day
    (not_set-plain c.args.fields.now.day (sym c.is_some.ensures ∙ c.if-is_some.false)) c.in-Some.ensures
