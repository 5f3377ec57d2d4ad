use Rattle.std.proofs.Common.{◌∙◌, sym}
use Rattle.cal_rrule.specs.Blocks.{start_of}
use Rattle.cal_rrule.proofs.WeeksBlockLemmas.{about-marks}
use Rattle.cal_rrule.proofs.WordLemmas.{about-day, about-own, about-before, about-behind}
use Rattle.cal_rrule.proofs.weeks_block.named_about.Goals as goal

pub returns : goal.returns
returns g c = λ t is.
    let list = (g.C.Calendar.system c.args.calendar.now).list in
    let span = c.args.span.now in
    about-marks list c.args.asked.now.rule t c.args.year.now.year c.year_before-before.result.year c.year_after-behind.result.year
    span.from span.to c.named_in_year-days.result c.named_in_year.result c.named_in_year-2.result
    c.insert_all.new.self c.insert_all-2.new.self c.year_before-before.ensures.year c.year_after-behind.ensures.year span.few
    (c.named_in_year-days.ensures t is) (c.named_in_year.ensures t is) (c.named_in_year-2.ensures t is)
    c.insert_all.ensures.first c.insert_all-2.ensures.first c.insert_all.ensures.days c.insert_all-2.ensures.days

pub insert_all-requires : goal.insert_all-requires
insert_all-requires g c =
    let t = start_of c.args.asked.now in
    (c.named_in_year.ensures t c.requires.is_asked).first ∙ sym (c.named_in_year-days.ensures t c.requires.is_asked).first

pub insert_all-requires-2 : goal.insert_all-requires-2
insert_all-requires-2 g c =
    let t = start_of c.args.asked.now in
    (c.named_in_year-2.ensures t c.requires.is_asked).first ∙ sym (c.named_in_year-days.ensures t c.requires.is_asked).first
    ∙ sym c.insert_all.ensures.first

pub year_before-before-requires-clause-near : goal.year_before-before-requires-clause-near
year_before-before-requires-clause-near g c = about-day c.args.year.now.first c.requires.near

pub year_after-behind-requires-clause-near : goal.year_after-behind-requires-clause-near
year_after-behind-requires-clause-near g c = about-day c.args.year.now.first c.requires.near

pub named_in_year-days-requires-clause-near : goal.named_in_year-days-requires-clause-near
named_in_year-days-requires-clause-near g c = about-own c.args.year.now.first c.requires.near

pub named_in_year-requires-clause-near : goal.named_in_year-requires-clause-near
named_in_year-requires-clause-near g c =
    let before = c.year_before-before.result in
    about-before before.first c.args.year.now.first before.days c.year_before-before.ensures.joins before.short c.requires.near

pub named_in_year-requires-2-clause-near : goal.named_in_year-requires-2-clause-near
named_in_year-requires-2-clause-near g c =
    let year = c.args.year.now in
    about-behind c.year_after-behind.result.first year.first year.days c.year_after-behind.ensures.joins year.short c.requires.near
