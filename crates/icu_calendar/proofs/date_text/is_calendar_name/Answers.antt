use Rattle.std.proofs.Common.{◌==◌, rules, tests}
use Rattle.std.proofs.lemmas.Iterator.Search.{all_from_yields_List}
use Rattle.std.proofs.lemmas.Iterator.Splits.{YieldsList-from_slice_split}
use Rattle.icu_calendar.specs.DateText.{is_name_part}
use Rattle.icu_calendar.proofs.date_text.is_calendar_name.Goals as goal

pub returns : goal.returns
returns c =
    all_from_yields_List is_name_part _ _ _ c.all.ensures.ran
    (YieldsList-from_slice_split _ (λ b. b == 45) c.args.name.now c.split.ensures.rest c.split.ensures.done c.split.ensures.closure (λ x b q k. search (rules, tests)))
    (λ x b q k. search (rules, tests))
