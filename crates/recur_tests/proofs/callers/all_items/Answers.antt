use Rattle.std.proofs.lemmas.Iterator.{items_from_collect}
use Rattle.cal_recur.specs.Listing.{GoesOn, occurrences_left}
use Rattle.cal_recur.proofs.IteratorLemmas.{YieldsList-from_more}
use Rattle.recur_tests.proofs.callers.all_items.Goals as goal

-- what is collected is the list that is left before the first item
pub returns : goal.returns
returns g c =
    items_from_collect _ c.collect.ensures.ran (YieldsList-from_more
    (λ i. occurrences_left (g.C.Calendar.system i.calendar) (g.C.Calendar.date_of i.calendar i.start) i.rule i.rest)
    (λ i r t. GoesOn i.calendar t.calendar i.start t.start i.rule t.rule i.rest r t.rest) {s = c.recur.result} _ c.recur.ensures.items)
