use Rattle.std.proofs.Common.{◌∙◌, ◌+◌}
use Rattle.cal_east_asian.proofs.PlaceLemmas.{place-is, place-by}
use Rattle.cal_east_asian.proofs.mean_years.leap_place.Goals as goal

pub returns : goal.returns
returns c =
    let near = c.first_near_term-near in
    let first = place-is c.args.lead c.args.time near.result _ _ near.ensures.near near.ensures.first c.has_term.ensures c.has_term-2.ensures in
    c.place_in_year.ensures ∙ place-by c.args.lead c.args.time (near.result + c.has_term.result + c.has_term-2.result) first
