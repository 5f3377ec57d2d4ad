use Rattle.std.proofs.Common.{◌∙◌, Bool, sym, ap}
use Rattle.cal_hebrew.specs.laws.HebrewMonths.{month_at-hebrew, place-small}
use Rattle.cal_hebrew.specs.HebrewPlaces.{month_of_place}
use Rattle.cal_hebrew.proofs.HebrewGiven.{given-leap}
use Rattle.cal_hebrew.proofs.hebrew.HebrewYearShapes.month_from_ordinal.Goals as goal

pub month_in_place-requires : goal.month_in_place-requires
month_in_place-requires c = place-small c.args.year.extended_year c.args.ordinal_month c.requires.place

pub returns : goal.returns
returns c =
    let y = c.args.year in
    c.month_in_place.ensures
    ∙ sym (month_at-hebrew y.extended_year c.args.ordinal_month c.requires.place ∙ ap (λ (leap : Bool). month_of_place leap c.args.ordinal_month) (given-leap y c.requires.year))
