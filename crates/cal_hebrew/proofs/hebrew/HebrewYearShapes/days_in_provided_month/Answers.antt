use Rattle.std.proofs.Common.{◌∙◌, ℕ, sym, ap}
use Rattle.cal_hebrew.specs.laws.HebrewMonths.{month_length-hebrew, place-small}
use Rattle.cal_hebrew.specs.HebrewPlaces.{place_length}
use Rattle.cal_hebrew.proofs.HebrewGiven.{given-length}
use Rattle.cal_hebrew.proofs.hebrew.HebrewYearShapes.days_in_provided_month.Goals as goal

pub days_in_month-requires : goal.days_in_month-requires
days_in_month-requires c = (place-small c.args.year.extended_year c.args.month c.requires.place).1

pub returns : goal.returns
returns c =
    let y = c.args.year in
    c.days_in_month.ensures
    ∙ sym (month_length-hebrew y.extended_year c.args.month c.requires.place ∙ ap (λ (n : ℕ). place_length n c.args.month) (given-length y c.requires.year))
