use Rattle.std.proofs.Common.{◌≡◌, ◌∙◌, sym}
use Rattle.cal_days.specs.Hebrew.{hebrew_leap}
use Rattle.cal_hebrew.proofs.HebrewGiven.{given-leap}
use Rattle.cal_hebrew.proofs.hebrew.HebrewNamedYears.is_leap.Goals as goal

pub returns : goal.returns
returns c =
    let same : c.is_leap.result ≡ hebrew_leap c.args.year.extended_year = c.is_leap.ensures ∙ sym (given-leap c.args.year c.requires.given) in
    (λ h. sym same ∙ h, λ h. same ∙ h)
