use Rattle.std.proofs.Common.{◌∙◌}
use Rattle.cal_types.proofs.DurationLemmas.{IsUtf8-digits, number-read}
use Rattle.cal_types.proofs.duration_text.number.Goals as goal

pub from_utf8_unchecked-text-requires : goal.from_utf8_unchecked-text-requires
from_utf8_unchecked-text-requires c = IsUtf8-digits c.args.digits.now c.requires.digits

pub returns : goal.returns
returns c =
    let same = c.from_utf8_unchecked-text.ensures in
    let parsed = c.parse.ensures.value.0 in
    c.ok.ensures.value ∙ number-read c.args.digits.now _ c.parse.result same parsed c.requires.digits c.requires.some
