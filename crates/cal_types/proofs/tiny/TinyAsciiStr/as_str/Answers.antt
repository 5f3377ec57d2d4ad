use Rattle.cal_types.proofs.TextLemmas.{IsUtf8-from_text}
use Rattle.cal_types.proofs.tiny.TinyAsciiStr.as_str.Goals as goal

pub from_utf8_unchecked-requires : goal.from_utf8_unchecked-requires
from_utf8_unchecked-requires g c = IsUtf8-from_text _ c.self.invariant.text
