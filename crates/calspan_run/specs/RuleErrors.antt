-- The names of the errors of a rule's text.
use Rattle.std.specs.Prelude.{ℕ, List, ◌++◌, codes}
use Rattle.cal_rule.specs.RuleNames.{part_name}
use Rattle.cal_rule.specs.declared.rule_error.RuleError.{RuleError}
use Rattle.cal_rule.specs.declared.rule_error.RuleError.TheVariants as error

-- the name of the error, and the part that it is about
abbrev pub rule_error_text : RuleError → List ℕ
rule_error_text error.BadPart = codes "BadPart"
rule_error_text error.UnknownPart = codes "UnknownPart"
rule_error_text (error.RepeatedPart part) = codes "RepeatedPart " ++ part_name part
rule_error_text (error.TimeNotSupported part) = codes "TimeNotSupported " ++ part_name part
rule_error_text (error.BadValue part) = codes "BadValue " ++ part_name part
rule_error_text (error.ValueOutOfRange part) = codes "ValueOutOfRange " ++ part_name part
rule_error_text error.UnknownCalendar = codes "UnknownCalendar"
rule_error_text error.MismatchedCalendar = codes "MismatchedCalendar"
rule_error_text (error.MissingPart part) = codes "MissingPart " ++ part_name part
rule_error_text error.CountWithUntil = codes "CountWithUntil"
rule_error_text (error.PartNotAllowed part) = codes "PartNotAllowed " ++ part_name part
rule_error_text error.OrdinalNotAllowed = codes "OrdinalNotAllowed"
rule_error_text error.SetPosAlone = codes "SetPosAlone"
