-- What is wrong with the value of a part, as an error.
use Rattle.std.specs.Prelude.{Option, Result}
use Rattle.std.specs.Option.{option_map}
use Rattle.std.specs.Result.{result_err}
use Rattle.cal_rule.specs.declared.rule_error.RuleError.{RuleError}
use Rattle.cal_rule.specs.declared.rule_error.RuleError.TheVariants.{BadValue, ValueOutOfRange, TimeNotSupported}
use Rattle.cal_rule.specs.declared.rule_part.RulePart.{RulePart}
use Rattle.cal_rule.specs.declared.value_fault.ValueFault.{ValueFault}
use Rattle.cal_rule.specs.declared.value_fault.ValueFault.TheVariants.{Bad, OutOfRange, Time}

abbrev pub error_of : RulePart → ValueFault → RuleError
error_of part Bad = BadValue part
error_of part OutOfRange = ValueOutOfRange part
error_of part Time = TimeNotSupported part

-- what is wrong with the value of a part that was read
abbrev pub error_in : {A : Type 0} → RulePart → Result A ValueFault → Option RuleError
error_in part read = option_map (error_of part) (result_err read)
