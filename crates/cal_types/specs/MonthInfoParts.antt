-- What contracts see of a month's information.
use Rattle.cal_types.specs.MonthInfo.{MonthInfoParts}
use Rattle.cal_types.specs.MonthParts.{month_parts}
use Rattle.cal_types.specs.declared.month_info.MonthInfo.{MonthInfo}

abbrev pub month_info_parts : MonthInfo → MonthInfoParts
month_info_parts m = record {
  ordinal = m.ordinal;
  standard_code = m.standard_code.0;
  formatting_code = m.formatting_code.0;
  month = month_parts m.month;
  leap_status = m.leap_status;
}
