-- What the program's values of `rrule` say.
use Rattle.cal_types.specs.Bag.{bag_of}
use Rattle.command_line.specs.RruleAsked as asked
use Rattle.command_line.specs.declared.rrule.RruleHeader.{RruleHeader}
use Rattle.command_line.specs.declared.rrule.RruleStart.{RruleStart}
use Rattle.command_line.specs.declared.rrule.RruleStart.TheVariants.{Day, Fields}
use Rattle.command_line.specs.declared.rrule.RruleWords.{RruleWords}

abbrev pub rrule_header_said : RruleHeader → asked.RruleHeader
rrule_header_said h = record { calendar = h.calendar; shown = h.shown; first = h.first; last = h.last }

abbrev pub start_said : RruleStart → asked.RruleStart
start_said (Day n) = asked.OnDay n
start_said (Fields fields) = asked.OfFields (bag_of fields)

abbrev pub rrule_said : RruleWords → asked.RruleAsked
rrule_said w = record { header = rrule_header_said w.header; start = start_said w.start; rule = w.rule.now }
