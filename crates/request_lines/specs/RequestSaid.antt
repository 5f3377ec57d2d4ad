-- What the program reads of a request.
use Rattle.cal_types.specs.Bag.{bag_of}
use Rattle.request_lines.specs.Requests as requests
use Rattle.request_lines.specs.declared.request.Header.{Header}
use Rattle.request_lines.specs.declared.request.Request.{Request}

-- the header that the program's value stands for
abbrev pub header_said : Header → requests.Header
header_said h =
    record {
      calendar = h.calendar;
      shown = h.shown;
      unit = h.difference.largest_unit;
      overflow = h.options.overflow;
      missing_fields = h.options.missing_fields_strategy;
    }

-- the request that the program's value stands for
abbrev pub request_said : Request → requests.Request
request_said r = requests.request_of (header_said r.header) (bag_of r.from) (bag_of r.to)
