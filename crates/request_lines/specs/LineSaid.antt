-- What the program reads a line as.
use Rattle.std.specs.Prelude.{◌≡◌}
use Rattle.std.specs.Option.{option_map}
use Rattle.cal_types.specs.Bag.{Bag}
use Rattle.request_lines.specs.Lines as lines
use Rattle.request_lines.specs.Requests.{request_of}
use Rattle.request_lines.specs.RequestSaid.{header_said}
use Rattle.request_lines.specs.RowSaid.{row_said}
use Rattle.request_lines.specs.declared.line.Line.{Line}
use Rattle.request_lines.specs.declared.line.Line.TheVariants.{GivesRow, Requests}
use Rattle.request_lines.specs.declared.line.LineKind.{LineKind}
use Rattle.request_lines.specs.declared.line.LineKind.TheVariants as kind
use Rattle.request_lines.specs.declared.line.RequestLine.{RequestLine}
use Rattle.request_lines.specs.declared.line.RequestLine.TheVariants.{Long, Asks, Malformed}

-- the request line that the program's value stands for, with the two bags that were read
abbrev pub request_line_said : RequestLine → Bag → Bag → lines.RequestLine
request_line_said Long from to = lines.Long
request_line_said (Asks h) from to = lines.Asks (request_of (header_said h) from to)
request_line_said Malformed from to = lines.Malformed

-- the line that the program's value stands for, with the two bags that were read
abbrev pub line_said : Line → Bag → Bag → lines.Line
line_said (GivesRow row) from to = lines.GivesRow (option_map row_said row)
line_said (Requests line) from to = lines.Requests (request_line_said line from to)

-- the kind of a line: a row line with its row, or a request line, whatever it asks
abbrev pub IsKind : LineKind → lines.Line → Type 0
IsKind (kind.GivesRow row) said = said ≡ lines.GivesRow (option_map row_said row)
IsKind kind.Requests said = (request : lines.RequestLine) × (said ≡ lines.Requests request)
