-- What a line says.
use Rattle.std.specs.Prelude.{◌≡◌, ℕ, Bool, true, false, List, ◌==◌, ◌⊎◌, ◌||◌, nat_lt, nat_eq, length, slice_index, Option, Some, None, codes, if◌then◌else◌}
use Rattle.std.specs.List.{starts_with}
use Rattle.std.specs.Str.Lines.{strip_carriage_return}
use Rattle.request_lines.specs.Words.{is_text, words_of}
use Rattle.request_lines.specs.Requests.{Request, request_read}
use Rattle.request_lines.specs.Forms.{IsRequest}
use Rattle.request_lines.specs.Rows.{Row, row_read}

-- a request line: one that is too long, a request, or no request
pub data RequestLine : Type 0 where
  Long : RequestLine
  Asks : Request → RequestLine
  Malformed : RequestLine

-- a line that gives nothing, a row line with its row, if it says one, or a request line
pub data Line : Type 0 where
  Nothing : Line
  GivesRow : Option Row → Line
  Requests : RequestLine → Line

-- whether a line is a row line: `row`, alone or before a space
abbrev pub is_row : List ℕ → Bool
is_row text = is_text text (codes "row") || starts_with nat_eq text (codes "row ")

-- without the carriage return at its end, it is empty or a comment
abbrev pub is_silent : List ℕ → Bool
is_silent line = length (strip_carriage_return line) == 0 || slice_index line 0 == 35

-- the words are a request, and the line asks it
pub record SaysRequest (text : List ℕ) (said : Line) : Type 0 where
  pub request : Request
  pub form : IsRequest (words_of text) request
  pub asks_it : said ≡ Requests (Asks request)

-- the words are no request
pub record SaysNone (text : List ℕ) (said : Line) : Type 0 where
  pub none : (r : Request) → IsRequest (words_of text) r → ⊥
  pub malformed : said ≡ Requests Malformed

-- what a line says that is silent or not, too long or not, and a row line or not
abbrev pub SaysAs : Bool → Bool → Bool → List ℕ → Line → Type 0
SaysAs true long row text said = said ≡ Nothing
SaysAs false true row text said = said ≡ Requests Long
SaysAs false false true text said = said ≡ GivesRow (row_read (words_of text))
SaysAs false false false text said = SaysRequest text said ⊎ SaysNone text said

-- what a line says, by its bytes without the LF
abbrev pub IsLine : List ℕ → Line → Type 0
IsLine line said =
    let text = strip_carriage_return line in SaysAs (is_silent line) (nat_lt 512 (length line)) (is_row text) text said

-- the same, as it is read word after word
abbrev pub asked : Option Request → Line
asked None = Requests Malformed
asked (Some r) = Requests (Asks r)

abbrev pub said_by : List ℕ → Line
said_by text = if is_row text then GivesRow (row_read (words_of text)) else asked (request_read (words_of text))

abbrev pub line_of : List ℕ → Line
line_of line =
    if is_silent line then Nothing
    else (if nat_lt 512 (length line) then Requests Long else said_by (strip_carriage_return line))
