-- What lines say: it is what is read of them.
use Rattle.std.proofs.Common.{◌≡◌, ℕ, ◌-◌, ◌≤◌, Bool, true, false, cond, ◌||◌, Option, Some, None, inl, inr, ◌⊎◌, ◌==◌, List, [], ◌∷◌, length, take, nat_lt, slice_index, refl, sym, ap, ◌∙◌, arith}
use Rattle.std.specs.Str.Lines.{strip_carriage_return}
use Rattle.std.proofs.lemmas.List.{take_all, length-take}
use Rattle.std.proofs.lemmas.Bool.{ne_eqb}
use borrow.Author.Tests.{ltb-true, ltb-false}
use Rattle.request_lines.specs.Words.{words_of}
use Rattle.request_lines.specs.Requests.{Request, request_read}
use Rattle.request_lines.specs.Rows.{Row, row_read}
use Rattle.request_lines.specs.Lines.{Line, Nothing, GivesRow, Requests, RequestLine, Long, Asks, Malformed, is_silent, is_row, SaysRequest, SaysNone, SaysAs, IsLine, asked, said_by, line_of}
use Rattle.request_lines.proofs.FormLemmas.{one_form}

pub silent_is : (line : List ℕ) → is_silent line ≡ true → line_of line ≡ Nothing
silent_is line e = ap (λ t. cond t Nothing (cond (nat_lt 512 (length line)) (Requests Long) (said_by (strip_carriage_return line)))) e

pub loud_is : (line : List ℕ) → is_silent line ≡ false
    → line_of line ≡ cond (nat_lt 512 (length line)) (Requests Long) (said_by (strip_carriage_return line))
loud_is line e = ap (λ t. cond t Nothing (cond (nat_lt 512 (length line)) (Requests Long) (said_by (strip_carriage_return line)))) e

-- what a line of at most 512 bytes says
pub short_is : (line : List ℕ) → is_silent line ≡ false → nat_lt 512 (length line) ≡ false → line_of line ≡ said_by (strip_carriage_return line)
short_is line loud short = loud_is line loud ∙ ap (λ t. cond t (Requests Long) (said_by (strip_carriage_return line))) short

pub long_is : (line : List ℕ) → is_silent line ≡ false → nat_lt 512 (length line) ≡ true → line_of line ≡ Requests Long
long_is line loud long = loud_is line loud ∙ ap (λ t. cond t (Requests Long) (said_by (strip_carriage_return line))) long

pub row_said_by : (text : List ℕ) (row : Option Row) → is_row text ≡ true → row ≡ row_read (words_of text) → GivesRow row ≡ said_by text
row_said_by text row e reads = ap GivesRow reads ∙ ap (λ t. cond t (GivesRow (row_read (words_of text))) (asked (request_read (words_of text)))) (sym e)

pub request_said_by : (text : List ℕ) (request : Option Request) → is_row text ≡ false → request ≡ request_read (words_of text) → asked request ≡ said_by text
request_said_by text request e reads = ap asked reads ∙ ap (λ t. cond t (GivesRow (row_read (words_of text))) (asked (request_read (words_of text)))) (sym e)

-- a line that is no row line is a request line
pub asked_by : (text : List ℕ) → is_row text ≡ false → (request : RequestLine) × (said_by text ≡ Requests request)
asked_by text e = by (request_read (words_of text)) refl
  where
    by : (o : Option Request) → request_read (words_of text) ≡ o → (request : RequestLine) × (said_by text ≡ Requests request)
    by None q = (Malformed, sym (request_said_by text None e (sym q)))
    by (Some r) q = (Asks r, sym (request_said_by text (Some r) e (sym q)))

-- a line of two bytes is more than a carriage return
strip_some : (line : List ℕ) → 2 ≤ length line → (length (strip_carriage_return line) == 0) ≡ false
strip_some line h = by (slice_index line (length line - 1) == 13)
  where
    by : (t : Bool) → (length (cond t (take (length line - 1) line) line) == 0) ≡ false
    by true = ne_eqb _ _ (omega (arith, length-take (length line - 1) line))
    by false = ne_eqb _ _ (omega arith)

-- whether a line is silent, its first 512 bytes tell
pub silent_prefix : (line : List ℕ) → is_silent (take 512 line) ≡ is_silent line
silent_prefix line = by (nat_lt 512 (length line)) refl
  where
    first : (line : List ℕ) → slice_index (take 512 line) 0 ≡ slice_index line 0
    first [] = refl
    first (b ∷ rest) = refl

    by : (t : Bool) → nat_lt 512 (length line) ≡ t → is_silent (take 512 line) ≡ is_silent line
    by false q = ap is_silent (take_all 512 line (ltb-false 512 (length line) q))
    by true q =
        let long = ltb-true 512 (length line) q in
        let prefix = strip_some (take 512 line) (omega (arith, long, length-take 512 line)) in
        let whole = strip_some line (omega (arith, long)) in
        ap (λ t. t || (slice_index (take 512 line) 0 == 35)) prefix ∙ (ap (λ (b : ℕ). false || (b == 35)) (first line) ∙ ap (λ t. t || (slice_index line 0 == 35)) (sym whole))

asked_is : (text : List ℕ)
    → SaysRequest text (asked (request_read (words_of text))) ⊎ SaysNone text (asked (request_read (words_of text)))
asked_is text = by (request_read (words_of text)) refl
  where
    by : (o : Option Request) → request_read (words_of text) ≡ o → SaysRequest text (asked o) ⊎ SaysNone text (asked o)
    by None q = inr (record { none = λ r form. no_request r (sym q ∙ (one_form (words_of text) r).1 form); malformed = refl })
      where
        no_request : (r : Request) → ◌≡◌ {A = Option Request} None (Some r) → ⊥
        no_request r e = cc
    by (Some r) q = inl (record { request = r; form = (one_form (words_of text) r).0 q; asks_it = refl })

is_asked : (text : List ℕ) (said : Line) → SaysRequest text said ⊎ SaysNone text said → said ≡ asked (request_read (words_of text))
is_asked text said (inl h) = h.asks_it ∙ ap asked (sym ((one_form (words_of text) h.request).1 h.form))
is_asked text said (inr h) = by (request_read (words_of text)) refl
  where
    by : (o : Option Request) → request_read (words_of text) ≡ o → said ≡ asked o
    by None q = h.malformed
    by (Some r) q = absurd (h.none r ((one_form (words_of text) r).0 q))

-- a line says what is read of it, and nothing else
pub line_says : (line : List ℕ) → IsLine line (line_of line)
line_says line = by (is_silent line) (nat_lt 512 (length line)) (is_row (strip_carriage_return line)) (strip_carriage_return line)
  where
    by : (silent long row : Bool) (text : List ℕ)
        → SaysAs silent long row text (cond silent Nothing (cond long (Requests Long) (cond row (GivesRow (row_read (words_of text))) (asked (request_read (words_of text))))))
    by true long row text = refl
    by false true row text = refl
    by false false true text = refl
    by false false false text = asked_is text

pub line_is : (line : List ℕ) (said : Line) → IsLine line said → said ≡ line_of line
line_is line said h = by (is_silent line) (nat_lt 512 (length line)) (is_row (strip_carriage_return line)) (strip_carriage_return line) h
  where
    by : (silent long row : Bool) (text : List ℕ) → SaysAs silent long row text said
        → said ≡ cond silent Nothing (cond long (Requests Long) (cond row (GivesRow (row_read (words_of text))) (asked (request_read (words_of text)))))
    by true long row text h = h
    by false true row text h = h
    by false false true text h = h
    by false false false text h = is_asked text said h
