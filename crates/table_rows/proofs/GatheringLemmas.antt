-- Row lines, one after another.
use Rattle.std.proofs.Common.{◌≡◌, ℕ, ◌+◌, true, false, List, [], ◌∷◌, ◌++◌, length, take, Option, inl, inr, refl, ◌∙◌, sym, ap, subst}
use Rattle.std.proofs.lemmas.List.{append_assoc, length_push, take_all}
use Rattle.std.specs.Io.KnownBytes.{Consumes, IsAtEnd, Keeps}
use Rattle.byte_io.specs.Faults.{Rose}
use Rattle.byte_io.specs.Buffer.{Holds}
use Rattle.byte_io.specs.Lines.{lines_in, open_line}
use Rattle.byte_io.specs.Reader.{IsAt, GivesLine, GivesAll, GivesTooLong, lines_given, limit}
use Rattle.byte_io.specs.declared.buffer.LineBuffer.{LineBuffer}
use Rattle.byte_io.specs.declared.reader.Reader.{Reader}
use Rattle.byte_io.proofs.PrefixLemmas.{given_within}
use Rattle.request_lines.specs.Lines.{Line, Nothing, GivesRow, Requests, RequestLine, IsLine, line_of}
use Rattle.request_lines.specs.Rows.{Row}
use Rattle.request_lines.proofs.LineLemmas.{line_is, line_says}
use Rattle.table_rows.specs.RowLines.{Kept, Faulty, TakesMemory, TakesRow, LineTakesMemory, RowTakesMemory, KeepsLine, AddRows, AreRows, EndBefore}
use Rattle.table_rows.specs.Gathering.{with_open_line, IsGathered, IsGathering, IsSaidGathered, MetRequest, MetLast, MetEnd, MetFaulty, MetOther, Stops}
use Rattle.table_rows.specs.TableRows.{TableRows, no_rows}
use Rattle.table_rows.specs.declared.gathering.LineGathered.{LineGathered}
use Rattle.table_rows.specs.declared.gathering.LineGathered.TheVariants as gathered
use Rattle.table_rows.specs.declared.gathering.Stop.TheVariants.{ReadFault, NoMemory, TooLong}
use Rattle.table_rows.specs.declared.table.RowFault.{RowFault}
use Rattle.table_rows.proofs.InputLemmas.{IsOpen, open_or_none, consumes_end, lines_in-whole}
use Rattle.std.proofs.KnownBytes.{Consumes-kept, Consumes-trans}

-- one line more
add_push : (lines : List (List ℕ)) (line : List ℕ) (from rows next : TableRows) → AddRows lines from rows → KeepsLine line rows next → AddRows (lines ++ line ∷ []) from next
add_push [] line from rows next e keeps = (next, subst (λ (r : TableRows). KeepsLine line r next) e keeps, refl)
add_push (first ∷ lines) line from rows next (mid, keeps, are) last = (mid, keeps, add_push lines line mid rows next are last)

-- what follows the last LF is no row line or request line where it is empty
nothing_said : (last : List ℕ) (line : Line) → last ≡ [] → IsLine last line → line ≡ Nothing
nothing_said last line none says = line_is last line says ∙ ap line_of none

not_row : (row : Option Row) → GivesRow row ≡ Nothing → ⊥
not_row row e = cc

pub not_request : (request : RequestLine) → Requests request ≡ Nothing → ⊥
not_request request e = cc

open_rows : (lines : List (List ℕ)) (last : List ℕ) (rows next : TableRows) → AreRows lines rows → KeepsLine last rows next → AreRows (with_open_line lines last) next
open_rows lines last rows next are keeps = by (open_or_none lines last) keeps
  where
    by : IsOpen lines last → KeepsLine last rows next → AreRows (with_open_line lines last) next
    by (inl (none, same)) (inl (silent, e)) = subst (λ (y : List (List ℕ)). AreRows y next) (sym same) (subst (λ (r : TableRows). AreRows lines r) (sym e) are)
    by (inl (none, same)) (inr (row, says, takes)) = absurd (not_row row (nothing_said last (GivesRow row) none says))
    by (inr more) keeps = subst (λ (y : List (List ℕ)). AreRows y next) (sym more) (add_push lines last no_rows rows next are keeps)

-- it is a line where it is a row line or a request line
pub open_line_is : (lines : List (List ℕ)) (last : List ℕ) (line : Line) → (line ≡ Nothing → ⊥) → IsLine last line → with_open_line lines last ≡ lines ++ last ∷ []
open_line_is lines last line some says = by (open_or_none lines last)
  where
    by : IsOpen lines last → with_open_line lines last ≡ lines ++ last ∷ []
    by (inl (none, same)) = absurd (some (nothing_said last line none says))
    by (inr more) = more

-- the row lines end at the line that comes next
ends_at : (all lines : List (List ℕ)) (line : List ℕ) (others : List (List ℕ)) (rows : TableRows) (n : ℕ) → all ≡ lines ++ line ∷ others → n ≡ length lines + 1 → AreRows lines rows → EndBefore all rows n line others
ends_at all lines line others rows n e number are = record { before = lines; are_rows = are; number = number; all = e }

-- a row that takes memory behind row lines
takes_at : (all lines : List (List ℕ)) (line : List ℕ) (others : List (List ℕ)) (rows : TableRows) → all ≡ lines ++ line ∷ others → AreRows lines rows → LineTakesMemory line → RowTakesMemory all
takes_at all lines line others rows e are takes = record {
  rows = rows;
  number = length lines + 1;
  line = line;
  more = others;
  before = ends_at all lines line others rows (length lines + 1) e refl are;
  takes = takes;
}

append_push : (lines : List (List ℕ)) (line : List ℕ) (others : List (List ℕ)) → (lines ++ line ∷ []) ++ others ≡ lines ++ line ∷ others
append_push lines line others = append_assoc lines (line ∷ []) others

module _ (left l : Option (List ℕ)) (reader : Reader) (line : LineBuffer) (rows : TableRows) (h : IsGathering left l reader line rows) where
  module _ (q : Reader) (buffer : LineBuffer) (f : GivesLine q buffer h.bytes h.lines) (counts : lines_given q ≡ lines_given reader + 1) where
    number : lines_given q ≡ length h.lines + 1
    number = counts ∙ ap (λ k. k + 1) h.counted

    pub line_gathered : (cleared : LineBuffer) (new : TableRows) → KeepsLine f.line rows new → Holds cleared [] → IsGathering left l q cleared new
    line_gathered cleared new keeps empty = record {
      bytes = h.bytes;
      lines = h.lines ++ f.line ∷ [];
      rest = [];
      took = h.took;
      at = f.at;
      holds = empty;
      counted = number ∙ sym (length_push h.lines f.line);
      are_rows = add_push h.lines f.line no_rows rows new h.are_rows keeps;
    }

    pub met_request : (new : TableRows) → (request : RequestLine) × IsLine f.line (Requests request) → new ≡ rows → MetRequest left l q buffer new
    met_request new (request, says) e = record {
      bytes = h.bytes;
      lines = h.lines;
      whole = f.line;
      request = request;
      says = says;
      took = h.took;
      at = f.at;
      holds = f.holds;
      counted = number;
      are_rows = subst (λ (x : TableRows). AreRows h.lines x) (sym e) h.are_rows;
    }

    pub line_refused : (n : ℕ) (why : RowFault) → n ≡ lines_given q → (row : Option Row) × IsLine f.line (GivesRow row) × TakesRow rows row (Faulty why) → MetFaulty left l n why
    line_refused n why is (row, says, takes) =
        let (others, all) = given_within q h.bytes (h.lines ++ f.line ∷ []) [] f.at in
        record {
          bytes = h.bytes;
          whole = false;
          rows = rows;
          took = h.took;
          at_end = λ no. cc;
          ends = (f.line, others, ends_at _ h.lines f.line others rows n (all ∙ append_push h.lines f.line others) (is ∙ number) h.are_rows, row, says, takes);
        }

    pub line_wanted_memory : LineTakesMemory f.line → (faults more : ℕ) → Stops NoMemory left l faults more
    line_wanted_memory takes faults more =
        let (others, all) = given_within q h.bytes (h.lines ++ f.line ∷ []) [] f.at in
        (h.bytes, false, h.took, takes_at _ h.lines f.line others rows (all ∙ append_push h.lines f.line others) h.are_rows takes, λ no. cc)

  module _ (mid : Reader) (buffer : LineBuffer) (f : GivesAll mid buffer h.bytes h.lines) where
    pub chunk_gathered : (l2 : Option (List ℕ)) (q : Reader) (x : List ℕ) → lines_given mid ≡ lines_given reader → lines_given q ≡ lines_given mid → Consumes l l2 x → IsAt q (h.bytes ++ x) h.lines (open_line h.bytes) → IsGathering left l2 q buffer rows
    chunk_gathered l2 q x same still took at = record {
      bytes = h.bytes ++ x;
      lines = h.lines;
      rest = open_line h.bytes;
      took = Consumes-trans left l l2 h.bytes x h.took took;
      at = at;
      holds = f.holds;
      counted = still ∙ (same ∙ h.counted);
      are_rows = h.are_rows;
    }

    pub reading_stopped : (l2 : Option (List ℕ)) (faults r2 : ℕ) → Keeps l l2 → Rose faults r2 → Stops ReadFault left l2 faults r2
    reading_stopped l2 faults r2 keeps rose = (h.bytes, rows, rose, Consumes-kept left l l2 h.bytes h.took keeps, subst (λ (y : List (List ℕ)). AreRows y rows) (sym f.all) h.are_rows)

    whole_lines : lines_in h.bytes true ≡ with_open_line h.lines (open_line h.bytes)
    whole_lines = lines_in-whole h.bytes h.lines f.all

    within_lines : lines_in (take limit h.bytes) true ≡ with_open_line h.lines (open_line h.bytes)
    within_lines = ap (λ b. lines_in b true) (take_all limit h.bytes f.size) ∙ whole_lines

    module _ (l2 : Option (List ℕ)) (took : Consumes l l2 []) (end : IsAtEnd l2) where
      took_all : Consumes left l2 h.bytes
      took_all = consumes_end left l l2 h.bytes h.took took

      pub met_end : (new : TableRows) → KeepsLine (open_line h.bytes) rows new → MetEnd left l2 new
      met_end new keeps = record {
        bytes = h.bytes;
        took = took_all;
        at_end = end;
        within = f.size;
        are_rows = subst (λ (y : List (List ℕ)). AreRows y new) (sym whole_lines) (open_rows h.lines (open_line h.bytes) rows new h.are_rows keeps);
      }

      pub met_last : (new : TableRows) → (request : RequestLine) × IsLine (open_line h.bytes) (Requests request) → new ≡ rows → (q : Reader) → lines_given q ≡ lines_given reader → MetLast left l2 q buffer new
      met_last new (request, says) e q same = record {
        bytes = h.bytes;
        lines = h.lines;
        request = request;
        says = says;
        took = took_all;
        at_end = end;
        within = f.size;
        all = f.all;
        holds = f.holds;
        counted = same ∙ h.counted;
        are_rows = subst (λ (x : TableRows). AreRows h.lines x) (sym e) h.are_rows;
      }

      pub last_refused : (n : ℕ) (why : RowFault) → n ≡ lines_given reader + 1 → (row : Option Row) × IsLine (open_line h.bytes) (GivesRow row) × TakesRow rows row (Faulty why) → MetFaulty left l2 n why
      last_refused n why is (row, says, takes) =
          let all = within_lines ∙ open_line_is h.lines (open_line h.bytes) (GivesRow row) (not_row row) says in
          record {
            bytes = h.bytes;
            whole = true;
            rows = rows;
            took = took_all;
            at_end = λ _. (end, f.size);
            ends = (open_line h.bytes, [], ends_at _ h.lines (open_line h.bytes) [] rows n all (is ∙ ap (λ k. k + 1) h.counted) h.are_rows, row, says, takes);
          }

      pub last_wanted_memory : LineTakesMemory (open_line h.bytes) → (faults more : ℕ) → Stops NoMemory left l2 faults more
      last_wanted_memory (row, says, takes) faults more =
          let all = within_lines ∙ open_line_is h.lines (open_line h.bytes) (GivesRow row) (not_row row) says in
          (h.bytes, true, took_all, takes_at _ h.lines (open_line h.bytes) [] rows all h.are_rows (row, says, takes), λ _. (end, f.size))

  pub took_too_many : GivesTooLong h.bytes h.lines → (faults more : ℕ) → Stops TooLong left l faults more
  took_too_many f faults more = (h.bytes, rows, f.size, h.took, subst (λ (y : List (List ℕ)). AreRows y rows) (sym f.all) h.are_rows)

-- before the first line
pub gathering_begins : (left : Option (List ℕ)) (reader : Reader) (line : LineBuffer) (rows : TableRows) → IsAt reader [] [] [] → Holds line [] → lines_given reader ≡ 0 → Consumes left left [] → rows ≡ no_rows → IsGathering left left reader line rows
gathering_begins left reader line rows at holds none took e = record { bytes = []; lines = []; rest = []; took = took; at = at; holds = holds; counted = none; are_rows = e }

-- at another line, wherever its LF is
pub met_line : (left now : Option (List ℕ)) (r : Reader) (line : LineBuffer) (rows : TableRows) (n : ℕ) → n ≡ lines_given r → (h : MetRequest left now r line rows) → MetOther left now n h.request rows
met_line left now r line rows n is h =
    let (others, all) = given_within r h.bytes (h.lines ++ h.whole ∷ []) [] h.at in
    record {
      bytes = h.bytes;
      whole = false;
      others = h.whole ∷ others;
      took = h.took;
      at_end = λ no. cc;
      ends = (h.whole, others, ends_at _ h.lines h.whole others rows n (all ∙ append_push h.lines h.whole others) (is ∙ h.counted) h.are_rows, h.says, refl);
    }

pub met_last_line : (left now : Option (List ℕ)) (r : Reader) (line : LineBuffer) (rows : TableRows) (n : ℕ) → n ≡ lines_given r + 1 → (h : MetLast left now r line rows) → MetOther left now n h.request rows
met_last_line left now r line rows n is h =
    let whole = ap (λ b. lines_in b true) (take_all limit h.bytes h.within) ∙ lines_in-whole h.bytes h.lines h.all in
    let all = whole ∙ open_line_is h.lines (open_line h.bytes) (Requests h.request) (not_request h.request) h.says in
    record {
      bytes = h.bytes;
      whole = true;
      others = open_line h.bytes ∷ [];
      took = h.took;
      at_end = λ _. (h.at_end, h.within);
      ends = (open_line h.bytes, [], ends_at _ h.lines (open_line h.bytes) [] rows n all (is ∙ ap (λ k. k + 1) h.counted) h.are_rows, h.says, refl);
    }

-- what was read of a line is what it says
says : (whole : List ℕ) (line : Line) → line ≡ line_of whole → IsLine whole line
says whole line e = subst (λ (l : Line). IsLine whole l) (sym e) (line_says whole)

pub line_kept : (whole : List ℕ) (row : Option Row) (rows next : TableRows) → GivesRow row ≡ line_of whole → TakesRow rows row (Kept next) → (r : Option Row) × IsLine whole (GivesRow r) × TakesRow rows r (Kept next)
line_kept whole row rows next e takes = (row, says whole (GivesRow row) e, takes)

pub line_faulty : (whole : List ℕ) (row : Option Row) (rows : TableRows) (why : RowFault) → GivesRow row ≡ line_of whole → TakesRow rows row (Faulty why) → (r : Option Row) × IsLine whole (GivesRow r) × TakesRow rows r (Faulty why)
line_faulty whole row rows why e takes = (row, says whole (GivesRow row) e, takes)

pub line_takes : (whole : List ℕ) (row : Option Row) → GivesRow row ≡ line_of whole → TakesMemory row → LineTakesMemory whole
line_takes whole row e takes = (row, says whole (GivesRow row) e, takes)

pub line_requests : (whole : List ℕ) (request : RequestLine) → Requests request ≡ line_of whole → (r : RequestLine) × IsLine whole (Requests r)
line_requests whole request e = (request, says whole (Requests request) e)

-- a line that isn't silent did what a line does
pub said_gathered : (did : LineGathered) (whole : List ℕ) (old new : TableRows) → IsSaidGathered did whole old new → IsGathered did whole old new
said_gathered gathered.GoesOn whole old new h = inr h
said_gathered gathered.Request whole old new h = h
said_gathered (gathered.Refused why) whole old new h = h.0
said_gathered gathered.NoMemory whole old new h = h.0
