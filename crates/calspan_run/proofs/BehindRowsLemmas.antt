-- Behind row lines there is a text, where there is one over the tables and at another line.
use Rattle.std.proofs.Common.{◌≡◌, ℕ, Bool, true, false, List, [], ◌++◌, ◌⊎◌, inl, inr, refl, ◌∙◌, sym, ap, subst}
use Rattle.std.proofs.lemmas.List.{append-nil}
use Rattle.cal_errors.specs.declared.errors.TableFault.{TableFault}
use Rattle.cal_tables.specs.Kinds.{TableContents}
use Rattle.byte_io.specs.Lines.{lines_in}
use Rattle.request_lines.specs.Lines.{RequestLine}
use Rattle.calspan_run.specs.BehindRows.{Behind, OverTables, RefusesTables, SaysAt, SaysBehindRows}
use Rattle.calspan_run.specs.Laws.{EveryInputHas, IsUnique, PrefixesHavePrefixes}
use Rattle.table_rows.specs.RowLines.{RowsEnd, WithLines, AtFaultyRow, AtRequest, EndRows}
use Rattle.table_rows.specs.TableRows.{TableRows, contents_of, AreAccepted, IsFirstRefused}
use Rattle.calspan_run.specs.TableTexts.{row_refusal, table_refusal}
use Rattle.calspan_run.specs.declared.status.Status.{Status}
use Rattle.calspan_run.specs.declared.status.Status.TheVariants.{Done, TableRefused}
use Rattle.table_rows.specs.declared.table.Table.{Table}
use Rattle.table_rows.proofs.RowLineLemmas.{end_before, rows_end}
use Rattle.table_rows.proofs.InputLemmas.{lines_in-prefix}
use Rattle.table_rows.proofs.RowUniqueLemmas.{rows_end-unique}
use Rattle.table_rows.proofs.TableLemmas.{tables_decided, tables_refuse, tables_unique}

-- there is a text over the tables where they are accepted, or they are refused
pub over_exists : (Writes : TableContents → List ℕ → Status → Type 0) (rows : TableRows) → (AreAccepted rows → (text : List ℕ) × (status : Status) × Writes (contents_of rows) text status) → (text : List ℕ) × (status : Status) × OverTables Writes rows text status
over_exists Writes rows exists = by (tables_decided rows)
  where
    by : AreAccepted rows ⊎ ((table : Table) × (fault : TableFault) × IsFirstRefused rows table fault) → (text : List ℕ) × (status : Status) × OverTables Writes rows text status
    by (inl accepted) = let (text, status, writes) = exists accepted in (text, status, inl (accepted, writes))
    by (inr (table, fault, first)) = (table_refusal table fault, TableRefused, inr ((table, fault, first, refl), refl))

-- what a command is to write there always
pub record AlwaysWrites (b : Behind) : Type 0 where
  pub at_end : (rows : TableRows) → AreAccepted rows → (text : List ℕ) × (status : Status) × b.AtEnd (contents_of rows) text status
  pub at_line : (rows : TableRows) (n : ℕ) (request : RequestLine) (others : List (List ℕ)) → (text : List ℕ) × (status : Status) × b.AtLine rows n request others text status

says_at_exists : (b : Behind) → AlwaysWrites b → (end : RowsEnd) (whole : Bool) (rows : TableRows) → (text : List ℕ) × (status : Status) × SaysAt b end whole rows text status
says_at_exists b always WithLines true rows = over_exists b.AtEnd rows (always.at_end rows)
says_at_exists b always WithLines false rows = ([], Done, (refl, refl))
says_at_exists b always (AtFaultyRow n why) whole rows = (row_refusal n why, TableRefused, (refl, refl))
says_at_exists b always (AtRequest n request others) whole rows = always.at_line rows n request others

pub behind_exists : (b : Behind) → AlwaysWrites b → EveryInputHas (SaysBehindRows b)
behind_exists b always bytes whole =
    let (end, rows, ends) = rows_end (lines_in bytes whole) in
    let (text, status, says) = says_at_exists b always end whole rows in
    (text, status, record { rows = rows; end = end; ends = ends; says = says })

-- one line refuses the tables
refuses_unique : (rows : TableRows) (a b : List ℕ) → RefusesTables rows a → RefusesTables rows b → a ≡ b
refuses_unique rows a b (s, f, h, e) (t, g, k, d) =
    let (table, fault) = tables_unique rows s t f g h k in
    e ∙ (ap (λ x. table_refusal x f) table ∙ (ap (table_refusal t) fault ∙ sym d))

-- over any tables one text
pub over_unique : (Writes : TableContents → List ℕ → Status → Type 0) → ((tables : TableContents) (a b : List ℕ) (s t : Status) → Writes tables a s → Writes tables b t → (a ≡ b) × (s ≡ t))
    → (rows : TableRows) (a b : List ℕ) (s t : Status) → OverTables Writes rows a s → OverTables Writes rows b t → (a ≡ b) × (s ≡ t)
over_unique Writes one rows a b s t (inl (h, x)) (inl (k, y)) = one (contents_of rows) a b s t x y
over_unique Writes one rows a b s t (inl (h, x)) (inr ((table, f, k, e), d)) = absurd (tables_refuse rows table f k h)
over_unique Writes one rows a b s t (inr ((table, f, k, e), d)) (inl (h, x)) = absurd (tables_refuse rows table f k h)
over_unique Writes one rows a b s t (inr (x, d)) (inr (y, e)) = (refuses_unique rows a b x y, d ∙ sym e)

-- a command writes one text there only
pub record WritesOnce (b : Behind) : Type 0 where
  pub at_end : (tables : TableContents) (x y : List ℕ) (s t : Status) → b.AtEnd tables x s → b.AtEnd tables y t → (x ≡ y) × (s ≡ t)
  pub at_line : (rows : TableRows) (n : ℕ) (request : RequestLine) (others : List (List ℕ)) (x y : List ℕ) (s t : Status) → b.AtLine rows n request others x s → b.AtLine rows n request others y t → (x ≡ y) × (s ≡ t)

says_at_unique : (b : Behind) → WritesOnce b → (end : RowsEnd) (whole : Bool) (rows : TableRows) (x y : List ℕ) (s t : Status) → SaysAt b end whole rows x s → SaysAt b end whole rows y t → (x ≡ y) × (s ≡ t)
says_at_unique b once WithLines true rows x y s t h k = over_unique b.AtEnd once.at_end rows x y s t h k
says_at_unique b once WithLines false rows x y s t (e, d) (f, g) = (e ∙ sym f, d ∙ sym g)
says_at_unique b once (AtFaultyRow n why) whole rows x y s t (e, d) (f, g) = (e ∙ sym f, d ∙ sym g)
says_at_unique b once (AtRequest n request others) whole rows x y s t h k = once.at_line rows n request others x y s t h k

pub behind_unique : (b : Behind) → WritesOnce b → IsUnique (SaysBehindRows b)
behind_unique b once bytes whole x y s t h k =
    let (ends, rows) = rows_end-unique (lines_in bytes whole) k.end h.end k.rows h.rows k.ends h.ends in
    says_at_unique b once h.end whole h.rows x y s t h.says
    (subst (λ (r : TableRows). SaysAt b h.end whole r y t) rows (subst (λ (e : RowsEnd). SaysAt b e whole k.rows y t) ends k.says))

-- ends at a line that stay, whatever comes behind it
pub record KeepsEnd (b : Behind) (Ends : Status → Type 0) : Type 0 where
  pub done : Ends Done → ⊥
  pub at_line : (rows : TableRows) (n : ℕ) (request : RequestLine) (others more : List (List ℕ)) (text : List ℕ) (status : Status) → Ends status → b.AtLine rows n request others text status → b.AtLine rows n request (others ++ more) text status

behind_more : (b : Behind) (Ends : Status → Type 0) → KeepsEnd b Ends → (bytes : List ℕ) (all : List ℕ) (whole : Bool) (others : List (List ℕ)) (rows : TableRows) (end : RowsEnd) (text : List ℕ) (status : Status) → lines_in all whole ≡ lines_in bytes false ++ others
    → Ends status → EndRows end (lines_in bytes false) rows → SaysAt b end false rows text status → SaysBehindRows b all whole text status
behind_more b Ends keeps bytes all whole others rows WithLines text status lines ends h (x, e) = absurd (keeps.done (subst Ends e ends))
behind_more b Ends keeps bytes all whole others rows (AtFaultyRow n why) text status lines ends (line, more, h, row, is, takes) says = record {
  rows = rows;
  end = AtFaultyRow n why;
  ends = subst (λ (y : List (List ℕ)). EndRows (AtFaultyRow n why) y rows) (sym lines) (line, more ++ others, end_before (lines_in bytes false) others rows n line more h, row, is, takes);
  says = says;
}
behind_more b Ends keeps bytes all whole others rows (AtRequest n request rest) text status lines ends (line, more, h, is, same) says = record {
  rows = rows;
  end = AtRequest n request (rest ++ others);
  ends = subst (λ (y : List (List ℕ)). EndRows (AtRequest n request (rest ++ others)) y rows) (sym lines) (line, more ++ others, end_before (lines_in bytes false) others rows n line more h, is, ap (λ t. t ++ others) same);
  says = keeps.at_line rows n request rest others text status ends says;
}

-- what ends a run at a line, ends it whatever comes behind
pub behind_ends : (b : Behind) (Ends : Status → Type 0) → KeepsEnd b Ends → (bytes more : List ℕ) (whole : Bool) (text : List ℕ) (status : Status) → Ends status → SaysBehindRows b bytes false text status → SaysBehindRows b (bytes ++ more) whole text status
behind_ends b Ends keeps bytes more whole text status ends h =
    let (others, lines) = lines_in-prefix bytes more whole in
    behind_more b Ends keeps bytes (bytes ++ more) whole others h.rows h.end text status lines ends h.ends h.says

-- what is written at a line goes on where more lines come
pub record GrowsAtLine (b : Behind) : Type 0 where
  pub at_line : (rows : TableRows) (n : ℕ) (request : RequestLine) (others more : List (List ℕ)) (text : List ℕ) (status : Status) → b.AtLine rows n request others text status
      → (added : List ℕ) × (next : Status) × b.AtLine rows n request (others ++ more) (text ++ added) next

-- nothing is written, or it goes on
abbrev GoesOn : Behind → List ℕ → Bool → List ℕ → Type 0
GoesOn b all whole text = (text ≡ []) ⊎ ((added : List ℕ) × (next : Status) × SaysBehindRows b all whole (text ++ added) next)

says_more : (b : Behind) → GrowsAtLine b → (bytes : List ℕ) (all : List ℕ) (whole : Bool) (others : List (List ℕ)) (rows : TableRows) (end : RowsEnd) (text : List ℕ) (status : Status) → lines_in all whole ≡ lines_in bytes false ++ others
    → EndRows end (lines_in bytes false) rows → SaysAt b end false rows text status → GoesOn b all whole text
says_more b grows bytes all whole others rows WithLines text status lines h (x, e) = inl x
says_more b grows bytes all whole others rows (AtFaultyRow n why) text status lines (line, more, h, row, is, takes) (x, e) = inr (
  [],
  status,
  record {
    rows = rows;
    end = AtFaultyRow n why;
    ends = subst (λ (y : List (List ℕ)). EndRows (AtFaultyRow n why) y rows) (sym lines) (line, more ++ others, end_before (lines_in bytes false) others rows n line more h, row, is, takes);
    says = (append-nil text ∙ x, e);
  },
)
says_more b grows bytes all whole others rows (AtRequest n request rest) text status lines (line, more, h, is, same) says =
    let (added, next, written) = grows.at_line rows n request rest others text status says in
    inr (
      added,
      next,
      record {
        rows = rows;
        end = AtRequest n request (rest ++ others);
        ends = subst (λ (y : List (List ℕ)). EndRows (AtRequest n request (rest ++ others)) y rows) (sym lines) (line, more ++ others, end_before (lines_in bytes false) others rows n line more h, is, ap (λ t. t ++ others) same);
        says = written;
      },
    )

-- so the text for what has come is a prefix of the text for what comes later
pub behind_prefix : (b : Behind) → WritesOnce b → GrowsAtLine b → PrefixesHavePrefixes (SaysBehindRows b)
behind_prefix b once grows bytes more whole x y s t h k =
    let (others, lines) = lines_in-prefix bytes more whole in
    by (says_more b grows bytes (bytes ++ more) whole others h.rows h.end x s lines h.ends h.says)
  where
    by : GoesOn b (bytes ++ more) whole x → (rest : List ℕ) × (y ≡ x ++ rest)
    by (inl none) = (y, ap (λ t. t ++ y) (sym none))
    by (inr (added, next, says)) = (added, (behind_unique b once (bytes ++ more) whole y (x ++ added) t next k says).0)
