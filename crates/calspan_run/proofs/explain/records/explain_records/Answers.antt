use Rattle.std.proofs.Common.{Bor, List, ℕ, ◌≡◌, ◌+◌, ◌||◌, ◌∙◌, sym, ap, ap₂, subst, refl, rules, inl, inr, true, length, Some, ◌∷◌, ◌++◌, [], arith}
use Rattle.std.proofs.lemmas.List.{length-append}
use Rattle.csv.proofs.ReadFacts.{rows-end, rows-more}
use Rattle.csv.specs.Reading.{Reached, default_config, strip_bom}
use Rattle.csv.specs.Records.{fields_of}
use Rattle.csv.specs.declared.parser.State.TheVariants as st
use Rattle.cal_holidays.proofs.RecordLemmas.{records-all}
use Rattle.calspan_run.specs.RecordsExplained.{any_invalid, record_line, record_lines}
use Rattle.calspan_run.proofs.RecordLineLemmas.{invalid_behind, lines_behind}
use Rattle.calspan_run.proofs.explain.records.explain_records.Goals as goal

pub loop-row-init : goal.loop-row-init
unfolding Reached
loop-row-init c =
    let fr = c.from_reader-reader.ensures in
    let e = c.has_headers.ensures in
    let f = c.flexible.ensures in
    let start = c.into_iter-row-iterator.ensures.into_iter_gives ∙ refl in
    let rdr = c.into_byte_records-row-items.ensures.rdr in
    let left = c.into_byte_records-row-items.ensures.left in
    rw (start, rdr) (
      rw (f, e) at fr.trim ∙ c.new.ensures.trim,
      inr (inr (rw (f, e) at fr.has_headers, fr.headers)),
      left,
      rw (f, e) at fr.config ∙ c.new.ensures.config,
      strip_bom c.args.book.now,
      fr.source,
      [],
      (sym fr.state, refl),
      refl,
      c.new-text.ensures.items,
      refl,
      rw f at fr.flexible,
    )

pub loop-row-preserved : goal.loop-row-preserved
loop-row-preserved c =
    let inv = c.loop-row.invariant in
    let row = fields_of c.in-Ok.row in
    let s = rw (c.in-Some.is, c.in-Ok.is) at ((c.next.ensures.steps inv.2 inv.0).0 inv.1) in
    let flexible = rw (c.in-Some.is, c.in-Ok.is) at (c.next.ensures.steps inv.2 inv.0).3 in
    let m = rows-more (λ (s : Bor (List ℕ)). Some s.now) c.loop-row.row-iterator.rdr c.next.new.self.rdr row default_config st.StartRecord (strip_bom c.args.book.now) inv.4 inv.6 inv.3 inv.5 inv.7 s.0 in
    let next : c.in-Some-checked_add.next ≡ c.loop-row.number + 1 = search rules in
    let number : c.in-Some-checked_add.next ≡ 1 + length inv.6 = omega (arith, next, inv.8) in
    let line = c.in_ok-this.ensures.line ∙ ap₂ (λ t n. t ++ (record_line n row).0) inv.9 number in
    let is_invalid = c.in_ok-this.ensures.is_invalid ∙ ap (λ n. (record_line n row).1) number in (
      s.0.3 ∙ inv.0,
      inl s.1,
      s.2,
      s.0.2 ∙ inv.3,
      m.0,
      m.1,
      inv.6 ++ (row ∷ []),
      m.2,
      omega (arith, number, length-append inv.6 (row ∷ [])),
      line ∙ sym (lines_behind 1 inv.6 row),
      c.either-is_invalid.ensures ∙ (ap₂ (λ a b. a || b) inv.10 is_invalid ∙ sym (invalid_behind 1 inv.6 row)),
      flexible ∙ inv.11,
    )

pub returns : goal.returns
returns c =
    let inv = c.loop-row.invariant in
    let s = rw c.in-None.is at ((c.next.ensures.steps inv.2 inv.0).0 inv.1) in
    let ended = rows-end (λ (s : Bor (List ℕ)). Some s.now) c.loop-row.row-iterator.rdr c.next.new.self.rdr [] default_config inv.4 inv.3 inv.5 s in
    let all = records-all default_config c.loop-row.row-iterator.rdr.state (strip_bom c.args.book.now) inv.4 inv.6 inv.7 ended in
    ap₂ (λ t b. (t, b)) (inv.9 ∙ ap (record_lines 1) (sym all)) (inv.10 ∙ ap (any_invalid 1) (sym all))
