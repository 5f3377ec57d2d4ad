-- Requests that a number asks for, and the totals over them.
use Rattle.std.proofs.Common.{◌≡◌, ℕ, zero, suc, false, Ok, Err, List, [], Option, refl, sym, ap, subst, ◌∙◌, ℤ}
use Rattle.cal_types.specs.CalendarList.{day_number}
use Rattle.cal_types.proofs.ListLemmas.{on-finds}
use Rattle.cal_types.specs.Difference.{largest_unit_of}
use Rattle.cal_types.specs.Spans.{SpanDates}
use Rattle.cal_types.specs.declared.span_error.SpanError.{SpanError}
use Rattle.cal_types.proofs.SpanLemmas.{span-exists, span-unique}
use Rattle.cal_tables.specs.Kinds.{TableContents, kind_system, no_contents}
use Rattle.reply_texts.specs.DateParts.{AreNamed, AreRefused}
use Rattle.reply_texts.specs.declared.span_parts.SpanParts.{SpanParts}
use Rattle.calspan_run.specs.Generator.{generated_request, with_answer, with_refusal, with_span, no_totals, totals_text, IsCounted, AreTotals, IsGenerated}
use Rattle.calspan_run.specs.Endings.{MayEnd}
use Rattle.calspan_run.specs.Laws.{AreLasting}
use Rattle.calspan_run.specs.Replies.{options_of}
use Rattle.calspan_run.specs.Rules.{generator_rules}
use Rattle.calspan_run.specs.declared.status.Status.TheVariants.{Done}
use Rattle.std.proofs.KnownBytes.{Consumes-nil}
use Rattle.request_lines.specs.Requests.{Request}
use Rattle.calspan_run.specs.declared.generated.totals.Totals.{Totals}
use Rattle.cal_tables.proofs.KindLemmas.{kind_lawful}
use Rattle.calspan_run.proofs.KindLimits.{plain_limits}

abbrev totals : ℕ → ℕ → ℤ → ℕ → ℕ → ℕ → ℕ → Totals
totals answered refused day_numbers years months weeks days = record { answered = answered; refused = refused; day_numbers = day_numbers; years = years; months = months; weeks = weeks; days = days }

-- totals of the same sums
pub same_totals : (a r : ℕ) (n m : ℤ) (y z k l v w d e : ℕ) → n ≡ m → y ≡ z → k ≡ l → v ≡ w → d ≡ e → totals a r n y k v d ≡ totals a r m z l w e
same_totals a r n m y z k l v w d e f g h i j = rw (f, g, h, i, j) refl

-- what a request names or refuses, over tables without rows, counts it
module _ (r : Request) (before after : Totals) (t : TableContents) (none : t ≡ no_contents) where
  pub counted-named : (p : SpanParts) → AreNamed (kind_system t r.calendar) r.from r.to (options_of r) (largest_unit_of r.unit) p → after ≡ with_span before p.from.rata_die p.to.rata_die p.duration → IsCounted r before after
  counted-named p over sum =
      let named = subst (λ (t : TableContents). AreNamed (kind_system t r.calendar) r.from r.to (options_of r) (largest_unit_of r.unit) p) none over in
      let c = kind_system no_contents r.calendar in
      let shown = (kind_system no_contents r.shown).list in
      let from = on-finds shown (kind_lawful no_contents r.shown) (day_number c.list named.from_date) in
      let to = on-finds shown (kind_lawful no_contents r.shown) (day_number c.list named.to_date) in
      let dates : SpanDates = record { from = named.from_date; from_shown = from.0; to = named.to_date; to_shown = to.0; duration = p.duration } in
      record {
        answer = Ok dates;
        span = record { from = named.from; to = named.to; from_shown = from.1; to_shown = to.1; until = named.until };
        counts = sum ∙ (ap (λ (n : ℤ). with_span before n p.to.rata_die p.duration) named.from_parts.rata_die ∙ ap (λ (n : ℤ). with_span before (day_number c.list named.from_date) n p.duration) named.to_parts.rata_die);
      }

  pub counted-refused : (e : SpanError) → AreRefused (kind_system t r.calendar) r.from r.to (options_of r) e → after ≡ with_refusal before → IsCounted r before after
  counted-refused e over sum =
      let refused = subst (λ (t : TableContents). AreRefused (kind_system t r.calendar) r.from r.to (options_of r) e) none over in
      record { answer = Err e; span = refused.refuses; counts = sum }

-- one more request has one answer
counted_exists : (r : Request) (before : Totals) → (after : Totals) × IsCounted r before after
counted_exists r before =
    let c = kind_system no_contents r.calendar in
    let found = span-exists c (kind_system no_contents r.shown).list (kind_lawful no_contents r.calendar) (kind_lawful no_contents r.shown) (plain_limits r.calendar) r.from r.to (options_of r) (largest_unit_of r.unit) in
    (with_answer before c found.0, record { answer = found.0; span = found.1; counts = refl })

counted_unique : (r : Request) (before a b : Totals) → IsCounted r before a → IsCounted r before b → a ≡ b
counted_unique r before a b x y =
    let c = kind_system no_contents r.calendar in
    let same = span-unique c (kind_system no_contents r.shown).list r.from r.to (options_of r) (largest_unit_of r.unit) x.answer y.answer x.span y.span in
    x.counts ∙ (ap (with_answer before c) same ∙ sym y.counts)

-- so have the first requests
totals_exist : (n : ℕ) → (t : Totals) × AreTotals n t
totals_exist zero = (no_totals, refl)
totals_exist (suc n) =
    let (before, first) = totals_exist n in
    let (after, more) = counted_exists (generated_request n) before in
    (after, (before, first, more))

totals_unique : (n : ℕ) (a b : Totals) → AreTotals n a → AreTotals n b → a ≡ b
totals_unique zero a b x y = x ∙ sym y
totals_unique (suc n) a b (s, x, p) (t, y, q) =
    let same = totals_unique n s t x y in
    counted_unique (generated_request n) t a b (subst (λ (u : Totals). IsCounted (generated_request n) u a) same p) q

-- a number has a line, and only one
pub line_exists : (n : ℕ) → (text : List ℕ) × IsGenerated n text
line_exists n = let (t, totals) = totals_exist n in (totals_text n t, (t, totals, refl))

pub line_unique : (n : ℕ) (a b : List ℕ) → IsGenerated n a → IsGenerated n b → a ≡ b
line_unique n a b (s, x, p) (t, y, q) = p ∙ (ap (totals_text n) (totals_unique n s t x y) ∙ sym q)

-- the line of so many requests ends a run that read nothing
pub may_end : (count : ℕ) (left : Option (List ℕ)) (text : List ℕ) → IsGenerated count text → MayEnd (generator_rules count) left left text Done
may_end count left text says = record {
  bytes = [];
  whole = false;
  took = Consumes-nil left;
  says = (says, refl);
  at_end = λ e. absurd cc;
  at_line = λ e. refl;
}

-- what it writes is the same, whatever comes
pub generator_lasts : (count : ℕ) → AreLasting (generator_rules count)
generator_lasts count = record {
  ends = λ bytes more whole text status ends says. says;
  lacks = λ bytes more lacks. absurd lacks;
}
