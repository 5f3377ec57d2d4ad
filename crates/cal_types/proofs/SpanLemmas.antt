-- Two bags have an answer, and only one.
use Rattle.std.proofs.Common.{◌≡◌, Result, Ok, Err, refl, sym, ap, subst, ◌∙◌}
use Rattle.cal_types.specs.Bag.{Bag}
use Rattle.cal_types.specs.declared.options.DateFromFieldsOptions.{DateFromFieldsOptions}
use Rattle.cal_types.specs.declared.duration.DateDuration.{DateDuration}
use Rattle.cal_types.specs.declared.duration.DateDurationUnit.{DateDurationUnit}
use Rattle.cal_errors.specs.declared.errors.DateFromFieldsError.{DateFromFieldsError}
use Rattle.cal_types.specs.CalendarList.{CalendarList, Date, IsLawful, IsOn, IsValidDate, day_number}
use Rattle.cal_types.specs.CalendarSystem.{CalendarSystem, resolve_fields}
use Rattle.cal_types.specs.Resolving.{Resolved, overflow_of, missing_fields_of}
use Rattle.cal_types.specs.Difference.{IsDifference}
use Rattle.cal_types.proofs.ListLemmas.{on-finds, on-unique}
use Rattle.cal_types.proofs.ResolvingLemmas.{resolve-date}
use Rattle.cal_types.proofs.AddingLemmas.{difference-added_back}
use Rattle.cal_types.proofs.DifferenceLaws.{difference-exists, difference-unique}
use Rattle.cal_types.specs.SpanLaws.{IsWithinLimits}
use Rattle.cal_types.specs.Spans.{SpanDates, AnswersBags, RefusesBag, IsSpan}
use Rattle.cal_types.specs.declared.span_error.BagSide.{BagSide}
use Rattle.cal_types.specs.declared.span_error.BagSide.TheVariants.{From, To}
use Rattle.cal_types.specs.declared.span_error.SpanError.{SpanError}

module _ (c : CalendarSystem) (shown : CalendarList) (law : IsLawful c.list) (law_shown : IsLawful shown) (limits : IsWithinLimits c) (from to : Bag) (o : DateFromFieldsOptions) (unit : DateDurationUnit) where
  abbrev Answer : Type 0
  Answer = (r : Result SpanDates SpanError) × IsSpan c shown from to o unit r

  -- what a bag resolves to is a date with a valid day
  dated_bag : (bag : Bag) (t : Date) → resolve_fields c bag o ≡ Ok t → IsValidDate c.list t
  dated_bag bag t e =
      let found = resolve-date c.list law c.year_names bag (overflow_of o.overflow) (missing_fields_of o.missing_fields_strategy) t e in
      record { date = found.0; valid = found.1 }

  -- two dates have the rest of an answer
  dated : (t u : Date) → resolve_fields c from o ≡ Ok t → resolve_fields c to o ≡ Ok u → Answer
  dated t u p q =
      let on_from = on-finds shown law_shown (day_number c.list t) in
      let on_to = on-finds shown law_shown (day_number c.list u) in
      let h = dated_bag from t p in
      let k = dated_bag to u q in
      let first = limits.ranged t h in
      let last = limits.ranged u k in
      let apart = difference-exists c.list law t u h.date k.date unit in
      let back = difference-added_back c.list law t u h k unit apart.0 apart.1 c.year_shift first.0 last.0 first.1 last.1 (limits.apart t u h k) in
      let dates : SpanDates = record { from = t; from_shown = on_from.0; to = u; to_shown = on_to.0; duration = apart.0 } in
      (Ok dates, record { from = p; to = q; from_shown = on_from.1; to_shown = on_to.1; until = record { difference = apart.1; leads_back = back } })

  second : (t : Date) → resolve_fields c from o ≡ Ok t → (r : Resolved Date) → resolve_fields c to o ≡ r → Answer
  second t p (Ok u) q = dated t u p q
  second t p (Err e) q = (Err (record { side = To; cause = e }), (t, p, q))

  first : (r : Resolved Date) → resolve_fields c from o ≡ r → Answer
  first (Ok t) p = second t p (resolve_fields c to o) refl
  first (Err e) p = (Err (record { side = From; cause = e }), p)

  -- two bags have an answer
  pub span-exists : (r : Result SpanDates SpanError) × IsSpan c shown from to o unit r
  span-exists = first (resolve_fields c from o) refl

same_ok : {t u : Date} → ◌≡◌ {A = Resolved Date} (Ok t) (Ok u) → t ≡ u
same_ok e = cc

same_err : {d e : DateFromFieldsError} → ◌≡◌ {A = Resolved Date} (Err d) (Err e) → d ≡ e
same_err e = cc

no_both : {P : Type 0} {t : Date} {e : DateFromFieldsError} → ◌≡◌ {A = Resolved Date} (Ok t) (Err e) → P
no_both e = cc

same_dates : (a b : SpanDates) → a.from ≡ b.from → a.from_shown ≡ b.from_shown → a.to ≡ b.to → a.to_shown ≡ b.to_shown → a.duration ≡ b.duration → a ≡ b
same_dates a b p q r s t = let parts : dates a.from a.from_shown a.to a.to_shown a.duration ≡ dates b.from b.from_shown b.to b.to_shown b.duration = cc in parts where
  dates : Date → Date → Date → Date → DateDuration → SpanDates
  dates f g h i d = record { from = f; from_shown = g; to = h; to_shown = i; duration = d }

module _ (c : CalendarSystem) (shown : CalendarList) (from to : Bag) (o : DateFromFieldsOptions) (unit : DateDurationUnit) where
  answers-unique : (a b : SpanDates) → AnswersBags c shown from to o unit a → AnswersBags c shown from to o unit b → a ≡ b
  answers-unique a b p q =
      let froms = same_ok (sym p.from ∙ q.from) in
      let tos = same_ok (sym p.to ∙ q.to) in
      let from_shown = subst (λ (t : Date). IsOn shown (day_number c.list t) b.from_shown) (sym froms) q.from_shown in
      let to_shown = subst (λ (t : Date). IsOn shown (day_number c.list t) b.to_shown) (sym tos) q.to_shown in
      let apart = subst (λ (t : Date). IsDifference c.list t a.to unit b.duration) (sym froms) (subst (λ (t : Date). IsDifference c.list b.from t unit b.duration) (sym tos) q.until.difference) in
      same_dates a b froms (on-unique shown (day_number c.list a.from) a.from_shown b.from_shown p.from_shown from_shown) tos
      (on-unique shown (day_number c.list a.to) a.to_shown b.to_shown p.to_shown to_shown)
      (difference-unique c.list a.from a.to unit a.duration b.duration p.until.difference apart)

  same_error : (d e : SpanError) → d.side ≡ e.side → d.cause ≡ e.cause → d ≡ e
  same_error d e p q = let parts : error d.side d.cause ≡ error e.side e.cause = cc in parts where
    error : BagSide → DateFromFieldsError → SpanError
    error side cause = record { side = side; cause = cause }

  refuses-unique : (s t : BagSide) (d e : DateFromFieldsError) → RefusesBag c from to o s d → RefusesBag c from to o t e → (s ≡ t) × (d ≡ e)
  refuses-unique From From d e p q = (refl, same_err (sym p ∙ q))
  refuses-unique From To d e p (t, q, r) = no_both (sym q ∙ p)
  refuses-unique To From d e (t, q, r) p = no_both (sym q ∙ p)
  refuses-unique To To d e (t, q, r) (u, v, w) = (refl, same_err (sym r ∙ w))

  answers-refuses : {P : Type 0} (a : SpanDates) (s : BagSide) (e : DateFromFieldsError) → AnswersBags c shown from to o unit a → RefusesBag c from to o s e → P
  answers-refuses a From e p q = no_both (sym p.from ∙ q)
  answers-refuses a To e p (t, q, r) = no_both (sym p.to ∙ r)

  -- and only one
  pub span-unique : (r s : Result SpanDates SpanError) → IsSpan c shown from to o unit r → IsSpan c shown from to o unit s → r ≡ s
  span-unique (Ok a) (Ok b) p q = ap ok (answers-unique a b p q) where
    ok : SpanDates → Result SpanDates SpanError
    ok x = Ok x
  span-unique (Ok a) (Err e) p q = answers-refuses a e.side e.cause p q
  span-unique (Err e) (Ok a) p q = answers-refuses a e.side e.cause q p
  span-unique (Err d) (Err e) p q = let same = refuses-unique d.side e.side d.cause e.cause p q in ap err (same_error d e same.0 same.1) where
    err : SpanError → Result SpanDates SpanError
    err x = Err x
