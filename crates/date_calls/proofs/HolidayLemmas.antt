-- What a list of holidays leaves at each step, and what is listed from its first day and rule on.
use Rattle.std.proofs.Common.{◌≡◌, ◌∙◌, ℕ, ◌+◌, ℤ, pos, ◌+ℤ◌, ◌≤ℤ◌, Bool, cond, if◌then◌else◌, true, false, List, [], ◌∷◌, take, Option, Some, None, refl, sym, ap, subst}
use Rattle.std.specs.Prelude.{MatchOption, int_lt, nat_lt}
use Rattle.cal_holidays.specs.BookNames.{holidays_in}
use Rattle.cal_holidays.specs.Books.{named_rules}
use Rattle.cal_holidays.specs.Found.{stretch_of}
use Rattle.cal_holidays.specs.Listing.{IsRest, pair_given}
use Rattle.cal_holidays.specs.Merging.{Stretch, behind}
use Rattle.cal_holidays.specs.NamedDays.{AreHolidays}
use Rattle.cal_holidays.specs.declared.book_rules.BookRules.{BookRules}
use Rattle.cal_holidays.specs.declared.merged.Holiday.{Holiday}
use Rattle.cal_holidays.specs.declared.rest.Rest.{Rest}
use Rattle.cal_tables.specs.Kinds.{table_contents}
use Rattle.cal_types.specs.declared.window.Window.{Window}
use Rattle.date_calls.specs.Holidays.{AreHolidaysListed, FillsHolidays, StepsHolidays, holidays_from, left_in, next_rule, pairs_before, window_left}
use Rattle.date_calls.specs.Lists.{EndsOn, next_day}
use Rattle.date_calls.specs.declared.books.CalendarHoliday.{CalendarHoliday}
use Rattle.date_calls.proofs.ListLemmas.{behind_last, in_order}

-- what is behind an item ends where the stretch ends
behind-last : (count : ℕ) (s t : Stretch) (n : ℤ) (r : ℕ) → Some t ≡ behind count s n r → t.last ≡ s.last
behind-last count s t n r e = by (nat_lt (r + 1) count) (int_lt n s.last) e
  where
    here : Stretch
    here = record { first = n; last = s.last; first_rule = r + 1 }

    next : Stretch
    next = record { first = n +ℤ pos 1; last = s.last; first_rule = 0 }

    by : (a b : Bool) → Some t ≡ (if a then Some (record { first = n; last = s.last; first_rule = r + 1 }) else if b then Some (record { first = n +ℤ pos 1; last = s.last; first_rule = 0 }) else None) → t.last ≡ s.last
    by true b h =
        let same : t ≡ here = cc in
        ap (λ (u : Stretch). u.last) same
    by false true h =
        let same : t ≡ next = cc in
        ap (λ (u : Stretch). u.last) same
    by false false h = absurd cc

step-ends : (b next_b : BookRules) (count : ℕ) (rest left : Option Rest) (h : Holiday) → left_in b rest ≡ pair_given h ∷ left_in next_b left → IsRest count rest (Some h) left →
    (last : ℤ) → EndsOn last (window_left rest) → EndsOn last (window_left left)
step-ends b next_b count None left h gives is last ends = absurd cc
step-ends b next_b count (Some r) None h gives is last ends = tt
step-ends b next_b count (Some r) (Some l) h gives is last ends = behind-last count (stretch_of r) (stretch_of l) h.day h.rule is ∙ ends

-- a step of the list leaves what is behind the item that it gives
pub holiday-steps : (b next_b : BookRules) → next_b ≡ b → (count : ℕ) (rest left : Option Rest) (item : Option Holiday) →
    MatchOption item ((left_in b rest ≡ []) × (left_in next_b left ≡ [])) (λ h. left_in b rest ≡ pair_given h ∷ left_in next_b left) →
    IsRest count rest item left → StepsHolidays b rest item left
holiday-steps b next_b same count rest left None gives is = record {
  gives = (gives.0, is);
  ends = λ last ends. subst (λ o. EndsOn last (window_left o)) (sym is) tt;
}
holiday-steps b next_b same count rest left (Some h) gives is = record {
  gives = gives ∙ ap (λ (a : BookRules). pair_given h ∷ left_in a left) same;
  ends = step-ends b next_b count rest left h gives is;
}

-- the holidays by the rules of a book, from a day and a rule on
abbrev from_rule : BookRules → ℤ → ℤ → ℕ → List (ℤ × ℕ)
from_rule b first last first_rule = holidays_from (table_contents b.tables) (named_rules b.book.now) first last first_rule

rest-listed : (b : BookRules) (last : ℤ) (left : Option Rest) → EndsOn last (window_left left) →
    left_in b left ≡ from_rule b (next_day last (window_left left)) last (next_rule left)
rest-listed b last None ends =
    sym (ap (λ t. cond t (holidays_in (table_contents b.tables) (named_rules b.book.now) (last +ℤ pos 1) last 0) []) (behind_last last))
rest-listed b last (Some r) ends =
    let w = r.window in
    ap (λ end. holidays_in (table_contents b.tables) (named_rules b.book.now) w.first end r.first_rule) ends
    ∙ sym (ap (λ t. cond t (holidays_in (table_contents b.tables) (named_rules b.book.now) w.first last r.first_rule) [])
    (in_order w.first last (subst (λ z. w.first ≤ℤ z) ends w.days.order)))

-- what was written of a whole window is what is listed of it
pub holidays-listed : (b of : BookRules) → b ≡ of → (w : Window) (first_rule : ℕ) (rest left : Option Rest) → rest ≡ Some (record { window = w; first_rule = first_rule }) →
    left_in b rest ≡ holidays_in (table_contents of.tables) (named_rules of.book.now) w.first w.last first_rule →
    AreHolidays (table_contents of.tables) (named_rules of.book.now) w.first w.last first_rule (left_in b rest) →
    (before now : List CalendarHoliday) (written : ℕ) → FillsHolidays b rest left before now written →
    AreHolidaysListed (table_contents of.tables) (named_rules of.book.now) w.first w.last first_rule before now written
    (next_day w.last (window_left left)) (next_rule left)
holidays-listed b of same w first_rule rest left is list meant before now written fills = record {
  parts =
      sym list ∙ fills.parts
      ∙ ap (pairs_before (take written now))
      (ap (λ (a : BookRules). left_in a left) same
      ∙ rest-listed of w.last left (fills.ends w.last (subst (λ o. EndsOn w.last (window_left o)) (sym is) refl)));
  meant = subst (AreHolidays (table_contents of.tables) (named_rules of.book.now) w.first w.last first_rule) list meant;
  behind = fills.behind;
  fits = fills.fits;
  complete = λ short. (ap (λ o. next_day w.last (window_left o)) (fills.complete short), ap next_rule (fills.complete short));
}
