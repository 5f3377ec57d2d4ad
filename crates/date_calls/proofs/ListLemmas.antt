-- What is left of a window is what is listed from its first day on.
use Rattle.std.proofs.Common.{◌≡◌, ◌∙◌, ◌++◌, ℕ, ℤ, pos, ◌+ℤ◌, ◌≤ℤ◌, int_le, cond, true, false, List, [], take, Option, Some, None, refl, sym, ap, subst, arith}
use Rattle.std.proofs.lemmas.Int.{ints}
use Rattle.cal_types.specs.declared.window.Window.{Window}
use Rattle.date_calls.specs.Lists.{EndsOn, FillsFirst, IsListed, items_from, items_in, next_day}

pub in_order : (a b : ℤ) → a ≤ℤ b → int_le a b ≡ true
in_order a b le = grind (arith, ints, le)

pub behind_last : (last : ℤ) → int_le (last +ℤ pos 1) last ≡ false
behind_last last = grind (arith, ints)

pub items-left : {O : Type 0} (between : ℤ → ℤ → List O) (last : ℤ) (left : Option Window) → EndsOn last left → items_in between left ≡ items_from between (next_day last left) last
items-left between last None ends = sym (ap (λ b. cond b (between (last +ℤ pos 1) last) []) (behind_last last))
items-left between last (Some w) ends =
    ap (between w.first) ends
    ∙ sym (ap (λ b. cond b (between w.first last) []) (in_order w.first last (subst (λ z. w.first ≤ℤ z) ends w.days.order)))

-- what was written of a whole window is what is listed of it
pub listed-first : {O : Type 0} (between next_between : ℤ → ℤ → List O) (w : Window) (left next_left : Option Window) (before now : List O) (written : ℕ) → left ≡ Some w → FillsFirst between next_between left next_left before now written → IsListed between w.first w.last before now written (next_day w.last next_left)
listed-first between next_between w left next_left before now written is fills = record {
  parts =
      ap (items_in between) (sym is) ∙ fills.parts
      ∙ ap (λ (f : ℤ → ℤ → List _). take written now ++ items_in f next_left) fills.same
      ∙ ap (λ items. take written now ++ items) (items-left between w.last next_left (fills.ends w.last (subst (λ o. EndsOn w.last o) (sym is) refl)));
  behind = fills.behind;
  fits = fills.fits;
  complete = λ short. ap (next_day w.last) (fills.complete short);
}
