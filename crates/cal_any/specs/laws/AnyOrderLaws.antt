-- The laws of equality and order of inner dates of any calendars.
use Rattle.std.proofs.Common.{◌≡◌, ℕ, Bool, ◌==◌, Some, arith}
use Rattle.std.specs.Prelude.{◌&&◌, None, Option, if◌then◌else◌}
use Rattle.std.specs.Ordering.{is_eq}
use Rattle.std.specs.Cmp.{IsPartialOrder, IsPartialEquivalence, IsEquivalence, IsTotalOrder, on_equiv, on_total, and_equiv, partial_equiv_from_equiv, nat_eq_equiv}
use Rattle.std.specs.declared.cmp.Ordering.{Ordering}
use Rattle.std.proofs.lemmas.Grind.{common_steps}
use Rattle.std.proofs.lemmas.Bool.Decides.{nat_tests}
use Rattle.cal_types.proofs.OrderLemmas.{date_eq-equiv, date_cmp-total, date_eq-ties}
use Rattle.cal_any.specs.AnyOrder.{kind_of, kept_date, any_eq, any_cmp}

pub any_equal : IsEquivalence any_eq
any_equal = and_equiv (on_equiv kind_of nat_eq_equiv) (on_equiv kept_date date_eq-equiv)

pub any_alike : IsPartialEquivalence any_eq
any_alike = partial_equiv_from_equiv any_equal

-- a total order within each kind, and none across two, is a partial order
module _ {K : Type 0} (kind : K → ℕ) (E : K → K → Bool) (R : K → K → Ordering) (order : IsTotalOrder R) (ties : (a b : K) → E a b ≡ is_eq (R a b)) where
  abbrev equal : K → K → Bool
  equal a b = (kind a == kind b) && E a b

  abbrev ordered : K → K → Option Ordering
  ordered a b = if kind a == kind b then Some (R a b) else None

  pub order_within : IsPartialOrder equal ordered
  order_within = record {
    antisymm = λ a b. grind (arith, nat_tests, common_steps, order.antisymm a b);
    trans = λ a b c p q. grind (arith, nat_tests, common_steps, order.trans a b c);
    matches_eq = λ a b. (λ p. grind (arith, nat_tests, common_steps, ties a b), λ p. grind (arith, nat_tests, common_steps, ties a b));
    congr = λ a b c p. grind (arith, nat_tests, common_steps, ties a b, order.congr a b c);
  }

pub any_partial_order : IsPartialOrder any_eq any_cmp
any_partial_order = order_within kind_of _ _ (on_total kept_date date_cmp-total) (λ a b. date_eq-ties (kept_date a) (kept_date b))
