use Rattle.std.proofs.Common.{◌≡◌, ℕ, suc, ◌+◌, rules, sym, ap, subst, ◌∙◌, arith}
use Rattle.calspan_run.specs.Generator.{AreTotals, IsCounted}
use Rattle.request_lines.specs.Requests.{Request}
use Rattle.calspan_run.proofs.generated.totals.totals_over.Goals as goal

pub requests-preserved : goal.requests-preserved
requests-preserved c =
    let h = c.requests.invariant in
    let next : c.requests.index + 1 ≡ suc c.requests.index = omega arith in
    let one = subst (λ (r : Request). IsCounted r c.requests.totals c.with_request-totals.result) c.generated_request.ensures c.with_request-totals.ensures.counted in
    record {
      within = search rules;
      totals = subst (λ (n : ℕ). AreTotals n c.with_request-totals.result) (sym next) (c.requests.totals, h.totals, one);
      bounded = c.with_request-totals.ensures.bounded;
      number = c.with_request-totals.ensures.one ∙ ap (λ (k : ℕ). k + 1) h.number;
    }
