use Rattle.std.proofs.Common.{◌≡◌, ℕ, ℤ, Bool, Some, refl, sym, subst, ◌∙◌}
use Rattle.std.specs.Ordering.{is_le, is_some_and, int_cmp, nat_cmp, ordering_then, partial_ordering_then}
use Rattle.std.specs.declared.cmp.Ordering.{Ordering}
use Rattle.std.specs.declared.cmp.Ordering.TheVariants.{Less, Equal, Greater}
use Rattle.cal_types.specs.CalendarList.{date}
use Rattle.cal_gregory.specs.JapaneseEraList.{ListedEra, last_era, has_started}
use Rattle.cal_gregory.specs.JapaneseEras.{listed_eras}
use Rattle.cal_gregory.specs.laws.JapaneseLaws.{FoundNear, listed-near}
use Rattle.cal_gregory.proofs.JapaneseEraLemmas.{fewer-left, last_era-passes, last_era-past}
use Rattle.cal_gregory.proofs.japanese_eras.JapaneseEras.started_by.Goals as goal

le_then : (a b c : Ordering) → is_some_and is_le (partial_ordering_then (Some a) (partial_ordering_then (Some b) (Some c))) ≡ is_le (ordering_then a (ordering_then b c))
le_then Less b c = refl
le_then Greater b c = refl
le_then Equal Less c = refl
le_then Equal Greater c = refl
le_then Equal Equal c = refl

-- what the test of the two starts says
tested : (e : ListedEra) (year : ℤ) (month day : ℕ) (r b : Bool) → r ≡ is_some_and is_le (partial_ordering_then (Some (int_cmp e.0.year year)) (partial_ordering_then (Some (nat_cmp e.0.month month)) (Some (nat_cmp e.0.day day)))) → r ≡ b → has_started (date year month day) e ≡ b
tested e year month day r b test is = sym (le_then (int_cmp e.0.year year) (nat_cmp e.0.month month) (nat_cmp e.0.day day)) ∙ (sym test ∙ is)

pub returns-then-le-clause-last : goal.returns-then-le-clause-last
returns-then-le-clause-last c =
    let on = c.args.on in
    sym (c.loop-era.invariant ∙ last_era-passes (has_started (date on.year on.month on.day)) _ _ c.in-Some.era c.in-Some.ensures.steps (tested c.in-Some.era c.args.on.year c.args.on.month c.args.on.day _ _ c.le.ensures c.if-le.true))

pub returns-then-le-clause-start : goal.returns-then-le-clause-start
returns-then-le-clause-start c =
    let started = has_started (date c.args.on.year c.args.on.month c.args.on.day) in
    let found : last_era started (listed_eras c.args.self.now) ≡ Some c.in-Some.era = c.loop-era.invariant ∙ last_era-passes started _ _ c.in-Some.era c.in-Some.ensures.steps (tested c.in-Some.era c.args.on.year c.args.on.month c.args.on.day _ _ c.le.ensures c.if-le.true) in
    subst FoundNear found (listed-near started c.args.self.now)

pub loop-era-preserved : goal.loop-era-preserved
loop-era-preserved c =
    let on = c.args.on in
    c.loop-era.invariant ∙ last_era-past (has_started (date on.year on.month on.day)) _ _ c.in-Some.era c.in-Some.ensures.steps (tested c.in-Some.era on.year on.month on.day _ _ c.le.ensures c.if-le.false)

pub loop-era-smaller : goal.loop-era-smaller
loop-era-smaller c = fewer-left c.loop-era.eras c.next_back.new.self c.in-Some.era c.in-Some.ensures.steps
