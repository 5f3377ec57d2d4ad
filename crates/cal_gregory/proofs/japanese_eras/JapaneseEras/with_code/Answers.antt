use Rattle.std.proofs.Common.{◌≡◌, Some, Bool, List, ℕ, sym, ap, subst, ◌∙◌}
use Rattle.cal_types.specs.YearNames.{is_code}
use Rattle.cal_gregory.specs.JapaneseEraList.{ListedEra, last_era}
use Rattle.cal_gregory.specs.JapaneseEras.{listed_eras}
use Rattle.cal_gregory.specs.laws.JapaneseLaws.{FoundNear, listed-near}
use Rattle.cal_gregory.proofs.JapaneseEraLemmas.{fewer-left, last_era-passes, last_era-past}
use Rattle.cal_gregory.proofs.japanese_eras.JapaneseEras.with_code.Goals as goal

-- what the test of the bytes says of the code
tested : (text code bytes : List ℕ) (r b : Bool) → bytes ≡ code → r ≡ is_code text bytes → r ≡ b → is_code text code ≡ b
tested text code bytes r b same test is = sym (ap (is_code text) same) ∙ (sym test ∙ is)

pub returns-then-eq-clause-last : goal.returns-then-eq-clause-last
returns-then-eq-clause-last c =
    let text = c.args.code.now in
    sym (c.loop-era.invariant ∙ last_era-passes (λ e. is_code text e.1) _ _ c.in-Some.era c.in-Some.ensures.steps (tested text c.in-Some.era.1 _ _ _ c.as_bytes.ensures.value c.eq.ensures c.if-eq.true))

pub returns-then-eq-clause-start : goal.returns-then-eq-clause-start
returns-then-eq-clause-start c =
    let coded = λ (e : ListedEra). is_code c.args.code.now e.1 in
    let found : last_era coded (listed_eras c.args.self.now) ≡ Some c.in-Some.era = c.loop-era.invariant ∙ last_era-passes coded _ _ c.in-Some.era c.in-Some.ensures.steps (tested c.args.code.now c.in-Some.era.1 _ _ _ c.as_bytes.ensures.value c.eq.ensures c.if-eq.true) in
    subst FoundNear found (listed-near coded c.args.self.now)

pub loop-era-preserved : goal.loop-era-preserved
loop-era-preserved c =
    let text = c.args.code.now in
    c.loop-era.invariant ∙ last_era-past (λ e. is_code text e.1) _ _ c.in-Some.era c.in-Some.ensures.steps (tested text c.in-Some.era.1 _ _ _ c.as_bytes.ensures.value c.eq.ensures c.if-eq.false)

pub loop-era-smaller : goal.loop-era-smaller
loop-era-smaller c = fewer-left c.loop-era.eras c.next_back.new.self c.in-Some.era c.in-Some.ensures.steps
