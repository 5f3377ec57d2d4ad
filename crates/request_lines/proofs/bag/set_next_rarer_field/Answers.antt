use Rattle.std.proofs.Common.{◌≡◌, [], ◌∷◌, List, ℕ, refl, ℤ, Some, None, MatchOption, FitsSigned, w32, to_z, of_z, codes, ap, sym, subst, ◌∙◌, rules, arith}
use Rattle.std.specs.Option.{option_map, option_and_then}
use Rattle.cal_days.proofs.Signed.{signed}
use Rattle.cal_types.specs.Bag.{Bag, bag_of}
use Rattle.request_lines.specs.Reading.{Read, IsReading, next_word}
use Rattle.request_lines.specs.WordsLeft.{words_left}
use Rattle.word_values.specs.Numbers.{int_of, byte_of}
use Rattle.request_lines.specs.Bags.{Era, EraYear, MonthCode, OrdinalMonth, bytes_of, with_field}
use Rattle.request_lines.proofs.FieldLemmas.{behind_era, behind_era_year, behind_month_code, sets_nothing}
use Rattle.request_lines.proofs.KeyLemmas.{key_missed, key_fails, key_sets, was_taken}
use Rattle.request_lines.proofs.bag.set_next_rarer_field.Goals as goal

pub returns-in_err-next_int : goal.returns-in_err-next_int
returns-in_err-next_int c =
    let bag = bag_of c.args.fields.now in
    let miss = key_missed (codes "era=") Era bytes_of behind_era bag c.take_key.result (words_left c.args.words.now) (words_left c.take_key.new.self) c.take_key.ensures c.if-take_key.false in
    let taken = was_taken c.take_key-2.result _ (words_left c.take_key.new.self) (words_left c.take_key-2.new.self) c.take_key-2.ensures c.if-take_key-2.true in
    let fails = key_fails (codes "era-year=") EraYear int_of behind_era_year bag (words_left c.take_key.new.self) (words_left c.take_key-2.new.self) taken c.in_err-next_int.ensures in
    sets_nothing _ _ _ _ c.from_residual-in_err-next_int.ensures (miss ∙ fails)

pub returns-then-take_key-2 : goal.returns-then-take_key-2
returns-then-take_key-2 c =
    let bag = bag_of c.args.fields.now in
    let set = c.set_field-then-take_key-2 in
    let fits : FitsSigned w32 c.in_ok-next_int.field-0 = search rules in
    let same : to_z w32 (of_z w32 c.in_ok-next_int.field-0) ≡ c.in_ok-next_int.field-0 = omega (arith, signed) in
    let sets = subst (λ (z : ℤ). MatchOption set.result (with_field bag (EraYear z) ≡ None) (λ _. with_field bag (EraYear z) ≡ Some (bag_of set.new.fields))) same set.ensures in
    let miss = key_missed (codes "era=") Era bytes_of behind_era bag c.take_key.result (words_left c.args.words.now) (words_left c.take_key.new.self) c.take_key.ensures c.if-take_key.false in
    let taken = was_taken c.take_key-2.result _ (words_left c.take_key.new.self) (words_left c.take_key-2.new.self) c.take_key-2.ensures c.if-take_key-2.true in
    subst (λ (r : Read Bag). IsReading r (option_map (λ _. bag_of set.new.fields) set.result) (words_left c.next_int.new.words)) (sym miss)
    (key_sets (codes "era-year=") EraYear int_of behind_era_year bag (words_left c.take_key.new.self) (words_left c.take_key-2.new.self) (words_left c.next_int.new.words)
    c.in_ok-next_int.field-0 set.result (bag_of set.new.fields) taken c.in_ok-next_int.ensures sets)

pub returns-in_err-next_byte : goal.returns-in_err-next_byte
returns-in_err-next_byte c =
    let bag = bag_of c.args.fields.now in
    let miss = key_missed (codes "era=") Era bytes_of behind_era bag c.take_key.result (words_left c.args.words.now) (words_left c.take_key.new.self) c.take_key.ensures c.if-take_key.false in
    let miss2 = key_missed (codes "era-year=") EraYear int_of behind_era_year bag c.take_key-2.result (words_left c.take_key.new.self) (words_left c.take_key-2.new.self) c.take_key-2.ensures c.if-take_key-2.false in
    let miss3 = key_missed (codes "month-code=") MonthCode bytes_of behind_month_code bag c.take_key-3.result (words_left c.take_key-2.new.self) (words_left c.take_key-3.new.self) c.take_key-3.ensures c.if-take_key-3.false in
    let taken = was_taken c.take_key-4.result _ (words_left c.take_key-3.new.self) (words_left c.take_key-4.new.self) c.take_key-4.ensures c.if-take_key-4.true in
    let fails = key_fails (codes "ordinal=") OrdinalMonth byte_of (λ _. None) bag (words_left c.take_key-3.new.self) (words_left c.take_key-4.new.self) taken c.in_err-next_byte.ensures in
    sets_nothing _ _ _ _ c.from_residual-in_err-next_byte.ensures (miss ∙ (miss2 ∙ (miss3 ∙ fails)))

pub returns-then-take_key-4 : goal.returns-then-take_key-4
returns-then-take_key-4 c =
    let bag = bag_of c.args.fields.now in
    let set = c.set_field-then-take_key-4 in
    let miss = key_missed (codes "era=") Era bytes_of behind_era bag c.take_key.result (words_left c.args.words.now) (words_left c.take_key.new.self) c.take_key.ensures c.if-take_key.false in
    let miss2 = key_missed (codes "era-year=") EraYear int_of behind_era_year bag c.take_key-2.result (words_left c.take_key.new.self) (words_left c.take_key-2.new.self) c.take_key-2.ensures c.if-take_key-2.false in
    let miss3 = key_missed (codes "month-code=") MonthCode bytes_of behind_month_code bag c.take_key-3.result (words_left c.take_key-2.new.self) (words_left c.take_key-3.new.self) c.take_key-3.ensures c.if-take_key-3.false in
    let taken = was_taken c.take_key-4.result _ (words_left c.take_key-3.new.self) (words_left c.take_key-4.new.self) c.take_key-4.ensures c.if-take_key-4.true in
    subst (λ (r : Read Bag). IsReading r (option_map (λ _. bag_of set.new.fields) set.result) (words_left c.next_byte.new.words)) (sym (miss ∙ (miss2 ∙ miss3)))
    (key_sets (codes "ordinal=") OrdinalMonth byte_of (λ _. None) bag (words_left c.take_key-3.new.self) (words_left c.take_key-4.new.self) (words_left c.next_byte.new.words)
    c.in_ok-next_byte.field-0 set.result (bag_of set.new.fields) taken c.in_ok-next_byte.ensures set.ensures)

nothing : (bag : Bag) (words : List (List ℕ)) → next_word (λ _. option_and_then (with_field bag) None) words ≡ None
nothing bag [] = refl
nothing bag (word ∷ words) = refl

pub returns : goal.returns
returns c =
    let bag = bag_of c.args.fields.now in
    let miss = key_missed (codes "era=") Era bytes_of behind_era bag c.take_key.result (words_left c.args.words.now) (words_left c.take_key.new.self) c.take_key.ensures c.if-take_key.false in
    let miss2 = key_missed (codes "era-year=") EraYear int_of behind_era_year bag c.take_key-2.result (words_left c.take_key.new.self) (words_left c.take_key-2.new.self) c.take_key-2.ensures c.if-take_key-2.false in
    let miss3 = key_missed (codes "month-code=") MonthCode bytes_of behind_month_code bag c.take_key-3.result (words_left c.take_key-2.new.self) (words_left c.take_key-3.new.self) c.take_key-3.ensures c.if-take_key-3.false in
    let miss4 = key_missed (codes "ordinal=") OrdinalMonth byte_of (λ _. None) bag c.take_key-4.result (words_left c.take_key-3.new.self) (words_left c.take_key-4.new.self) c.take_key-4.ensures c.if-take_key-4.false in
    miss ∙ (miss2 ∙ (miss3 ∙ (miss4 ∙ nothing bag (words_left c.take_key-4.new.self))))

pub returns-then-take_key-3 : goal.returns-then-take_key-3
returns-then-take_key-3 c =
    let bag = bag_of c.args.fields.now in
    let set = c.set_field-then-take_key-3 in
    let miss = key_missed (codes "era=") Era bytes_of behind_era bag c.take_key.result (words_left c.args.words.now) (words_left c.take_key.new.self) c.take_key.ensures c.if-take_key.false in
    let miss2 = key_missed (codes "era-year=") EraYear int_of behind_era_year bag c.take_key-2.result (words_left c.take_key.new.self) (words_left c.take_key-2.new.self) c.take_key-2.ensures c.if-take_key-2.false in
    let taken = was_taken c.take_key-3.result _ (words_left c.take_key-2.new.self) (words_left c.take_key-3.new.self) c.take_key-3.ensures c.if-take_key-3.true in
    subst (λ (r : Read Bag). IsReading r (option_map (λ _. bag_of set.new.fields) set.result) (words_left c.next-then-take_key-3.new.self)) (sym (miss ∙ miss2))
    (key_sets (codes "month-code=") MonthCode bytes_of behind_month_code bag (words_left c.take_key-2.new.self) (words_left c.take_key-3.new.self) (words_left c.next-then-take_key-3.new.self)
    c.in_ok-next-2.field-0.now set.result (bag_of set.new.fields) taken (ap (next_word bytes_of) c.in_ok-next-2.ensures) set.ensures)
