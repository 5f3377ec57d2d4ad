-- The moves of words are read word by word.
use Rattle.std.proofs.Common.{◌≡◌, ℕ, zero, suc, Bool, true, false, not, ◌&&◌, ◌||◌, if◌then◌else◌, List, [], ◌∷◌, ◌++◌, map, get_or, set, Option, Some, None, refl, sym, ap, ◌∙◌, ℤ, append_assoc}
use Rattle.std.specs.List.{list_any}
use Rattle.std.specs.Option.{is_some, option_and_then, option_map}
use Rattle.cal_types.proofs.DateTests.{and-left, and-right, true-and}
use Rattle.std.proofs.lemmas.List.{append-nil}
use Rattle.std.proofs.lemmas.List.Folds.{list_any-append}
use Rattle.cal_types.specs.Weekday.{days_since_sunday, is_weekday, week_from}
use Rattle.cal_types.specs.declared.weekday.Weekday.{Weekday}
use Rattle.cal_types.specs.declared.weekday.Weekday.TheVariants.{Monday, Tuesday, Wednesday, Thursday, Friday, Saturday, Sunday}
use Rattle.cal_holidays.specs.Observing.{are_proper_moves, is_move}
use Rattle.cal_holidays.specs.RecordMoves.{Move, all_there, move_of, move_once, move_read, moves_of_words, week_moves}
use Rattle.cal_holidays.specs.RecordWords.{where_passes}

-- ---- each weekday once

abbrev others : Move → List Move → Bool
others move moves = list_any (λ other. is_weekday move.0 other.0) moves

-- what a weekday has, or else what one more move gives it
abbrev or_move : Option ℤ → Move → Weekday → Option ℤ
or_move (Some days) move day = Some days
or_move None move day = if is_weekday move.0 day then Some move.1 else None

move_of-more : (moves : List Move) (move : Move) (day : Weekday) → move_of (moves ++ (move ∷ [])) day ≡ or_move (move_of moves day) move day
move_of-more [] move day = refl
move_of-more (m ∷ moves) move day = by (is_weekday m.0 day) (move_of-more moves move day)
  where
    by : (b : Bool) → move_of (moves ++ (move ∷ [])) day ≡ or_move (move_of moves day) move day
        → (if b then Some m.1 else move_of (moves ++ (move ∷ [])) day) ≡ or_move (if b then Some m.1 else move_of moves day) move day
    by true rest = refl
    by false rest = rest

none_first : (b : Bool) (x : ℤ) (o : Option ℤ) → (if b then Some x else o) ≡ None → (b ≡ false) × (o ≡ None)
none_first true x o e = cc
none_first false x o e = (refl, e)

not_other : (a b : Bool) → a ≡ false → b ≡ false → (a || (b || false)) ≡ false
not_other a b e f = rw (e, f) refl

not_and : (a b : Bool) → (not a && b) ≡ true → (a ≡ false) × (b ≡ true)
not_and true b e = cc
not_and false b e = (refl, e)

-- one more weekday that hasn't moved yet
once-more : (moves : List Move) (move : Move) → move_of moves move.0 ≡ None → move_once moves ≡ true → move_once (moves ++ (move ∷ [])) ≡ true
once-more [] move none once = refl
once-more (m ∷ moves) move none once =
    let parts = none_first (is_weekday m.0 move.0) m.1 (move_of moves move.0) none in
    let two = not_and (others m moves) (move_once moves) once in
    let apart : others m (moves ++ (move ∷ [])) ≡ false = list_any-append (λ other. is_weekday m.0 other.0) moves (move ∷ []) ∙ not_other (others m moves) (is_weekday m.0 move.0) two.0 parts.0 in
    rw apart (once-more moves move parts.1 two.1)

or_true : (a b c : Bool) → b ≡ true → (a || (b || c)) ≡ true
or_true true b c e = refl
or_true false b c e = rw e refl

and_none : (a b : Bool) → b ≡ false → (a && b) ≡ false
and_none true b e = e
and_none false b e = refl

-- a weekday that has moved can't move again
twice : (moves rest : List Move) (move : Move) (days : ℤ) → move_of moves move.0 ≡ Some days → move_once (moves ++ (move ∷ rest)) ≡ false
twice [] rest move days e = absurd (no e)
  where
    no : ◌≡◌ {A = Option ℤ} None (Some days) → ⊥
    no e = cc
twice (m ∷ moves) rest move days e = by (is_weekday m.0 move.0) refl (λ h. twice moves rest move days h) e
  where
    by : (b : Bool) → is_weekday m.0 move.0 ≡ b → (move_of moves move.0 ≡ Some days → move_once (moves ++ (move ∷ rest)) ≡ false)
        → (if b then Some m.1 else move_of moves move.0) ≡ Some days → move_once (m ∷ (moves ++ (move ∷ rest))) ≡ false
    by true is later h =
        let there : others m (moves ++ (move ∷ rest)) ≡ true = list_any-append (λ other. is_weekday m.0 other.0) moves (move ∷ rest) ∙ or_true (others m moves) (is_weekday m.0 move.0) _ is in
        rw there refl
    by false is later h = and_none _ _ (later h)

-- ---- values of an array

pub none_of : (o : Option ℤ) → is_some o ≡ false → o ≡ None
none_of None e = refl
none_of (Some x) e = cc

pub some_of : (o : Option ℤ) → is_some o ≡ true → (x : ℤ) × (o ≡ Some x)
some_of None e = cc
some_of (Some x) e = (x, refl)

pub proper-set : (days : List (Option ℤ)) (i : ℕ) (o : Option ℤ) → are_proper_moves days ≡ true → is_move o ≡ true → are_proper_moves (set days i o) ≡ true
proper-set [] i o h k = refl
proper-set (d ∷ days) zero o h k = true-and (is_move o) _ k (and-right (is_move d) _ h)
proper-set (d ∷ days) (suc i) o h k = true-and (is_move d) _ (and-left (is_move d) _ h) (proper-set days i o (and-right (is_move d) _ h) k)

-- ---- moves by weekdays

pub week-at : (moves : List Move) (day : Weekday) → get_or (week_moves moves) (days_since_sunday day) None ≡ move_of moves day
week-at moves Sunday = refl
week-at moves Monday = refl
week-at moves Tuesday = refl
week-at moves Wednesday = refl
week-at moves Thursday = refl
week-at moves Friday = refl
week-at moves Saturday = refl

or_other : (o : Option ℤ) (move : Move) (day : Weekday) → is_weekday move.0 day ≡ false → or_move o move day ≡ o
or_other (Some days) move day e = refl
or_other None move day e = rw e refl

or_same : (o : Option ℤ) (move : Move) → o ≡ None → is_weekday move.0 move.0 ≡ true → or_move o move move.0 ≡ Some move.1
or_same o move none e = rw none (rw e refl)

module _ (moves : List Move) (days : ℤ) where
  other : (day : Weekday) (e : Weekday) → is_weekday day e ≡ false → move_of (moves ++ ((day, days) ∷ [])) e ≡ move_of moves e
  other day e apart = move_of-more moves (day, days) e ∙ or_other (move_of moves e) (day, days) e apart

  same : (day : Weekday) → is_weekday day day ≡ true → move_of moves day ≡ None → move_of (moves ++ ((day, days) ∷ [])) day ≡ Some days
  same day is none = move_of-more moves (day, days) day ∙ or_same (move_of moves day) (day, days) none is

  -- one more weekday's move
  pub week-set : (day : Weekday) → move_of moves day ≡ None → set (week_moves moves) (days_since_sunday day) (Some days) ≡ week_moves (moves ++ ((day, days) ∷ []))
  week-set Sunday none = rw (same Sunday refl none, other Sunday Monday refl, other Sunday Tuesday refl, other Sunday Wednesday refl, other Sunday Thursday refl, other Sunday Friday refl, other Sunday Saturday refl) refl
  week-set Monday none = rw (same Monday refl none, other Monday Sunday refl, other Monday Tuesday refl, other Monday Wednesday refl, other Monday Thursday refl, other Monday Friday refl, other Monday Saturday refl) refl
  week-set Tuesday none = rw (same Tuesday refl none, other Tuesday Sunday refl, other Tuesday Monday refl, other Tuesday Wednesday refl, other Tuesday Thursday refl, other Tuesday Friday refl, other Tuesday Saturday refl) refl
  week-set Wednesday none = rw (same Wednesday refl none, other Wednesday Sunday refl, other Wednesday Monday refl, other Wednesday Tuesday refl, other Wednesday Thursday refl, other Wednesday Friday refl, other Wednesday Saturday refl) refl
  week-set Thursday none = rw (same Thursday refl none, other Thursday Sunday refl, other Thursday Monday refl, other Thursday Tuesday refl, other Thursday Wednesday refl, other Thursday Friday refl, other Thursday Saturday refl) refl
  week-set Friday none = rw (same Friday refl none, other Friday Sunday refl, other Friday Monday refl, other Friday Tuesday refl, other Friday Wednesday refl, other Friday Thursday refl, other Friday Saturday refl) refl
  week-set Saturday none = rw (same Saturday refl none, other Saturday Sunday refl, other Saturday Monday refl, other Saturday Tuesday refl, other Saturday Wednesday refl, other Saturday Thursday refl, other Saturday Friday refl) refl

-- ---- word by word

-- some moves before those that are read
abbrev pub behind : List Move → Option (List Move) → Option (List Move)
behind earlier None = None
behind earlier (Some moves) = Some (earlier ++ moves)

behind-more : (earlier : List Move) (move : Move) (r : Option (List Move)) → behind earlier (option_map (λ ms. move ∷ ms) r) ≡ behind (earlier ++ (move ∷ [])) r
behind-more earlier move None = refl
behind-more earlier move (Some ms) = ap (λ l. Some l) (sym (append_assoc earlier (move ∷ []) ms))

behind-none : (r : Option (List Move)) → r ≡ behind [] r
behind-none None = refl
behind-none (Some ms) = refl

-- the moves that are read so far
pub record IsReadingMoves (days : List (Option ℤ)) (all left : List (List ℕ)) : Type 0 where
  pub earlier : List Move
  pub days_are : days ≡ week_moves earlier
  pub values : all_there (map move_read all) ≡ behind earlier (all_there (map move_read left))
  pub once : move_once earlier ≡ true
  pub proper : are_proper_moves days ≡ true

pub reading-begins : (all : List (List ℕ)) → IsReadingMoves (week_moves []) all all
reading-begins all = record { earlier = []; days_are = refl; values = behind-none (all_there (map move_read all)); once = refl; proper = refl }

pub reading-goes_on : (days next : List (Option ℤ)) (all left others : List (List ℕ)) (word : List ℕ) (day : Weekday) (by : ℤ) → IsReadingMoves days all left → left ≡ word ∷ others
    → Some (day, by) ≡ move_read word → get_or days (days_since_sunday day) None ≡ None → next ≡ set days (days_since_sunday day) (Some by) → are_proper_moves next ≡ true → IsReadingMoves next all others
reading-goes_on days next all left others word day by r cut value free is proper =
    let none = sym (week-at r.earlier day) ∙ (ap (λ l. get_or l (days_since_sunday day) None) (sym r.days_are) ∙ free) in
    record {
      earlier = r.earlier ++ ((day, by) ∷ []);
      days_are = is ∙ (ap (λ l. set l (days_since_sunday day) (Some by)) r.days_are ∙ week-set r.earlier by day none);
      values = r.values ∙ (ap (λ words. behind r.earlier (all_there (map move_read words))) cut
          ∙ (ap (λ m. behind r.earlier (option_and_then (λ y. option_map (λ ys. y ∷ ys) (all_there (map move_read others))) m)) (sym value)
          ∙ behind-more r.earlier (day, by) (all_there (map move_read others))));
      once = once-more r.earlier (day, by) none r.once;
      proper = proper;
    }

passed : (moves : List Move) → move_once moves ≡ true → option_map week_moves (where_passes move_once moves) ≡ Some (week_moves moves)
passed moves once = rw once refl

pub reading-ends : (days : List (Option ℤ)) (all : List (List ℕ)) → IsReadingMoves days all [] → Some days ≡ moves_of_words all
reading-ends days all r =
    ap (λ l. Some l) r.days_are
    ∙ sym (ap (λ o. option_map week_moves (option_and_then (where_passes move_once) o)) (r.values ∙ ap (λ l. Some l) (append-nil r.earlier)) ∙ passed r.earlier r.once)

-- a word that is no move ends the reading
pub reading-fails : (days : List (Option ℤ)) (all left others : List (List ℕ)) (word : List ℕ) → IsReadingMoves days all left → left ≡ word ∷ others → move_read word ≡ None → None ≡ moves_of_words all
reading-fails days all left others word r cut none =
    sym (ap (λ o. option_map week_moves (option_and_then (where_passes move_once) o))
    (r.values ∙ (ap (λ words. behind r.earlier (all_there (map move_read words))) cut
    ∙ ap (λ m. behind r.earlier (option_and_then (λ y. option_map (λ ys. y ∷ ys) (all_there (map move_read others))) m)) none)))

-- and so does a weekday that has moved
pub reading-twice : (days : List (Option ℤ)) (all left others : List (List ℕ)) (word : List ℕ) (day : Weekday) (by held : ℤ) → IsReadingMoves days all left → left ≡ word ∷ others
    → Some (day, by) ≡ move_read word → get_or days (days_since_sunday day) None ≡ Some held → None ≡ moves_of_words all
reading-twice days all left others word day by held r cut value there =
    let moved = sym (week-at r.earlier day) ∙ (ap (λ l. get_or l (days_since_sunday day) None) (sym r.days_are) ∙ there) in
    let read = all_there (map move_read others) in
    sym (ap (λ o. option_map week_moves (option_and_then (where_passes move_once) o))
    (r.values ∙ (ap (λ words. behind r.earlier (all_there (map move_read words))) cut
    ∙ ap (λ m. behind r.earlier (option_and_then (λ y. option_map (λ ys. y ∷ ys) read) m)) (sym value)))
    ∙ fails moved read)
  where
    fails : move_of r.earlier day ≡ Some held → (o : Option (List Move))
        → option_map week_moves (option_and_then (where_passes move_once) (behind r.earlier (option_map (λ ys. (day, by) ∷ ys) o))) ≡ None
    fails moved None = refl
    fails moved (Some ys) = rw (twice r.earlier ys (day, by) held moved) refl
