-- Two kinds are ordered as their places are: by one lemma over any enum without fields, since there are too many pairs of kinds to go through.
use Rattle.std.proofs.Common.{◌≡◌, ◌∙◌, ℕ, suc, List, [], ◌∷◌, refl, ap, arith}
use Rattle.std.proofs.lemmas.Bool.Decides.{nat_tests}
use Rattle.std.specs.Ordering.{nat_cmp}
use Rattle.std.specs.declared.cmp.Ordering.{Ordering}
use Rattle.std.specs.declared.cmp.Ordering.TheVariants.{Less, Equal, Greater}
use mathlib.Core.Logic.{inl, inr}
use denote.Struct.Field.{Field}
use denote.Enum.Declared.{Choice}
use denote.Enum.Compared.{Each, by}
use Rattle.cal_kinds.specs.KindOrder.{kind_place}
use Rattle.cal_kinds.specs.contracts.any_calendar_kind.AnyCalendarKind.{the_parts, as_values}
use Rattle.cal_kinds.specs.declared.any_calendar_kind.AnyCalendarKind.{AnyCalendarKind}
use Rattle.cal_kinds.specs.declared.any_calendar_kind.AnyCalendarKind.TheVariants as kind

-- two values of one variant are equal
abbrev ties : (variants : List (List Field)) → Each Ordering variants
ties [] = tt
ties (variant ∷ others) = (λ _ _. Equal, ties others)

-- the place of a variant among all
place : (variants : List (List Field)) → Choice variants → ℕ
place [] c = absurd c
place (variant ∷ others) (inl here) = 0
place (variant ∷ others) (inr behind) = suc (place others behind)

next_less : (m n : ℕ) → nat_cmp m n ≡ nat_cmp (suc m) (suc n)
next_less m n = grind (arith, nat_tests)

below : (n : ℕ) → Less ≡ nat_cmp 0 (suc n)
below n = grind (arith, nat_tests)

above : (n : ℕ) → Greater ≡ nat_cmp (suc n) 0
above n = grind (arith, nat_tests)

cmp_places : (variants : List (List Field)) (c d : Choice variants) → by Less Greater variants (ties variants) c d ≡ nat_cmp (place variants c) (place variants d)
unfolding place
cmp_places [] c d = absurd c
cmp_places (variant ∷ others) (inl x) (inl y) = refl
cmp_places (variant ∷ others) (inl x) (inr y) = below (place others y)
cmp_places (variant ∷ others) (inr x) (inl y) = above (place others x)
cmp_places (variant ∷ others) (inr x) (inr y) = cmp_places others x y ∙ next_less (place others x) (place others y)

place-known : (k : AnyCalendarKind) → place the_parts (as_values k) ≡ kind_place k
unfolding place
place-known kind.Buddhist = refl
place-known kind.Chinese = refl
place-known kind.Coptic = refl
place-known kind.Dangi = refl
place-known kind.Ethiopian = refl
place-known kind.EthiopianAmeteAlem = refl
place-known kind.Gregorian = refl
place-known kind.Hebrew = refl
place-known kind.Indian = refl
place-known kind.HijriTabularTypeIIFriday = refl
place-known kind.HijriSimulatedMecca = refl
place-known kind.HijriTabularTypeIIThursday = refl
place-known kind.HijriUmmAlQura = refl
place-known kind.Iso = refl
place-known kind.Japanese = refl
place-known kind.JapaneseExtended = refl
place-known kind.Julian = refl
place-known kind.Persian = refl
place-known kind.Roc = refl
place-known kind.HijriTabularTypeIFriday = refl
place-known kind.HijriTabularTypeIThursday = refl

-- the derived order is that of the places
pub cmp-by_places : (k l : AnyCalendarKind) → by Less Greater the_parts (ties the_parts) (as_values k) (as_values l) ≡ nat_cmp (kind_place k) (kind_place l)
cmp-by_places k l =
    cmp_places the_parts (as_values k) (as_values l)
    ∙ ap (λ m. nat_cmp m (place the_parts (as_values l))) (place-known k)
    ∙ ap (nat_cmp (kind_place k)) (place-known l)
