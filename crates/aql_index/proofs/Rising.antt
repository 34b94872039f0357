-- Along the entries of an index the zones of some bounds don't fall: first come those below the bounds, then
-- those within them, then those above them.
use Rattle.std.proofs.Common.{◌≡◌, ◌∙◌, ◌≤◌, ◌<◌, ◌⊎◌, length, get_or, ℕ, List, [], ◌∷◌, Bool, true, false, cond, not, Option, Some, None, refl, sym, ap, subst, inl, inr, arith, true≢false}
use Rattle.std.specs.Ordering.{is_lt, ordering_index, ordering_then, ordering_reverse}
use Rattle.std.specs.declared.cmp.Ordering.{Ordering}
use Rattle.std.specs.declared.cmp.Ordering.TheVariants.{Less, Equal, Greater}
use Rattle.std.specs.Cmp.{IsStrictWeakOrder}
use Rattle.std.specs.List.Sorted.{IsSortedBy}
use Rattle.std.proofs.lemmas.Cmp.{alike_right}
use Rattle.std.proofs.lemmas.List.Sorted.{ranks_by, sorted_far}
use Rattle.aql_value.specs.Datum.{Datum}
use Rattle.aql_value.specs.Compare.{compare}
use Rattle.aql_value.specs.Contents.{list, is_below}
use Rattle.aql_value.specs.View.{datum_of}
use Rattle.aql_value.specs.laws.Strict.{compare_total}
use Rattle.aql_meaning.specs.Documents.{End, is_above, is_beneath}
use Rattle.aql_index.specs.Bounds.{end_of}
use Rattle.aql_index.specs.inner.Zones.{tail_zone, zone}
use Rattle.aql_index.specs.Entries.{is_before}
use Rattle.aql_index.specs.laws.Order.{entries_order}
use Rattle.aql_index.specs.declared.entries.Entry.{Entry}
use Rattle.aql_index.specs.declared.bounds.Tail.{Tail}
use Rattle.aql_index.specs.declared.bounds.Tail.TheVariants.{Any, One, Between}

most : (o : Ordering) → ordering_index o ≤ 2
most Less = omega arith
most Equal = omega arith
most Greater = omega arith

then_rises : (p P Q : Ordering) → ordering_index P ≤ ordering_index Q
    → ordering_index (ordering_then p P) ≤ ordering_index (ordering_then p Q)
then_rises Less P Q h = omega arith
then_rises Equal P Q h = h
then_rises Greater P Q h = omega arith

parted : (p q P Q : Ordering) → (p ≡ Less) ⊎ (q ≡ Greater)
    → ordering_index (ordering_then p P) ≤ ordering_index (ordering_then q Q)
parted p q P Q (inl e) = subst
    (λ x. ordering_index (ordering_then x P) ≤ ordering_index (ordering_then q Q)) (sym e) (omega arith)
parted p q P Q (inr e) = subst
    (λ x. ordering_index (ordering_then p P) ≤ ordering_index (ordering_then x Q)) (sym e)
    (most (ordering_then p P))

-- the first values compare as o and stand to a bound as p and q; the others as r, P and Q
step : (o p q r P Q : Ordering) → (o ≡ Equal → p ≡ q) → (o ≡ Greater → (p ≡ Less) ⊎ (q ≡ Greater))
    → is_lt (ordering_then o r) ≡ false → (is_lt r ≡ false → ordering_index P ≤ ordering_index Q)
    → ordering_index (ordering_then p P) ≤ ordering_index (ordering_then q Q)
step Less p q r P Q same apart h rest = absurd (true≢false h)
step Equal p q r P Q same apart h rest = subst
    (λ x. ordering_index (ordering_then p P) ≤ ordering_index (ordering_then x Q)) (same refl)
    (then_rises p P Q (rest h))
step Greater p q r P Q same apart h rest = parted p q P Q (apart refl)

-- a value above x is not at a bound where x is at it or above it
apart_at : (x y v : Datum) (w : Ordering) → compare x v ≡ w → compare y x ≡ Greater
    → (compare x v ≡ Less) ⊎ (compare y v ≡ Greater)
apart_at x y v Less e h = inl e
apart_at x y v Equal e h = inr (sym (alike_right compare_total x v y e) ∙ h)
apart_at x y v Greater e h =
    let low : compare v x ≡ Less = compare_total.antisymm v x ∙ ap ordering_reverse e in
    let high : compare x y ≡ Less = compare_total.antisymm x y ∙ ap ordering_reverse h in
    inr (compare_total.antisymm y v ∙ ap ordering_reverse (compare_total.trans v x y low high))

abbrev Rises : (List Datum → Ordering) → Type 0
Rises tail = (a b : List Datum) → is_lt (compare (list b) (list a)) ≡ false
    → ordering_index (tail a) ≤ ordering_index (tail b)

zone_rises : (tail : List Datum → Ordering) → Rises tail → (equal : List Datum) → Rises (zone tail equal)
zone_rises tail rest [] a b h = rest a b h
zone_rises tail rest (v ∷ equal) [] b h = omega arith
zone_rises tail rest (v ∷ equal) (x ∷ xs) [] h = absurd (true≢false h)
zone_rises tail rest (v ∷ equal) (x ∷ xs) (y ∷ ys) h =
    step (compare y x) (compare x v) (compare y v) (compare (list ys) (list xs))
    (zone tail equal xs) (zone tail equal ys)
    (λ e. sym (compare_total.congr y x v e)) (apart_at x y v (compare x v) refl) h
    (zone_rises tail rest equal xs ys)

-- ---- tails

below_order : IsStrictWeakOrder is_below
below_order = ranks_by compare_total (λ (d : Datum). d)

not_true : (b : Bool) → not b ≡ true → b ≡ false
not_true true e = sym e
not_true false e = refl

not_false : (b : Bool) → b ≡ false → not b ≡ true
not_false true e = sym e
not_false false e = refl

-- what is not below x is as far above
above_more : (low : Option (End Datum)) (x y : Datum) → is_below y x ≡ false
    → is_above low x ≡ true → is_above low y ≡ true
above_more None x y h e = refl
above_more (Some end) x y h e = by end.inclusive e
  where
    strict : (b : Bool) → is_below end.limit y ≡ b → is_below end.limit x ≡ true → b ≡ true
    strict true f g = refl
    strict false f g = absurd (true≢false (sym g ∙ below_order.chain end.limit y x f h))

    by : (b : Bool) → cond b (not (is_below x end.limit)) (is_below end.limit x) ≡ true
        → cond b (not (is_below y end.limit)) (is_below end.limit y) ≡ true
    by true g = not_false _ (below_order.chain y x end.limit h (not_true _ g))
    by false g = strict _ refl g

beneath_less : (high : Option (End Datum)) (x y : Datum) → is_below y x ≡ false
    → is_beneath high y ≡ true → is_beneath high x ≡ true
beneath_less None x y h e = refl
beneath_less (Some end) x y h e = by end.inclusive e
  where
    strict : (b : Bool) → is_below x end.limit ≡ b → is_below y end.limit ≡ true → b ≡ true
    strict true f g = refl
    strict false f g = absurd (true≢false (sym g ∙ below_order.chain y x end.limit h f))

    by : (b : Bool) → cond b (not (is_below end.limit y)) (is_below y end.limit) ≡ true
        → cond b (not (is_below end.limit x)) (is_below x end.limit) ≡ true
    by true g = not_false _ (below_order.chain end.limit y x (not_true _ g) h)
    by false g = strict _ refl g

ranged : (above below above' below' : Bool) → (above ≡ true → above' ≡ true) → (below' ≡ true → below ≡ true)
    → ordering_index (cond above (cond below Equal Greater) Less)
    ≤ ordering_index (cond above' (cond below' Equal Greater) Less)
ranged false below above' below' f g = omega arith
ranged true true true true f g = omega arith
ranged true true true false f g = omega arith
ranged true false true false f g = omega arith
ranged true false true true f g = absurd (true≢false (sym (g refl)))
ranged true below false below' f g = absurd (true≢false (sym (f refl)))

-- the first of two lists stand as the lists do
firsts : (o r : Ordering) → is_lt (ordering_then o r) ≡ false → is_lt o ≡ false
firsts Less r h = h
firsts Equal r h = refl
firsts Greater r h = refl

alone : (o : Ordering) → ordering_then o Equal ≡ o
alone Less = refl
alone Equal = refl
alone Greater = refl

lone : (p q : Ordering) → ordering_index (ordering_then p Equal) ≤ ordering_index (ordering_then q Equal)
    → ordering_index p ≤ ordering_index q
lone p q h = subst (λ z. ordering_index z ≤ ordering_index q) (alone p)
    (subst (λ z. ordering_index (ordering_then p Equal) ≤ ordering_index z) (alone q) h)

tail_rises : (tail : Tail) → Rises (tail_zone tail)
tail_rises Any a b h = omega arith
tail_rises (One v) [] b h = omega arith
tail_rises (One v) (x ∷ xs) [] h = absurd (true≢false h)
tail_rises (One v) (x ∷ xs) (y ∷ ys) h =
    let d = datum_of v.now in
    lone (compare x d) (compare y d)
    (step (compare y x) (compare x d) (compare y d) (compare (list ys) (list xs)) Equal Equal
    (λ e. sym (compare_total.congr y x d e)) (apart_at x y d (compare x d) refl) h (λ _. omega arith))
tail_rises (Between low high) [] b h = omega arith
tail_rises (Between low high) (x ∷ xs) [] h = absurd (true≢false h)
tail_rises (Between low high) (x ∷ xs) (y ∷ ys) h =
    let up = firsts (compare y x) (compare (list ys) (list xs)) h in
    ranged _ _ _ _ (above_more (end_of low.now) x y up) (beneath_less (end_of high.now) x y up)

pub zones_rise : (tail : Tail) (equal : List Datum) (entries : List Entry) → IsSortedBy is_before entries
    → (i j : ℕ) (d : Entry) → i ≤ j → j < length entries
    → ordering_index (zone (tail_zone tail) equal (get_or entries i d).keys)
    ≤ ordering_index (zone (tail_zone tail) equal (get_or entries j d).keys)
zones_rise tail equal entries sorted i j d l m =
    zone_rises (tail_zone tail) (tail_rises tail) equal (get_or entries i d).keys (get_or entries j d).keys
    (sorted_far is_before entries_order entries sorted i j d l m)
