-- The names of uses are added one after another, as long as there are at most five.
use Rattle.std.proofs.Common.{◌≡◌, ◌∙◌, ℕ, ◌+◌, ◌<◌, ◌≤◌, List, [], ◌∷◌, ◌++◌, length, map, take, drop, get_or, Bool, true, false, true≢false, cond, refl, ap, sym, subst, arith}
use Rattle.std.specs.Prelude.{◌||◌, ◌↔◌, IsTrue, fold}
use Rattle.std.specs.declared.cmp.Ordering.{Ordering}
use Rattle.std.specs.declared.cmp.Ordering.TheVariants.{Less, Equal, Greater}
use Rattle.std.specs.Ordering.{nat_cmp, match_ordering}
use Rattle.std.specs.Cmp.Lexicographic.{slice_cmp}
use Rattle.std.proofs.lemmas.List.{take_more, take_all, take-append-drop, map-append}
use Rattle.std.proofs.lemmas.List.Folds.{list_any-append}
use Rattle.std.proofs.lemmas.List.Sums.{fold-append}
use Rattle.std.proofs.lemmas.Bool.{or_parts}
use Rattle.aql_tree.specs.declared.syntax.Ident.{Ident}
use Rattle.aql_meaning.specs.Row.{same_ident}
use Rattle.aql_meaning.specs.Uses.{Use, Whole, Attribute, Uses}
use Rattle.aql_plan.specs.declared.uses.Use as code
use Rattle.aql_plan.specs.Used.{uses_tree}
use Rattle.aql_meaning.specs.laws.Idents.{same_self}
use Rattle.aql_rewrite.specs.View.{above_uses}
use Rattle.aql_rewrite.specs.laws.Levels.{nearest_first}
use Rattle.aql_rules_calc.specs.Projections.{AreAdded}
use Rattle.aql_rules_calc.specs.ReduceExtractionToProjection.{is_whole, used_whole, with_name, with_use}

-- ---- no name goes

name_more : (names : List (List ℕ)) (name : List ℕ) → length names ≤ length (with_name names name)
name_more [] name = omega arith
name_more (m ∷ names) name = by (slice_cmp nat_cmp name m) (name_more names name)
  where
    by : (o : Ordering) → length names ≤ length (with_name names name)
        → length (m ∷ names)
        ≤ length (match_ordering o (name ∷ m ∷ names) (m ∷ names) (m ∷ with_name names name))
    by Less h = omega arith
    by Equal h = omega arith
    by Greater h = omega (arith, h)

use_more : (x : Ident) (u : Use) (names : List (List ℕ)) → length names ≤ length (with_use x names u)
use_more x (Whole y) names = omega arith
use_more x (Attribute y name) names = by (same_ident x y)
  where
    by : (b : Bool) → length names ≤ length (cond b (with_name names name) names)
    by true = name_more names name
    by false = omega arith

uses_more : (x : Ident) (us : Uses) (names : List (List ℕ))
    → length names ≤ length (fold (with_use x) names us)
uses_more x [] names = omega arith
uses_more x (u ∷ us) names =
    let h = use_more x u names in
    let k = uses_more x us (with_use x names u) in omega (arith, h, k)

-- ---- one after another

either_whole : (x : Ident) (us vs : Uses) → used_whole x (us ++ vs) ≡ (used_whole x us || used_whole x vs)
either_whole x us vs = list_any-append (is_whole x) us vs

-- what is not added is not added with more
not_added : (before mid after : List (List ℕ)) (x : Ident) (us vs : Uses)
    → AreAdded false before x us mid → AreAdded false before x (us ++ vs) after
not_added before mid after x us vs h whole most =
    let k = or_parts (used_whole x us) (used_whole x vs) (sym (either_whole x us vs) ∙ whole) in
    let more = uses_more x vs (fold (with_use x) before us) in
    let same = ap length (fold-append (with_use x) before us vs) in h k.0 (omega (arith, more, same, most))

added_then : (b : Bool) (before mid after : List (List ℕ)) (x : Ident) (us vs : Uses)
    → AreAdded true before x us mid → AreAdded b mid x vs after → AreAdded b before x (us ++ vs) after
added_then true before mid after x us vs h k = (
  k.0 ∙ ap (λ (names : List (List ℕ)). fold (with_use x) names vs) h.0
      ∙ sym (fold-append (with_use x) before us vs),
  either_whole x us vs ∙ ap (λ (b : Bool). b || used_whole x vs) h.1 ∙ k.1,
  k.2,
)
added_then false before mid after x us vs h k = λ whole most.
    k (or_parts (used_whole x us) (used_whole x vs) (sym (either_whole x us vs) ∙ whole)).1
    (subst (λ (names : List (List ℕ)). length names ≤ 5)
    (fold-append (with_use x) before us vs
    ∙ ap (λ (names : List (List ℕ)). fold (with_use x) names vs) (sym h.0)) most)

-- ---- a name

pub name_added : (x : Ident) (before after : List (List ℕ)) (name : List ℕ) (b : Bool)
    → after ≡ with_name before name → IsTrue b ↔ (length after ≤ 5)
    → AreAdded b before x (Attribute x name ∷ []) after
name_added x before after name true e f = (
  e ∙ sym (ap (λ (b : Bool). cond b (with_name before name) before) (same_self x)),
  refl,
  f.0 refl,
)
name_added x before after name false e f = λ whole most. absurd (true≢false (sym (f.1
    (subst (λ (names : List (List ℕ)). length names ≤ 5)
    (ap (λ (b : Bool). cond b (with_name before name) before) (same_self x) ∙ sym e) most))))

-- ---- in a loop

module _ {X : Type 0} (used_by : X → Use) (all : List X) (i : ℕ) (item : X) (within : i < length all)
    (here : item ≡ get_or all i item) where
  next : map used_by (take (i + 1) all) ≡ map used_by (take i all) ++ used_by item ∷ []
  next = ap (map used_by) (take_more all i item within ∙ ap (λ (y : X). take i all ++ y ∷ []) (sym here))
      ∙ map-append used_by (take i all) (item ∷ [])

  pub goes_on : (before mid after : List (List ℕ)) (x : Ident) (b : Bool)
      → AreAdded true before x (map used_by (take i all)) mid → AreAdded b mid x (used_by item ∷ []) after
      → b ≡ true
      → AreAdded true before x (map used_by (take (i + 1) all)) after
  goes_on before mid after x b h k e = subst (λ (us : Uses). AreAdded true before x us after) (sym next)
      (added_then true before mid after x (map used_by (take i all)) (used_by item ∷ []) h
      (subst (λ (c : Bool). AreAdded c mid x (used_by item ∷ []) after) e k))

  pub stops : (before mid after : List (List ℕ)) (x : Ident) (b : Bool)
      → AreAdded true before x (map used_by (take i all)) mid → AreAdded b mid x (used_by item ∷ []) after
      → b ≡ false
      → AreAdded false before x (map used_by all) after
  stops before mid after x b h k e = subst (λ (us : Uses). AreAdded false before x us after)
      (sym (map-append used_by (take (i + 1) all) (drop (i + 1) all))
      ∙ ap (map used_by) (take-append-drop (i + 1) all))
      (not_added before after after x (map used_by (take (i + 1) all)) (map used_by (drop (i + 1) all))
      (subst (λ (us : Uses). AreAdded false before x us after) (sym next)
      (added_then false before mid after x (map used_by (take i all)) (used_by item ∷ []) h
      (subst (λ (c : Bool). AreAdded c mid x (used_by item ∷ []) after) e k))))

pub ended : {X : Type 0} (used_by : X → Use) (all : List X) (i : ℕ) (before after : List (List ℕ)) (x : Ident)
    → length all ≤ i → AreAdded true before x (map used_by (take i all)) after
    → AreAdded true before x (map used_by all) after
ended used_by all i before after x e h =
    subst (λ items. AreAdded true before x (map used_by items) after) (take_all i all e) h

-- ---- of all nodes above

pub nearest_stops : (before after : List (List ℕ)) (x : Ident) (levels further : List (List code.Use))
    (own lent : List code.Use) (b : Bool) → levels ≡ further ++ own ∷ [] → lent ≡ own
    → AreAdded b before x (uses_tree lent) after → b ≡ false
    → AreAdded false before x (above_uses levels) after
nearest_stops before after x levels further own lent b e f h k =
    subst (λ (us : Uses). AreAdded false before x us after) (sym (nearest_first levels further own e))
    (not_added before after after x (uses_tree own) (above_uses further)
    (subst (λ (l : List code.Use). AreAdded false before x (uses_tree l) after) f
    (subst (λ (c : Bool). AreAdded c before x (uses_tree lent) after) k h)))

pub nearest_then : (before mid after : List (List ℕ)) (x : Ident) (levels further : List (List code.Use))
    (own lent : List code.Use) (b few : Bool) → levels ≡ further ++ own ∷ [] → lent ≡ own
    → AreAdded b before x (uses_tree lent) mid → b ≡ true → AreAdded few mid x (above_uses further) after
    → AreAdded few before x (above_uses levels) after
nearest_then before mid after x levels further own lent b few e f h k l =
    subst (λ (us : Uses). AreAdded few before x us after) (sym (nearest_first levels further own e))
    (added_then few before mid after x (uses_tree own) (above_uses further)
    (subst (λ (l : List code.Use). AreAdded true before x (uses_tree l) mid) f
    (subst (λ (c : Bool). AreAdded c before x (uses_tree lent) mid) k h)) l)

-- ---- from no names on

pub first_stops : (before after : List (List ℕ)) (x : Ident) (us vs : Uses) (b : Bool) → before ≡ []
    → AreAdded b before x us after → b ≡ false → AreAdded false [] x (us ++ vs) []
first_stops before after x us vs b e h k =
    subst (λ (names : List (List ℕ)). AreAdded false names x (us ++ vs) []) e
    (not_added before after [] x us vs (subst (λ (c : Bool). AreAdded c before x us after) k h))

pub then_added : (before mid after : List (List ℕ)) (x : Ident) (us vs : Uses) (b c d : Bool) → before ≡ []
    → AreAdded b before x us mid → b ≡ true → AreAdded c mid x vs after → c ≡ d
    → AreAdded d [] x (us ++ vs) after
then_added before mid after x us vs b c d e h k l f =
    subst (λ (names : List (List ℕ)). AreAdded d names x (us ++ vs) after) e
    (added_then d before mid after x us vs (subst (λ (a : Bool). AreAdded a before x us mid) k h)
    (subst (λ (a : Bool). AreAdded a mid x vs after) f l))
