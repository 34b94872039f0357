-- A condition holds where its items hold, and conditions that are joined hold where both do.
use Rattle.std.proofs.Common.{◌≡◌, ◌∙◌, List, [], ◌∷◌, ◌++◌, Bool, true, false, true≢false, cond, refl, ap, ap₂, sym}
use Rattle.std.specs.Prelude.{◌&&◌}
use Rattle.std.specs.List.{list_all, AllByRecursion}
use Rattle.std.proofs.lemmas.Bool.{and_parts}
use Rattle.std.proofs.lemmas.List.Folds.{list_all-append}
use Rattle.aql_value.specs.Datum.{Datum, null, boolean}
use Rattle.aql_value.specs.Truth.{truth}
use Rattle.aql_value.specs.declared.operators.BinOp.{BinOp}
use Rattle.aql_value.specs.declared.operators.BinOp.TheVariants.{And}
use Rattle.aql_func.specs.Operators.{binary}
use Rattle.aql_tree.specs.declared.syntax.Ident.{Ident}
use Rattle.aql_tree.specs.Tree.{ExprTree, literal, chain, MaybeExpr, no_expr, one_expr, LinkTrees, no_links, link_then}
use Rattle.aql_meaning.specs.AtRows.{value_of, passes}
use Rattle.aql_meaning.specs.Plain.{IsPlain, MaybePlain, LinksPlain}
use Rattle.aql_meaning.specs.Row.{Row}
use Rattle.aql_meaning.specs.Uses.{uses, maybe_uses, link_uses}
use Rattle.aql_meaning.specs.Value.{links_value}
use Rattle.aql_plan.specs.FirstPlan.{is_and, all_and, right_sides, conjuncts}
use Rattle.aql_plan.specs.Variables.{are_among}
use Rattle.aql_rewrite.specs.laws.Among.{among_join, among_split}
use Rattle.aql_rules_filter.specs.Conditions.{filter_items, and_links, all_of, joined}
use Rattle.aql_rules_filter.specs.laws.Filtered.{holds}

-- ---- what holds

and_one : (a : Bool) → (a && true) ≡ a
and_one true = refl
and_one false = refl

and_assoc : (a b c : Bool) → ((a && b) && c) ≡ (a && (b && c))
and_assoc true b c = refl
and_assoc false b c = refl

truth_and : (a b : Datum) → truth (binary And a b) ≡ (truth a && truth b)
truth_and a b = by (truth a) refl
  where
    by : (t : Bool) → truth a ≡ t → truth (cond t b a) ≡ (t && truth b)
    by true e = refl
    by false e = e

pub is_it : (op : BinOp) → is_and op ≡ true → op ≡ And
is_it And h = refl
is_it op h = absurd (true≢false (sym h))

-- the links of an `&&` chain
links_hold : (row : Row) (ls : LinkTrees) (a : Datum) → all_and ls ≡ true
    → truth (links_value ls null row a) ≡ (truth a && list_all (λ e. holds e row) (right_sides ls))
links_hold row no_links a h = sym (and_one (truth a))
links_hold row (link_then op e ls) a h =
    let k = and_parts (is_and op) (all_and ls) h in
    links_hold row ls (binary op a (value_of e row)) k.1
    ∙ ap (λ b. truth (binary b a (value_of e row)) && list_all (λ d. holds d row) (right_sides ls))
    (is_it op k.0)
    ∙ ap (λ b. b && list_all (λ d. holds d row) (right_sides ls)) (truth_and a (value_of e row))
    ∙ and_assoc (truth a) (holds e row) (list_all (λ d. holds d row) (right_sides ls))

pub parts_hold : (row : Row) (e : ExprTree) → list_all (λ d. holds d row) (conjuncts e) ≡ holds e row
parts_hold row (chain e ls) = by (all_and ls) refl
  where
    by : (b : Bool) → all_and ls ≡ b
        → list_all (λ d. holds d row) (cond b (e ∷ right_sides ls) (chain e ls ∷ [])) ≡ holds (chain e ls) row
    by true h = sym (links_hold row ls (value_of e row) h)
    by false h = and_one (holds (chain e ls) row)
parts_hold row e = and_one (holds e row)

items_hold : (row : Row) (e : MaybeExpr) → list_all (λ d. holds d row) (filter_items e) ≡ passes e row
items_hold row no_expr = refl
items_hold row (one_expr e) = parts_hold row e

all_links : (es : List ExprTree) → all_and (and_links es) ≡ true
all_links [] = refl
all_links (e ∷ es) = all_links es

sides_back : (es : List ExprTree) → right_sides (and_links es) ≡ es
sides_back [] = refl
sides_back (e ∷ es) = ap (λ (ds : List ExprTree). e ∷ ds) (sides_back es)

pub all_hold : (row : Row) (es : List ExprTree) → holds (all_of es) row ≡ list_all (λ d. holds d row) es
all_hold row [] = refl
all_hold row (e ∷ []) = sym (and_one (holds e row))
all_hold row (e ∷ f ∷ fs) =
    links_hold row (and_links (f ∷ fs)) (value_of e row) (all_links (f ∷ fs))
    ∙ ap (λ ds. holds e row && list_all (λ d. holds d row) ds) (sides_back (f ∷ fs))

pub joined_holds : (first : MaybeExpr) (second : ExprTree) (row : Row)
    → holds (joined first second) row ≡ (passes first row && holds second row)
joined_holds first second row =
    all_hold row (filter_items first ++ conjuncts second)
    ∙ list_all-append (λ d. holds d row) (filter_items first) (conjuncts second)
    ∙ ap₂ (λ a b. a && b) (items_hold row first) (parts_hold row second)

-- ---- what items have, a condition has

module _ (P : ExprTree → Type 0)
    (split : (e : ExprTree) (ls : LinkTrees) → P (chain e ls) → P e × AllByRecursion P (right_sides ls))
    (join : (e : ExprTree) (es : List ExprTree) → P e → AllByRecursion P es → P (chain e (and_links es)))
    (empty : P (literal (boolean true))) where
  parts_have : (e : ExprTree) → P e → AllByRecursion P (conjuncts e)
  parts_have (chain e ls) h = by (all_and ls)
    where
      by : (b : Bool) → AllByRecursion P (cond b (e ∷ right_sides ls) (chain e ls ∷ []))
      by true = split e ls h
      by false = (h, tt)
  parts_have e h = (h, tt)

  both_have : (es fs : List ExprTree) → AllByRecursion P es → AllByRecursion P fs
      → AllByRecursion P (es ++ fs)
  both_have [] fs h k = k
  both_have (e ∷ es) fs h k = (h.0, both_have es fs h.1 k)

  all_has : (es : List ExprTree) → AllByRecursion P es → P (all_of es)
  all_has [] h = empty
  all_has (e ∷ []) h = h.0
  all_has (e ∷ f ∷ fs) h = join e (f ∷ fs) h.0 h.1

  one_has : (first second : ExprTree) → P first → P second → P (joined (one_expr first) second)
  one_has first second h k = all_has (conjuncts first ++ conjuncts second)
      (both_have (conjuncts first) (conjuncts second) (parts_have first h) (parts_have second k))

  alone_has : (second : ExprTree) → P second → P (joined no_expr second)
  alone_has second k = all_has (conjuncts second) (parts_have second k)

-- no subquery

links_plain : (ls : LinkTrees) → LinksPlain ls → AllByRecursion IsPlain (right_sides ls)
links_plain no_links h = tt
links_plain (link_then op e ls) h = (h.0, links_plain ls h.1)

and_plain : (es : List ExprTree) → AllByRecursion IsPlain es → LinksPlain (and_links es)
and_plain [] h = tt
and_plain (e ∷ es) h = (h.0, and_plain es h.1)

pub split_plain : (e : ExprTree) (ls : LinkTrees) → IsPlain (chain e ls)
    → IsPlain e × AllByRecursion IsPlain (right_sides ls)
split_plain e ls h = (h.0, links_plain ls h.1)

join_plain : (e : ExprTree) (es : List ExprTree) → IsPlain e → AllByRecursion IsPlain es
    → IsPlain (chain e (and_links es))
join_plain e es h k = (h, and_plain es k)

-- an item is plain where its condition is, and a condition of plain items is plain
pub parts_plain : (e : ExprTree) → IsPlain e → AllByRecursion IsPlain (conjuncts e)
parts_plain e h = parts_have IsPlain split_plain join_plain tt e h

pub all_plain : (es : List ExprTree) → AllByRecursion IsPlain es → IsPlain (all_of es)
all_plain es h = all_has IsPlain split_plain join_plain tt es h

pub joined_plain : (first : MaybeExpr) (second : ExprTree) → MaybePlain first → IsPlain second
    → IsPlain (joined first second)
joined_plain no_expr second h k = alone_has IsPlain split_plain join_plain tt second k
joined_plain (one_expr first) second h k = one_has IsPlain split_plain join_plain tt first second h k

-- variables that are there

module _ (xs : List Ident) where
  abbrev pub IsFound : ExprTree → Type 0
  IsFound e = are_among (uses e) xs ≡ true

  links_found : (ls : LinkTrees) → are_among (link_uses ls) xs ≡ true
      → AllByRecursion IsFound (right_sides ls)
  links_found no_links h = tt
  links_found (link_then op e ls) h =
      let k = among_split (uses e) (link_uses ls) xs h in (k.0, links_found ls k.1)

  and_found : (es : List ExprTree) → AllByRecursion IsFound es
      → are_among (link_uses (and_links es)) xs ≡ true
  and_found [] h = refl
  and_found (e ∷ es) h = among_join (uses e) (link_uses (and_links es)) xs h.0 (and_found es h.1)

  pub split_found : (e : ExprTree) (ls : LinkTrees) → IsFound (chain e ls)
      → IsFound e × AllByRecursion IsFound (right_sides ls)
  split_found e ls h = let k = among_split (uses e) (link_uses ls) xs h in (k.0, links_found ls k.1)

  join_found : (e : ExprTree) (es : List ExprTree) → IsFound e → AllByRecursion IsFound es
      → IsFound (chain e (and_links es))
  join_found e es h k = among_join (uses e) (link_uses (and_links es)) xs h (and_found es k)

  -- the variables of an item are there where those of its condition are, and back
  pub parts_found : (e : ExprTree) → IsFound e → AllByRecursion IsFound (conjuncts e)
  parts_found e h = parts_have IsFound split_found join_found refl e h

  pub all_found : (es : List ExprTree) → AllByRecursion IsFound es → IsFound (all_of es)
  all_found es h = all_has IsFound split_found join_found refl es h

  pub joined_found : (first : MaybeExpr) (second : ExprTree) → are_among (maybe_uses first) xs ≡ true
      → are_among (uses second) xs ≡ true → are_among (uses (joined first second)) xs ≡ true
  joined_found no_expr second h k = alone_has IsFound split_found join_found refl second k
  joined_found (one_expr first) second h k = one_has IsFound split_found join_found refl first second h k
