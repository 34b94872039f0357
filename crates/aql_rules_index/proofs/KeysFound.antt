-- Keys of a Sort as attributes, and the indexes that begin with them.
use Rattle.std.proofs.Common.{◌≡◌, ◌∙◌, ◌≤◌, ◌+◌, ℕ, zero, suc, List, [], ◌∷◌, map, length, take, drop, Bool, false, true≢false, cond, ◌⊎◌, inl, inr, Option, Some, None, refl, sym, ap, ap₂, subst, arith}
use Rattle.std.specs.Prelude.{IsTrue, ◌↔◌, bytes_eq, is_some}
use Rattle.std.proofs.lemmas.List.{length-take-le, length-map, drop_all}
use Rattle.std.proofs.lemmas.Slice.Eq.{bytes_eq-Decides}
use Rattle.aql_tree.specs.declared.syntax.Expr.{Expr}
use Rattle.aql_tree.specs.declared.syntax.Ident.{Ident}
use Rattle.aql_tree.specs.declared.syntax.Key.{Key}
use Rattle.aql_tree.specs.Tree.{ExprTree, variable, access, StepTrees, no_steps, name_then, ExprTrees, no_exprs, expr_then}
use Rattle.aql_tree.specs.View.{key_part}
use Rattle.aql_tree.specs.laws.Parts.{key_is}
use Rattle.aql_meaning.specs.Row.{same_ident}
use Rattle.aql_meaning.specs.laws.Idents.{same_is, same_self}
use Rattle.aql_plan.specs.declared.facts.Facts.{Facts}
use Rattle.aql_plan.specs.Facts.{attributes_in}
use Rattle.aql_plan.specs.Fits.{exprs_in, attribute_keys}
use Rattle.aql_plan.specs.View.{directions, key_trees, expr_trees}
use Rattle.aql_rules_index.specs.Choice.{lone_name, of_variable, attribute_of}
use Rattle.aql_rules_index.specs.UseIndexForSort.{AreFirst, IsSorted, is_one_of}
use Rattle.aql_rules_index.specs.inner.Ordering.{AreAttributes, KeysAreFirst, MayOrder}
use Rattle.aql_rules_index.specs.inner.Readers.{IndexRead}
use Rattle.aql_rules_index.specs.laws.Items.{some_same, picked}

-- ---- one key

lone_form : (ss : StepTrees) (n : List ℕ) → lone_name ss ≡ Some n → ss ≡ name_then n no_steps
lone_form no_steps n h = absurd (cc)
lone_form (name_then m no_steps) n h = ap (λ (k : List ℕ). name_then k no_steps) (some_same m n h)
lone_form ss n h = absurd (cc)

of_form : (x : Ident) (e : ExprTree) (ss : StepTrees) (n : List ℕ) → of_variable x e (lone_name ss) ≡ Some n
    → access e ss ≡ access (variable x) (name_then n no_steps)
of_form x (variable y) ss n h =
    let k = picked (same_ident x y) (lone_name ss) n h in
    ap₂ (λ (z : Ident) (ts : StepTrees). access (variable z) ts) (sym (same_is x y k.0)) (lone_form ss n k.1)
of_form x e ss n h = absurd (cc)

-- an expression is an attribute of a variable
pub attribute_form : (x : Ident) (e : ExprTree) (n : List ℕ) → attribute_of x e ≡ Some n
    → e ≡ access (variable x) (name_then n no_steps)
attribute_form x (access e ss) n h = of_form x e ss n h
attribute_form x e n h = absurd (cc)

pub form_attribute : (x : Ident) (e : ExprTree) (n : List ℕ) → e ≡ access (variable x) (name_then n no_steps)
    → attribute_of x e ≡ Some n
form_attribute x e n h = ap (attribute_of x) h ∙ ap (λ b. cond b (Some n) None) (same_self x)

-- the program's test of an attribute's name
pub found_is : (x : Ident) (e : ExprTree) (n m : List ℕ) (b : Bool) → attribute_of x e ≡ Some n
    → b ≡ bytes_eq n m → IsTrue b ↔ (e ≡ access (variable x) (name_then m no_steps))
found_is x e n m b h k = (
  (λ t. attribute_form x e n h
      ∙ ap (λ (l : List ℕ). access (variable x) (name_then l no_steps)) ((bytes_eq-Decides n m).0 (sym k ∙ t))),
  (λ f. k ∙ (bytes_eq-Decides n m).1 (some_same n m (sym h ∙ form_attribute x e m f))),
)

pub none_is : (x : Ident) (e : ExprTree) (m : List ℕ) → attribute_of x e ≡ None
    → IsTrue false ↔ (e ≡ access (variable x) (name_then m no_steps))
none_is x e m h = (
  (λ t. absurd (true≢false (sym t))),
  (λ f. absurd (let k = form_attribute x e m f in cc)),
)

-- ---- keys as the program holds them

key_direction : (k : Key) → (key_part k).1 ≡ k.descending
key_direction k = ap (λ (part : ExprTree × Bool). part.1) (key_is k)

pub many_keys : (keys : List Key) → exprs_in (key_trees keys) ≡ length keys
many_keys [] = refl
many_keys (k ∷ keys) = omega (arith, many_keys keys)

pub many_directions : (keys : List Key) → length (directions keys) ≡ length keys
many_directions keys = length-map (map key_part keys) (λ k. k.1) ∙ length-map keys key_part

module _ (keys more : List Key) (key : Key) (is : keys ≡ key ∷ more) where
  pub first_direction : directions keys ≡ key.descending ∷ directions more
  first_direction = ap directions is ∙ ap (λ (d : Bool). d ∷ directions more) (key_direction key)

-- ---- keys as attributes

are_taken : (x : Ident) (es : ExprTrees) (all : List (List ℕ)) → AreAttributes x es all
    → (es ≡ attribute_keys x (take (exprs_in es) all)) × (exprs_in es ≤ length all)
are_taken x no_exprs all h = (refl, omega arith)
are_taken x (expr_then e es) [] h = absurd h
are_taken x (expr_then e es) (name ∷ all) h =
    let k = are_taken x es all h.1 in
    let one_more : suc (exprs_in es) ≡ exprs_in es + 1 = omega arith in (
      subst (λ (n : ℕ). expr_then e es ≡ attribute_keys x (take n (name ∷ all))) one_more
          (ap₂ expr_then h.0 k.0),
      omega (arith, k.1),
    )

pub names_of : (x : Ident) (es : ExprTrees) (all : List (List ℕ)) → KeysAreFirst x es all
    → (names : List (List ℕ)) × (es ≡ attribute_keys x names) × AreFirst names all
names_of x es all (some, h) =
    let k = are_taken x es all h in
    let long : length (take (exprs_in es) all) ≡ exprs_in es = length-take-le (exprs_in es) all k.1 in (
      take (exprs_in es) all,
      k.0,
      (omega (arith, some, long), omega (arith, long, k.1), sym (ap (λ n. take n all) long)),
    )

pub as_many : (x : Ident) (names : List (List ℕ)) → exprs_in (attribute_keys x names) ≡ length names
as_many x [] = refl
as_many x (name ∷ names) = omega (arith, as_many x names)

taken_are : (x : Ident) (n : ℕ) (all : List (List ℕ)) → n ≤ length all
    → AreAttributes x (attribute_keys x (take n all)) all
taken_are x zero all h = tt
taken_are x (suc n) [] h = absurd (omega (arith, h))
taken_are x (suc n) (name ∷ all) h = (refl, taken_are x n all (omega (arith, h)))

pub keys_first : (x : Ident) (names all : List (List ℕ)) → AreFirst names all
    → KeysAreFirst x (attribute_keys x names) all
keys_first x names all (some, few, is) = (
  omega (arith, some, as_many x names),
  subst (λ (ns : List (List ℕ)). AreAttributes x (attribute_keys x ns) all) (sym is)
      (taken_are x (length names) all few),
)

-- ---- keys of an Index

pub many_exprs : (es : List Expr) → exprs_in (expr_trees es) ≡ length es
many_exprs [] = refl
many_exprs (e ∷ es) = omega (arith, many_exprs es)

pub absent : (o : Option Bool) → is_some o ≡ false → o ≡ None
absent None h = refl
absent (Some b) h = absurd (true≢false h)

-- no key is an attribute past the last one
pub none_behind : (x : Ident) (es : ExprTrees) (equal : ℕ) (names : List (List ℕ)) → length names ≤ equal
    → KeysAreFirst x es (drop equal names) → ⊥
none_behind x no_exprs equal names h (some, k) = omega (arith, some)
none_behind x (expr_then e es) equal names h (some, k) =
    subst (AreAttributes x (expr_then e es)) (drop_all equal names h) k

module _ (facts : Facts) (r : IndexRead) (es : ExprTrees) (free : r.ordered ≡ None)
    (sorts : IsSorted facts r.coll r.index) (range : is_one_of r.last ≡ false) where
  abbrev names_in : List (List ℕ)
  names_in = attributes_in facts r.coll r.index

  pub may_behind : (b : Bool) → (KeysAreFirst r.var es names_in → ⊥)
      → IsTrue b ↔ KeysAreFirst r.var es (drop (exprs_in r.equal) names_in) → IsTrue b ↔ MayOrder facts r es
  may_behind b f h = ((λ t. (free, sorts, range, inr (h.0 t))), (λ m. by m.3))
    where
      by : KeysAreFirst r.var es names_in ⊎ KeysAreFirst r.var es (drop (exprs_in r.equal) names_in) → IsTrue b
      by (inl k) = absurd (f k)
      by (inr k) = h.1 k
