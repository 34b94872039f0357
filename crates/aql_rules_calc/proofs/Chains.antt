-- What replace-or-with-in gives at a chain.
use Rattle.std.proofs.Common.{◌≡◌, ◌∙◌, ◌<◌, ◌+◌, ℕ, List, [], ◌∷◌, ◌++◌, length, map, take, drop, get_or}
use Rattle.std.proofs.Common.{append_assoc, Bool, true, false, cond, refl, ap, sym, subst, subst₂, rules}
use Rattle.std.specs.Prelude.{Option, Some, None, MatchOption}
use Rattle.std.specs.Borrow.{Bor}
use Rattle.std.proofs.lemmas.List.{append-nil, take_more, take-append-drop, map-append}
use Rattle.aql_value.specs.declared.operators.BinOp.{BinOp}
use Rattle.aql_value.specs.declared.operators.BinOp.TheVariants.{Eq, IsIn}
use Rattle.aql_tree.specs.declared.syntax.Expr.{Expr, the_lemmas}
use Rattle.aql_tree.specs.declared.syntax.Expr as code
use Rattle.aql_tree.specs.Tree.{ExprTree, array_literal, chain, expr_then, LinkTrees, no_links, link_then}
use Rattle.aql_tree.specs.View.{tree, trees, links, LinkPart}
use Rattle.aql_meaning.specs.Plain.{IsPlain}
use Rattle.aql_rewrite.specs.Constant.{IsConstant}
use Rattle.aql_rewrite.specs.FirstInExpr.{Stays}
use Rattle.aql_rewrite.specs.Children.{list_children, link_children, children}
use Rattle.aql_rewrite.specs.ExprView.{lent}
use Rattle.aql_rules_calc.specs.inner.Operations.{chain_in, array_in, operation_in, right_sides, left_in}
use Rattle.aql_rules_calc.specs.inner.Operations.{first_left}
use Rattle.aql_rules_calc.specs.laws.OrWithIn.{listed}
use Rattle.aql_rules_calc.specs.ReplaceOrWithIn.{is_or_chain, operation, Compares, equal_to, one_of}
use Rattle.aql_rules_calc.specs.ReplaceOrWithIn.{AllCompare, no_more, compares_then, Replaces, by_in}

-- ---- forms

module _ (e : Expr) (es : List Expr) (h : e ≡ code.List es) where
  as_array : tree e ≡ array_literal (trees (map tree es))
  as_array = ap tree h
      ∙ (let k : tree (code.List es) ≡ array_literal (trees (map tree es)) = search (rules, the_lemmas) in k)

  pub some_elements : (length es ≡ 0 → ⊥) → array_in (tree e) ≡ Some (map tree es)
  some_elements n = ap array_in as_array ∙ by es n
    where
      by : (ds : List Expr) → (length ds ≡ 0 → ⊥)
          → array_in (array_literal (trees (map tree ds))) ≡ Some (map tree ds)
      by [] n = absurd (n refl)
      by (d ∷ ds) n = ap Some (listed (map tree (d ∷ ds)))

is_chain : (e d : ExprTree) (ls : LinkTrees) → chain_in e ≡ Some (d, ls) → e ≡ chain d ls
is_chain (chain f ks) d ls h =
    let same : (f, ks) ≡ (d, ls) = cc in ap (λ (x : ExprTree × LinkTrees). chain x.0 x.1) same
is_chain e d ls h = cc

pub not_one : (t e : ExprTree) (ls : List LinkPart) → chain_in t ≡ Some (e, links ls) → (length ls ≡ 1 → ⊥)
    → operation_in t ≡ None
not_one t e ls h n = ap operation_in (is_chain t e (links ls) h) ∙ by ls n
  where
    by : (ls : List LinkPart) → (length ls ≡ 1 → ⊥) → operation_in (chain e (links ls)) ≡ None
    by [] n = refl
    by (l ∷ []) n = absurd (n refl)
    by (l ∷ k ∷ ls) n = refl

-- ---- one part

is_operation : (d e k : ExprTree) (op : BinOp) → operation_in d ≡ Some (e, op, k) → d ≡ operation e op k
is_operation (chain f (link_then o j no_links)) e k op h =
    let same : (f, o, j) ≡ (e, op, k) = cc in
    ap (λ (x : ExprTree × BinOp × ExprTree). operation x.0 x.1 x.2) same
is_operation d e k op h = cc

sides : (e f k : ExprTree) (op : BinOp) (ks : List ExprTree) → Compares f (operation e op k) ks
    → right_sides op k ≡ Some ks
sides e _ k _ _ (equal_to p c) = refl
sides e _ _ _ _ (one_of p c) = refl

compares : (e k : ExprTree) (op : BinOp) (ks : List ExprTree) → IsPlain e → IsConstant k
    → right_sides op k ≡ Some ks → Compares e (operation e op k) ks
compares e k Eq ks p c h =
    let same : k ∷ [] ≡ ks = cc in
    subst (λ (x : List ExprTree). Compares e (operation e Eq k) x) same (equal_to p c)
compares e (array_literal (expr_then j js)) IsIn ks p c h =
    let same : list_children (expr_then j js) ≡ ks = cc in
    subst (λ (x : List ExprTree). Compares e (operation e IsIn (array_literal (expr_then j js))) x) same
    (one_of p c)
compares e k op ks p c h = cc

-- of `e op k` that the program found
pub compared_given : (f d e k : ExprTree) (op : BinOp) → operation_in d ≡ Some (e, op, k) → f ≡ e → IsPlain f
    → IsConstant k → (o : Option (Bor (List Expr)))
    → MatchOption o (right_sides op k ≡ None) (λ ks. right_sides op k ≡ Some (map tree ks.now))
    → MatchOption o ((ks : List ExprTree) → Compares f d ks → ⊥) (λ ks. Compares f d (map tree ks.now))
compared_given f d e k op found same p c o h =
    let is : operation f op k ≡ d
    = ap (λ (x : ExprTree). operation x op k) same ∙ sym (is_operation d e k op found) in by o h is
  where
    by : (o : Option (Bor (List Expr)))
        → MatchOption o (right_sides op k ≡ None) (λ ks. right_sides op k ≡ Some (map tree ks.now))
        → operation f op k ≡ d
        → MatchOption o ((ks : List ExprTree) → Compares f d ks → ⊥) (λ ks. Compares f d (map tree ks.now))
    by None h is = λ ks j. let x : Some ks ≡ None = sym (sides f f k op ks
        (subst (λ (y : ExprTree). Compares f y ks) (sym is) j)) ∙ h in cc
    by (Some ks) h is =
        subst (λ (y : ExprTree). Compares f y (map tree ks.now)) is (compares f k op (map tree ks.now) p c h)

-- ---- all parts

module _ (e : ExprTree) where
  compares_more : (ds ks : List ExprTree) (d : ExprTree) (js : List ExprTree) → AllCompare e ds ks
      → Compares e d js → AllCompare e (ds ++ d ∷ []) (ks ++ js)
  compares_more _ _ d js no_more h =
      subst (λ (x : List ExprTree). AllCompare e (d ∷ []) x) (append-nil js) (compares_then h no_more)
  compares_more _ _ d js (compares_then {d = f} {ds = ds} {ks = ks} {js = hs} k l) h =
      subst (λ (x : List ExprTree). AllCompare e (f ∷ (ds ++ d ∷ [])) x) (sym (append_assoc ks hs js))
      (compares_then k (compares_more ds hs d js l h))

  none_among : (ds es ks : List ExprTree) (d : ExprTree) → ((js : List ExprTree) → Compares e d js → ⊥)
      → AllCompare e (ds ++ d ∷ es) ks → ⊥
  none_among [] es _ d n (compares_then h k) = n _ h
  none_among (f ∷ ds) es _ d n (compares_then {js = js} h k) = none_among ds es js d n k

module _ (e : ExprTree) (all : List (Bor Expr)) (i : ℕ) (part : Bor Expr) (within : i < length all)
    (here : part ≡ get_or all i part) where
  next : take (i + 1) all ≡ take i all ++ part ∷ []
  next = take_more all i part within ∙ ap (λ x. take i all ++ x ∷ []) (sym here)

  pub compared_next : (ks js new : List ExprTree) → AllCompare e (map lent (take i all)) ks
      → Compares e (lent part) js → new ≡ ks ++ js → AllCompare e (map lent (take (i + 1) all)) new
  compared_next ks js new h k n = subst₂ (λ (ds hs : List ExprTree). AllCompare e ds hs)
      (sym (ap (map lent) next ∙ map-append lent (take i all) (part ∷ []))) (sym n)
      (compares_more e (map lent (take i all)) ks (lent part) js h k)

  pub not_compared : ((js : List ExprTree) → Compares e (lent part) js → ⊥) → (ks : List ExprTree)
      → AllCompare e (map lent all) ks → ⊥
  not_compared n ks h =
      none_among e (map lent (take i all)) (map lent (drop (i + 1) all)) ks (lent part) n
      (subst (λ (ds : List ExprTree). AllCompare e ds ks) (ap (map lent) whole
      ∙ map-append lent (take i all) (part ∷ drop (i + 1) all)) h)
    where
      whole : all ≡ take i all ++ part ∷ drop (i + 1) all
      whole = sym (take-append-drop (i + 1) all) ∙ ap (λ xs. xs ++ drop (i + 1) all) next
          ∙ append_assoc (take i all) (part ∷ []) (drop (i + 1) all)

-- ---- the chain

left_of : (e d : ExprTree) (ds ks : List ExprTree) → AllCompare e (d ∷ ds) ks → left_in d ≡ Some e
left_of e d ds _ (compares_then {ks = ks} h k) = by d ks h
  where
    by : (d : ExprTree) (ks : List ExprTree) → Compares e d ks → left_in d ≡ Some e
    by _ _ (equal_to p c) = refl
    by _ _ (one_of p c) = refl

first_of : (e d : ExprTree) (ls : LinkTrees) (ks : List ExprTree) → is_or_chain ls ≡ true
    → AllCompare e (d ∷ link_children ls) ks → first_left (chain d ls) ≡ Some e
first_of e d ls ks o h = ap (λ (b : Bool). cond b (left_in d) None) o ∙ left_of e d (link_children ls) ks h

pub no_left : (t : ExprTree) → first_left t ≡ None → Stays Replaces t
no_left t h q r = by t q h r
  where
    by : (t q : ExprTree) → first_left t ≡ None → Replaces t q → ⊥
    by _ _ h (by_in {e = e} {d = d} {ls = ls} {ks = ks} o c k) =
        let x : Some e ≡ None = sym (first_of e d ls ks o k) ∙ h in cc

module _ (f : ExprTree) where
  of_left : (t q : ExprTree) → first_left t ≡ Some f → Replaces t q
      → ((ks : List ExprTree) → (IsConstant f → ⊥) → AllCompare f (children t) ks → ⊥) → ⊥
  of_left _ _ h (by_in {e = e} {d = d} {ls = ls} {ks = ks} o c k) n =
      let x : Some e ≡ Some f = sym (first_of e d ls ks o k) ∙ h in
      let same : e ≡ f = cc in
      n ks (λ j. c (subst (λ (y : ExprTree). IsConstant y) (sym same) j))
      (subst (λ (y : ExprTree). AllCompare y (d ∷ link_children ls) ks) same k)

  pub stays_constant : (t : ExprTree) → first_left t ≡ Some f → IsConstant f → Stays Replaces t
  stays_constant t h k q r = of_left t q h r (λ ks c j. c k)

  pub stays_apart : (t : ExprTree) → first_left t ≡ Some f
      → ((ks : List ExprTree) → AllCompare f (children t) ks → ⊥) → Stays Replaces t
  stays_apart t h n q r = of_left t q h r (λ ks c j. n ks j)

  pub replaced : (t q : ExprTree) (ks : List ExprTree) → first_left t ≡ Some f → (IsConstant f → ⊥)
      → AllCompare f (children t) ks → q ≡ operation f IsIn (array_literal (trees ks)) → Replaces t q
  replaced (chain d ls) q ks h c k e = by (is_or_chain ls) refl h
    where
      by : (b : Bool) → is_or_chain ls ≡ b → cond b (left_in d) None ≡ Some f → Replaces (chain d ls) q
      by true o g = subst (λ (x : ExprTree). Replaces (chain d ls) x) (sym e) (by_in o c k)
      by false o g = cc
  replaced t q ks h c k e = cc
