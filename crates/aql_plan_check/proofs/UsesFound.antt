-- What is found form by form is what is found of the list of uses.
use Rattle.std.proofs.Common.{◌≡◌, ◌∙◌, ap, sym, refl, List, [], ◌∷◌, ◌++◌, Bool, true}
use Rattle.std.specs.Prelude.{◌&&◌, ◌↔◌, Option, Some, None}
use Rattle.std.specs.List.{list_any}
use Rattle.std.proofs.lemmas.Bool.{and_parts, and_from}
use Rattle.std.proofs.Math.Bool.{and_assoc}
use Rattle.aql_tree.specs.declared.syntax.Ident.{Ident}
use Rattle.aql_tree.specs.Tree.{ExprTree, literal, variable, current, array_literal, object_literal, access, function_call, unary_of, chain, array_comparison, ternary, range_of, subquery, ExprTrees, no_exprs, expr_then, MaybeExpr, no_expr, one_expr, MemberTrees, no_members, named_then, computed_then, StepTrees, no_steps, name_then, at_then, inline_then, LinkTrees, no_links, link_then, AggregateTrees, no_aggregates, aggregate_then, IntoTree, no_into, into}
use Rattle.aql_meaning.specs.Row.{same_ident}
use Rattle.aql_meaning.specs.Uses.{Uses, used_variable, uses, all_uses, maybe_uses, member_uses, step_uses, link_uses, aggregate_uses, into_uses}
use Rattle.aql_meaning.specs.Visible.{aggregate_vars}
use Rattle.aql_meaning.specs.Documents.{End, Last, no_last, one_of, between}
use Rattle.aql_meaning.specs.declared.grouping.Stage.TheVariants as stage
use Rattle.aql_plan.specs.Plan.{Node, EnumerateCollection, Index, EnumerateList, Traversal, Calculation, Subquery, Filter, Sort, Limit, Collect, Return, NoResults, Scatter, Distribute, Remote, Gather}
use Rattle.aql_plan.specs.Needs.{end_uses, last_uses, as_wholes}
use Rattle.aql_plan.specs.Variables.{are_among, input_uses, filter_uses}
use Rattle.aql_plan_check.specs.inner.Findings.{IsAmong, Finds, AllFind, MaybeFinds, MembersFind, StepsFind, LinksFind, AggregatesFind, IntoFinds, EndFinds, LastFinds, AreAmong, InputFinds, FilterFinds}

module _ (xs : List Ident) where
  among_append : (us vs : Uses) → are_among (us ++ vs) xs ≡ (are_among us xs && are_among vs xs)
  among_append [] vs = refl
  among_append (u ∷ us) vs = ap (λ b. list_any (same_ident (used_variable u)) xs && b) (among_append us vs)
      ∙ sym (and_assoc (list_any (same_ident (used_variable u)) xs) (are_among us xs) (are_among vs xs))

  nothing : Unit {0} ↔ (are_among [] xs ≡ true)
  nothing = ((λ h. refl), (λ h. tt))

  both : {P Q : Type 0} (us vs : Uses) → P ↔ (are_among us xs ≡ true) → Q ↔ (are_among vs xs ≡ true)
      → (P × Q) ↔ (are_among (us ++ vs) xs ≡ true)
  both us vs h k = (
    (λ p. among_append us vs ∙ and_from (are_among us xs) (are_among vs xs) (h.0 p.0) (k.0 p.1)),
    (λ e. let a = and_parts (are_among us xs) (are_among vs xs) (sym (among_append us vs) ∙ e) in
        (h.1 a.0, k.1 a.1)),
  )

  three : {P Q R : Type 0} (us vs ws : Uses) → P ↔ (are_among us xs ≡ true) → Q ↔ (are_among vs xs ≡ true)
      → R ↔ (are_among ws xs ≡ true) → (P × Q × R) ↔ (are_among (us ++ (vs ++ ws)) xs ≡ true)
  three us vs ws h k l =
      let m = both us (vs ++ ws) h (both vs ws k l) in
      ((λ p. m.0 (p.0, (p.1, p.2))), (λ e. let a = m.1 e in (a.0, a.1.0, a.1.1)))

  -- one use, and more
  one_more : {Q : Type 0} (x : Ident) (b : Bool) → Q ↔ (b ≡ true)
      → (IsAmong xs x × Q) ↔ ((list_any (same_ident x) xs && b) ≡ true)
  one_more x b k = (
    (λ p. and_from (list_any (same_ident x) xs) b p.0 (k.0 p.1)),
    (λ e. let a = and_parts (list_any (same_ident x) xs) b e in (a.0, k.1 a.1)),
  )

  alone : (x : Ident) → IsAmong xs x ↔ ((list_any (same_ident x) xs && true) ≡ true)
  alone x = let k = one_more x true ((λ (h : Unit {0}). refl), (λ e. tt)) in
      ((λ h. k.0 (h, tt)), (λ e. (k.1 e).0))

  mutual
    pub found : (e : ExprTree) → Finds xs e ↔ (are_among (uses e) xs ≡ true)
    found (literal t) = nothing
    found (variable x) = alone x
    found current = nothing
    found (array_literal es) = all_found es
    found (object_literal ms) = members_found ms
    found (access (variable x) (name_then name ss)) = one_more x (are_among (step_uses ss) xs) (steps_found ss)
    found (access (variable x) no_steps) = both (uses (variable x)) [] (alone x) nothing
    found (access (variable x) (at_then e ss)) =
        both (uses (variable x)) (step_uses (at_then e ss)) (alone x) (steps_found (at_then e ss))
    found (access (variable x) (inline_then f g ss)) =
        both (uses (variable x)) (step_uses (inline_then f g ss)) (alone x) (steps_found (inline_then f g ss))
    found (access (literal t) ss) = both (uses (literal t)) (step_uses ss) (found (literal t)) (steps_found ss)
    found (access current ss) = both (uses current) (step_uses ss) (found current) (steps_found ss)
    found (access (array_literal es) ss) =
        both (uses (array_literal es)) (step_uses ss) (found (array_literal es)) (steps_found ss)
    found (access (object_literal ms) ss) =
        both (uses (object_literal ms)) (step_uses ss) (found (object_literal ms)) (steps_found ss)
    found (access (access e rs) ss) = both (uses (access e rs)) (step_uses ss) (found (access e rs)) (steps_found ss)
    found (access (function_call name es) ss) =
        both (uses (function_call name es)) (step_uses ss) (found (function_call name es)) (steps_found ss)
    found (access (unary_of op e) ss) = both (uses (unary_of op e)) (step_uses ss) (found (unary_of op e)) (steps_found ss)
    found (access (chain e ls) ss) = both (uses (chain e ls)) (step_uses ss) (found (chain e ls)) (steps_found ss)
    found (access (array_comparison e kind op f) ss) = both (uses (array_comparison e kind op f)) (step_uses ss)
        (found (array_comparison e kind op f)) (steps_found ss)
    found (access (ternary t m o) ss) = both (uses (ternary t m o)) (step_uses ss) (found (ternary t m o)) (steps_found ss)
    found (access (range_of e f) ss) = both (uses (range_of e f)) (step_uses ss) (found (range_of e f)) (steps_found ss)
    found (access (subquery q) ss) = both (uses (subquery q)) (step_uses ss) (found (subquery q)) (steps_found ss)
    found (function_call name es) = all_found es
    found (unary_of op e) = found e
    found (chain e ls) = both (uses e) (link_uses ls) (found e) (links_found ls)
    found (array_comparison e kind op f) = both (uses e) (uses f) (found e) (found f)
    found (ternary t m o) = three (uses t) (maybe_uses m) (uses o) (found t) (maybe_found m) (found o)
    found (range_of e f) = both (uses e) (uses f) (found e) (found f)
    found (subquery q) = nothing

    pub all_found : (es : ExprTrees) → AllFind xs es ↔ (are_among (all_uses es) xs ≡ true)
    all_found no_exprs = nothing
    all_found (expr_then e es) = both (uses e) (all_uses es) (found e) (all_found es)

    pub maybe_found : (m : MaybeExpr) → MaybeFinds xs m ↔ (are_among (maybe_uses m) xs ≡ true)
    maybe_found no_expr = nothing
    maybe_found (one_expr e) = found e

    members_found : (ms : MemberTrees) → MembersFind xs ms ↔ (are_among (member_uses ms) xs ≡ true)
    members_found no_members = nothing
    members_found (named_then name e ms) = both (uses e) (member_uses ms) (found e) (members_found ms)
    members_found (computed_then n e ms) =
        three (uses n) (uses e) (member_uses ms) (found n) (found e) (members_found ms)

    steps_found : (ss : StepTrees) → StepsFind xs ss ↔ (are_among (step_uses ss) xs ≡ true)
    steps_found no_steps = nothing
    steps_found (name_then name ss) = steps_found ss
    steps_found (at_then e ss) = both (uses e) (step_uses ss) (found e) (steps_found ss)
    steps_found (inline_then f g ss) =
        three (maybe_uses f) (maybe_uses g) (step_uses ss) (maybe_found f) (maybe_found g) (steps_found ss)

    links_found : (ls : LinkTrees) → LinksFind xs ls ↔ (are_among (link_uses ls) xs ≡ true)
    links_found no_links = nothing
    links_found (link_then op e ls) = both (uses e) (link_uses ls) (found e) (links_found ls)

  aggregates_found : (gs : AggregateTrees) → AggregatesFind xs gs ↔ (are_among (aggregate_uses gs) xs ≡ true)
  aggregates_found no_aggregates = nothing
  aggregates_found (aggregate_then x name e rest) =
      both (maybe_uses e) (aggregate_uses rest) (maybe_found e) (aggregates_found rest)

  into_found : (i : IntoTree) → IntoFinds xs i ↔ (are_among (into_uses i) xs ≡ true)
  into_found no_into = nothing
  into_found (into x what keep) = maybe_found what

  end_found : (e : Option (End ExprTree)) → EndFinds xs e ↔ (are_among (end_uses e) xs ≡ true)
  end_found None = nothing
  end_found (Some e) = found e.limit

  last_found : (l : Last ExprTree) → LastFinds xs l ↔ (are_among (last_uses l) xs ≡ true)
  last_found no_last = nothing
  last_found (one_of e) = found e
  last_found (between low high) = both (end_uses low) (end_uses high) (end_found low) (end_found high)

  wholes_found : (ys : List Ident) → AreAmong xs ys ↔ (are_among (as_wholes ys) xs ≡ true)
  wholes_found [] = nothing
  wholes_found (y ∷ ys) = one_more y (are_among (as_wholes ys) xs) (wholes_found ys)

  pub input_found : (n : Node) → InputFinds xs n ↔ (are_among (input_uses n) xs ≡ true)
  input_found (EnumerateCollection x) = nothing
  input_found (Index x index equal last ordered) =
      both (all_uses equal) (last_uses last) (all_found equal) (last_found last)
  input_found (EnumerateList x e) = found e
  input_found (Traversal w e colls prune keep) = found e
  input_found (Calculation x e) = found e
  input_found (Subquery x b) = nothing
  input_found (Filter e) = found e
  input_found (Sort directions es n) = all_found es
  input_found (Limit offset most) = nothing
  input_found (Collect ys es gs i stage.Final) =
      both (as_wholes ys) (as_wholes (aggregate_vars gs)) (wholes_found ys) (wholes_found (aggregate_vars gs))
  input_found (Collect ys es gs i stage.Whole) = three (all_uses es) (aggregate_uses gs) (into_uses i)
      (all_found es) (aggregates_found gs) (into_found i)
  input_found (Collect ys es gs i stage.Partial) = three (all_uses es) (aggregate_uses gs) (into_uses i)
      (all_found es) (aggregates_found gs) (into_found i)
  input_found (Return distinct e) = found e
  input_found NoResults = nothing
  input_found (Scatter coll only) = nothing
  input_found (Distribute coll es) = all_found es
  input_found Remote = nothing
  input_found (Gather directions es) = all_found es

  pub filter_found : (n : Node) → FilterFinds xs n ↔ (are_among (filter_uses n) xs ≡ true)
  filter_found (EnumerateCollection x) = maybe_found x.filter
  filter_found (Index x index equal last ordered) = maybe_found x.filter
  filter_found (Traversal w e colls prune keep) =
      both (maybe_uses prune) (maybe_uses keep) (maybe_found prune) (maybe_found keep)
  filter_found n = nothing
