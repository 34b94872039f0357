-- What the comparison form by form answers: whether the expressions are equal and hold no subquery.
use Rattle.std.proofs.Common.{◌≡◌, ◌∙◌, ℕ, List, [], ◌∷◌, Bool, true, true≢false, cond, refl, ap, ap₂, sym}
use Rattle.std.specs.Prelude.{◌&&◌, ◌==◌, ◌↔◌, IsTrue, bytes_eq}
use Rattle.std.proofs.lemmas.Bool.{eqb-true, eq-eqb, and_parts, and_from}
use Rattle.std.proofs.lemmas.Slice.Eq.{bytes_eq-Decides}
use Rattle.std.specs.Ordering.{is_eq}
use Rattle.std.specs.Cmp.{Equal-is}
use Rattle.std.specs.Cmp.Lexicographic.{pointwise}
use Rattle.std.specs.declared.cmp.Ordering.{Ordering}
use Rattle.std.specs.declared.cmp.Ordering.TheVariants.{Less, Equal, Greater}
use Rattle.aql_value.specs.Datum.{Datum}
use Rattle.aql_value.specs.Order.{Compares}
use Rattle.aql_value.specs.Compare.{compare}
use Rattle.aql_value.specs.Contents.{same}
use Rattle.aql_value.specs.laws.Ranks.{datum_ranks}
use Rattle.aql_value.specs.laws.Strict.{not_itself}
use Rattle.aql_value.specs.laws.Keyed.{same_from_equal}
use Rattle.aql_value.specs.declared.operators.BinOp.{BinOp}
use Rattle.aql_value.specs.declared.operators.BinOp.TheVariants.{And, Or, Eq, Ne, Lt, Le, Gt, Ge, IsIn, NotIn}
use Rattle.aql_value.specs.declared.operators.BinOp.TheVariants.{Like, NotLike, Add, Sub, Mul, Div, Rem}
use Rattle.aql_value.specs.declared.operators.UnaryOp.{UnaryOp}
use Rattle.aql_value.specs.declared.operators.UnaryOp.TheVariants.{Plus, Minus, Not}
use Rattle.aql_tree.specs.declared.syntax.QuantKind.{QuantKind}
use Rattle.aql_tree.specs.declared.syntax.QuantKind.TheVariants.{All, Any, None}
use Rattle.aql_tree.specs.declared.syntax.Ident.{Ident}
use Rattle.aql_tree.specs.declared.syntax.Ident.TheVariants.{Name, Num}
use Rattle.aql_tree.specs.Tree.{ExprTree, literal, variable, current, array_literal, object_literal, access}
use Rattle.aql_tree.specs.Tree.{function_call, unary_of, chain, array_comparison, ternary, range_of, subquery}
use Rattle.aql_tree.specs.Tree.{ExprTrees, no_exprs, expr_then, MaybeExpr, no_expr, one_expr}
use Rattle.aql_tree.specs.Tree.{MemberTrees, no_members, named_then, computed_then}
use Rattle.aql_tree.specs.Tree.{StepTrees, no_steps, name_then, at_then, inline_then}
use Rattle.aql_tree.specs.Tree.{LinkTrees, no_links, link_then}
use Rattle.aql_tree.specs.View.{trees, members, steps, links, maybe, MemberPart, named, computed}
use Rattle.aql_tree.specs.View.{StepPart, name, at, inline, LinkPart}
use Rattle.aql_meaning.specs.Row.{same_ident}
use Rattle.aql_meaning.specs.Plain.{IsPlain, AllPlain, MaybePlain, MembersPlain, StepsPlain, LinksPlain}
use Rattle.aql_meaning.specs.laws.Idents.{same_is, same_self}
use Rattle.aql_rewrite.specs.inner.Same.{op_number, sign_number, kind_number, same_expr, same_list, same_maybe}
use Rattle.aql_rewrite.specs.inner.Same.{same_members, same_steps, same_links, same_member, same_step, same_link}

-- ---- literals, variables, names and operators

equal_values : (v w : Datum) → same v w ≡ true → v ≡ w
equal_values v w h = same_from_equal v w ((Equal-is (compare v w)).0 h)

itself : (o : Ordering) (v : Datum) → Compares o v v → is_eq o ≡ true
itself Less v h = absurd (not_itself v h)
itself Equal v h = refl
itself Greater v h = absurd (not_itself v h)

value_itself : (v : Datum) → same v v ≡ true
value_itself v = itself (compare v v) v (datum_ranks v v)

name_itself : (n : List ℕ) → bytes_eq n n ≡ true
name_itself n = (bytes_eq-Decides n n).1 refl

equal_names : (n m : List ℕ) → bytes_eq n m ≡ true → n ≡ m
equal_names n m h = (bytes_eq-Decides n m).0 h

-- the operator of a number
abbrev op_of : ℕ → BinOp
op_of n = cond (n == 0) And (cond (n == 1) Or (cond (n == 2) Eq (cond (n == 3) Ne (cond (n == 4) Lt
    (cond (n == 5) Le (cond (n == 6) Gt (cond (n == 7) Ge (cond (n == 8) IsIn (cond (n == 9) NotIn
    (cond (n == 10) Like (cond (n == 11) NotLike (cond (n == 12) Add (cond (n == 13) Sub
    (cond (n == 14) Mul (cond (n == 15) Div Rem)))))))))))))))

op_back : (op : BinOp) → op_of (op_number op) ≡ op
op_back And = refl
op_back Or = refl
op_back Eq = refl
op_back Ne = refl
op_back Lt = refl
op_back Le = refl
op_back Gt = refl
op_back Ge = refl
op_back IsIn = refl
op_back NotIn = refl
op_back Like = refl
op_back NotLike = refl
op_back Add = refl
op_back Sub = refl
op_back Mul = refl
op_back Div = refl
op_back Rem = refl

equal_ops : (a b : BinOp) → (op_number a == op_number b) ≡ true → a ≡ b
equal_ops a b h = sym (op_back a) ∙ ap op_of (eqb-true (op_number a) (op_number b) h) ∙ op_back b

op_itself : (a : BinOp) → (op_number a == op_number a) ≡ true
op_itself a = eq-eqb (op_number a) (op_number a) refl

equal_signs : (a b : UnaryOp) → (sign_number a == sign_number b) ≡ true → a ≡ b
equal_signs Plus Plus h = refl
equal_signs Minus Minus h = refl
equal_signs Not Not h = refl
equal_signs a b h = absurd (true≢false (sym h))

equal_kinds : (a b : QuantKind) → (kind_number a == kind_number b) ≡ true → a ≡ b
equal_kinds All All h = refl
equal_kinds Any Any h = refl
equal_kinds None None h = refl
equal_kinds a b h = absurd (true≢false (sym h))

-- ---- equal where the answer is yes

mutual
  pub same_true : (e d : ExprTree) → same_expr e d ≡ true → IsPlain e × (e ≡ d)
  same_true (literal v) (literal w) h = (tt, ap literal (equal_values v w h))
  same_true (variable x) (variable y) h = (tt, ap variable (same_is x y h))
  same_true current current h = (tt, refl)
  same_true (array_literal es) (array_literal ds) h =
      let k = list_true es ds h in (k.0, ap array_literal k.1)
  same_true (object_literal ms) (object_literal ns) h =
      let k = members_true ms ns h in (k.0, ap object_literal k.1)
  same_true (access e ss) (access d rs) h =
      let b = and_parts (same_expr e d) (same_steps ss rs) h in
      let k = same_true e d b.0 in
      let l = steps_true ss rs b.1 in
      ((k.0, l.0), ap₂ access k.1 l.1)
  same_true (function_call n es) (function_call m ds) h =
      let b = and_parts (bytes_eq n m) (same_list es ds) h in
      let l = list_true es ds b.1 in
      (l.0, ap₂ function_call (equal_names n m b.0) l.1)
  same_true (unary_of op e) (unary_of o d) h =
      let b = and_parts (sign_number op == sign_number o) (same_expr e d) h in
      let k = same_true e d b.1 in
      (k.0, ap₂ unary_of (equal_signs op o b.0) k.1)
  same_true (chain e ls) (chain d ks) h =
      let b = and_parts (same_expr e d) (same_links ls ks) h in
      let k = same_true e d b.0 in
      let l = links_true ls ks b.1 in
      ((k.0, l.0), ap₂ chain k.1 l.1)
  same_true (array_comparison a k op b) (array_comparison c l o d) h =
      let x = and_parts (kind_number k == kind_number l)
      ((op_number op == op_number o) && (same_expr a c && same_expr b d)) h in
      let y = and_parts (op_number op == op_number o) (same_expr a c && same_expr b d) x.1 in
      let z = and_parts (same_expr a c) (same_expr b d) y.1 in
      let p = same_true a c z.0 in
      let q = same_true b d z.1 in (
        (p.0, q.0),
        ap₂ (λ s t. array_comparison s k op t) p.1 q.1
            ∙ ap₂ (λ s t. array_comparison c s t d) (equal_kinds k l x.0) (equal_ops op o y.0),
      )
  same_true (ternary t m o) (ternary s n p) h =
      let x = and_parts (same_expr t s) (same_maybe m n && same_expr o p) h in
      let y = and_parts (same_maybe m n) (same_expr o p) x.1 in
      let a = same_true t s x.0 in
      let b = maybe_true m n y.0 in
      let c = same_true o p y.1 in
      ((a.0, b.0, c.0), ap₂ (λ u v. ternary u v o) a.1 b.1 ∙ ap (ternary s n) c.1)
  same_true (range_of a b) (range_of c d) h =
      let x = and_parts (same_expr a c) (same_expr b d) h in
      let p = same_true a c x.0 in
      let q = same_true b d x.1 in
      ((p.0, q.0), ap₂ range_of p.1 q.1)
  same_true e d h = absurd (true≢false (sym h))

  list_true : (es ds : ExprTrees) → same_list es ds ≡ true → AllPlain es × (es ≡ ds)
  list_true no_exprs no_exprs h = (tt, refl)
  list_true (expr_then e es) (expr_then d ds) h =
      let b = and_parts (same_expr e d) (same_list es ds) h in
      let k = same_true e d b.0 in
      let l = list_true es ds b.1 in
      ((k.0, l.0), ap₂ expr_then k.1 l.1)
  list_true es ds h = absurd (true≢false (sym h))

  maybe_true : (m n : MaybeExpr) → same_maybe m n ≡ true → MaybePlain m × (m ≡ n)
  maybe_true no_expr no_expr h = (tt, refl)
  maybe_true (one_expr e) (one_expr d) h = let k = same_true e d h in (k.0, ap one_expr k.1)
  maybe_true m n h = absurd (true≢false (sym h))

  members_true : (ms ns : MemberTrees) → same_members ms ns ≡ true → MembersPlain ms × (ms ≡ ns)
  members_true no_members no_members h = (tt, refl)
  members_true (named_then n e ms) (named_then m d ns) h =
      let x = and_parts (bytes_eq n m && same_expr e d) (same_members ms ns) h in
      let y = and_parts (bytes_eq n m) (same_expr e d) x.0 in
      let k = same_true e d y.1 in
      let l = members_true ms ns x.1 in
      ((k.0, l.0), ap₂ (λ a b. named_then a b ms) (equal_names n m y.0) k.1 ∙ ap (named_then m d) l.1)
  members_true (computed_then n e ms) (computed_then m d ns) h =
      let x = and_parts (same_expr n m && same_expr e d) (same_members ms ns) h in
      let y = and_parts (same_expr n m) (same_expr e d) x.0 in
      let j = same_true n m y.0 in
      let k = same_true e d y.1 in
      let l = members_true ms ns x.1 in
      ((j.0, k.0, l.0), ap₂ (λ a b. computed_then a b ms) j.1 k.1 ∙ ap (computed_then m d) l.1)
  members_true ms ns h = absurd (true≢false (sym h))

  steps_true : (ss rs : StepTrees) → same_steps ss rs ≡ true → StepsPlain ss × (ss ≡ rs)
  steps_true no_steps no_steps h = (tt, refl)
  steps_true (name_then n ss) (name_then m rs) h =
      let x = and_parts (bytes_eq n m) (same_steps ss rs) h in
      let l = steps_true ss rs x.1 in
      (l.0, ap₂ name_then (equal_names n m x.0) l.1)
  steps_true (at_then e ss) (at_then d rs) h =
      let x = and_parts (same_expr e d) (same_steps ss rs) h in
      let k = same_true e d x.0 in
      let l = steps_true ss rs x.1 in
      ((k.0, l.0), ap₂ at_then k.1 l.1)
  steps_true (inline_then f p ss) (inline_then g q rs) h =
      let x = and_parts (same_maybe f g && same_maybe p q) (same_steps ss rs) h in
      let y = and_parts (same_maybe f g) (same_maybe p q) x.0 in
      let j = maybe_true f g y.0 in
      let k = maybe_true p q y.1 in
      let l = steps_true ss rs x.1 in
      ((j.0, k.0, l.0), ap₂ (λ a b. inline_then a b ss) j.1 k.1 ∙ ap (inline_then g q) l.1)
  steps_true ss rs h = absurd (true≢false (sym h))

  links_true : (ls ks : LinkTrees) → same_links ls ks ≡ true → LinksPlain ls × (ls ≡ ks)
  links_true no_links no_links h = (tt, refl)
  links_true (link_then op e ls) (link_then o d ks) h =
      let x = and_parts ((op_number op == op_number o) && same_expr e d) (same_links ls ks) h in
      let y = and_parts (op_number op == op_number o) (same_expr e d) x.0 in
      let k = same_true e d y.1 in
      let l = links_true ls ks x.1 in
      ((k.0, l.0), ap₂ (λ a b. link_then a b ls) (equal_ops op o y.0) k.1 ∙ ap (link_then o d) l.1)
  links_true ls ks h = absurd (true≢false (sym h))

-- ---- yes where they are equal

both : (a b : Bool) → a ≡ true → b ≡ true → (a && b) ≡ true
both = and_from

mutual
  pub same_itself : (e : ExprTree) → IsPlain e → same_expr e e ≡ true
  same_itself (literal v) h = value_itself v
  same_itself (variable x) h = same_self x
  same_itself current h = refl
  same_itself (array_literal es) h = list_itself es h
  same_itself (object_literal ms) h = members_itself ms h
  same_itself (access e ss) h = both _ _ (same_itself e h.0) (steps_itself ss h.1)
  same_itself (function_call n es) h = both _ _ (name_itself n) (list_itself es h)
  same_itself (unary_of op e) h = both _ _ (eq-eqb (sign_number op) (sign_number op) refl) (same_itself e h)
  same_itself (chain e ls) h = both _ _ (same_itself e h.0) (links_itself ls h.1)
  same_itself (array_comparison a k op b) h = both _ _ (eq-eqb (kind_number k) (kind_number k) refl)
      (both _ _ (op_itself op) (both _ _ (same_itself a h.0) (same_itself b h.1)))
  same_itself (ternary t m o) h =
      both _ _ (same_itself t h.0) (both _ _ (maybe_itself m h.1) (same_itself o h.2))
  same_itself (range_of a b) h = both _ _ (same_itself a h.0) (same_itself b h.1)
  same_itself (subquery q) h = absurd h

  list_itself : (es : ExprTrees) → AllPlain es → same_list es es ≡ true
  list_itself no_exprs h = refl
  list_itself (expr_then e es) h = both _ _ (same_itself e h.0) (list_itself es h.1)

  maybe_itself : (m : MaybeExpr) → MaybePlain m → same_maybe m m ≡ true
  maybe_itself no_expr h = refl
  maybe_itself (one_expr e) h = same_itself e h

  members_itself : (ms : MemberTrees) → MembersPlain ms → same_members ms ms ≡ true
  members_itself no_members h = refl
  members_itself (named_then n e ms) h =
      both _ _ (both _ _ (name_itself n) (same_itself e h.0)) (members_itself ms h.1)
  members_itself (computed_then n e ms) h =
      both _ _ (both _ _ (same_itself n h.0) (same_itself e h.1)) (members_itself ms h.2)

  steps_itself : (ss : StepTrees) → StepsPlain ss → same_steps ss ss ≡ true
  steps_itself no_steps h = refl
  steps_itself (name_then n ss) h = both _ _ (name_itself n) (steps_itself ss h)
  steps_itself (at_then e ss) h = both _ _ (same_itself e h.0) (steps_itself ss h.1)
  steps_itself (inline_then f p ss) h =
      both _ _ (both _ _ (maybe_itself f h.0) (maybe_itself p h.1)) (steps_itself ss h.2)

  links_itself : (ls : LinkTrees) → LinksPlain ls → same_links ls ls ≡ true
  links_itself no_links h = refl
  links_itself (link_then op e ls) h =
      both _ _ (both _ _ (op_itself op) (same_itself e h.0)) (links_itself ls h.1)

-- ---- lists, as the program holds them

pub list_pairs : (es ds : List ExprTree) → same_list (trees es) (trees ds) ≡ pointwise same_expr es ds
list_pairs [] [] = refl
list_pairs [] (d ∷ ds) = refl
list_pairs (e ∷ es) [] = refl
list_pairs (e ∷ es) (d ∷ ds) = ap (λ b. same_expr e d && b) (list_pairs es ds)

pub member_pairs : (ms ns : List MemberPart)
    → same_members (members ms) (members ns) ≡ pointwise same_member ms ns
member_pairs [] [] = refl
member_pairs [] (named m d ∷ ns) = refl
member_pairs [] (computed m d ∷ ns) = refl
member_pairs (named n e ∷ ms) [] = refl
member_pairs (computed n e ∷ ms) [] = refl
member_pairs (named n e ∷ ms) (named m d ∷ ns) =
    ap (λ b. (bytes_eq n m && same_expr e d) && b) (member_pairs ms ns)
member_pairs (computed n e ∷ ms) (computed m d ∷ ns) =
    ap (λ b. (same_expr n m && same_expr e d) && b) (member_pairs ms ns)
member_pairs (named n e ∷ ms) (computed m d ∷ ns) = refl
member_pairs (computed n e ∷ ms) (named m d ∷ ns) = refl

pub step_pairs : (ss rs : List StepPart) → same_steps (steps ss) (steps rs) ≡ pointwise same_step ss rs
step_pairs [] [] = refl
step_pairs [] (name m ∷ rs) = refl
step_pairs [] (at d ∷ rs) = refl
step_pairs [] (inline g q ∷ rs) = refl
step_pairs (name n ∷ ss) [] = refl
step_pairs (at e ∷ ss) [] = refl
step_pairs (inline f p ∷ ss) [] = refl
step_pairs (name n ∷ ss) (name m ∷ rs) = ap (λ b. bytes_eq n m && b) (step_pairs ss rs)
step_pairs (at e ∷ ss) (at d ∷ rs) = ap (λ b. same_expr e d && b) (step_pairs ss rs)
step_pairs (inline f p ∷ ss) (inline g q ∷ rs) =
    ap (λ b. (same_maybe (maybe f) (maybe g) && same_maybe (maybe p) (maybe q)) && b) (step_pairs ss rs)
step_pairs (name n ∷ ss) (at d ∷ rs) = refl
step_pairs (name n ∷ ss) (inline g q ∷ rs) = refl
step_pairs (at e ∷ ss) (name m ∷ rs) = refl
step_pairs (at e ∷ ss) (inline g q ∷ rs) = refl
step_pairs (inline f p ∷ ss) (name m ∷ rs) = refl
step_pairs (inline f p ∷ ss) (at d ∷ rs) = refl

pub link_pairs : (ls ks : List LinkPart) → same_links (links ls) (links ks) ≡ pointwise same_link ls ks
link_pairs [] [] = refl
link_pairs [] (k ∷ ks) = refl
link_pairs (l ∷ ls) [] = refl
link_pairs (l ∷ ls) (k ∷ ks) =
    ap (λ b. ((op_number l.0 == op_number k.0) && same_expr l.1 k.1) && b) (link_pairs ls ks)

-- ---- so the answer decides whether they are equal and hold no subquery

pub same_decides : (e d : ExprTree) (answer : Bool) → answer ≡ same_expr e d
    → (IsTrue answer ↔ (IsPlain e × (e ≡ d)))
same_decides e d answer h = (
  (λ a. same_true e d (sym h ∙ a)),
  (λ k. h ∙ ap (λ (x : ExprTree). same_expr e x) (sym k.1) ∙ same_itself e k.0),
)
