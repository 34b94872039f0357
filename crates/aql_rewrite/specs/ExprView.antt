-- What the program's lists of children stand for, and the lists of an expression over other children, as the
-- program holds them.
use Rattle.std.specs.Prelude.{List, [], ◌∷◌, ◌++◌, Option, Some, None}
use Rattle.std.specs.Borrow.{Bor}
use Rattle.aql_tree.specs.declared.syntax.Expr.{Expr}
use Rattle.aql_tree.specs.Tree.{ExprTree}
use Rattle.aql_tree.specs.View.{tree, maybe, MemberPart, named, computed, StepPart, name, at, inline}
use Rattle.aql_tree.specs.View.{LinkPart}
use Rattle.aql_rewrite.specs.Children.{maybe_children}
use Rattle.aql_rewrite.specs.OverChildren.{first_or, after_first}

-- an expression that is lent
abbrev pub lent : Bor Expr → ExprTree
lent e = tree e.now

-- ---- the children of one member and of one step

abbrev pub one_member_children : MemberPart → List ExprTree
one_member_children (named n e) = e ∷ []
one_member_children (computed n e) = n ∷ e ∷ []

abbrev pub one_step_children : StepPart → List ExprTree
one_step_children (name n) = []
one_step_children (at e) = e ∷ []
one_step_children (inline f g) = maybe_children (maybe f) ++ maybe_children (maybe g)

-- ---- over other children: what stands there, and which new children are left after it

abbrev pub each_over : List ExprTree → List ExprTree → List ExprTree
each_over [] ps = []
each_over (e ∷ es) ps = first_or e ps ∷ each_over es (after_first ps)

abbrev pub option_over : Option ExprTree → List ExprTree → Option ExprTree
option_over None ps = None
option_over (Some e) ps = Some (first_or e ps)

abbrev pub after_option : Option ExprTree → List ExprTree → List ExprTree
after_option None ps = ps
after_option (Some e) ps = after_first ps

abbrev pub member_over : MemberPart → List ExprTree → MemberPart
member_over (named n e) ps = named n (first_or e ps)
member_over (computed n e) ps = computed (first_or n ps) (first_or e (after_first ps))

abbrev pub after_member : MemberPart → List ExprTree → List ExprTree
after_member (named n e) ps = after_first ps
after_member (computed n e) ps = after_first (after_first ps)

abbrev pub members_over : List MemberPart → List ExprTree → List MemberPart
members_over [] ps = []
members_over (m ∷ ms) ps = member_over m ps ∷ members_over ms (after_member m ps)

abbrev pub step_over : StepPart → List ExprTree → StepPart
step_over (name n) ps = name n
step_over (at e) ps = at (first_or e ps)
step_over (inline f g) ps = inline (option_over f ps) (option_over g (after_option f ps))

abbrev pub after_step : StepPart → List ExprTree → List ExprTree
after_step (name n) ps = ps
after_step (at e) ps = after_first ps
after_step (inline f g) ps = after_option g (after_option f ps)

abbrev pub steps_over : List StepPart → List ExprTree → List StepPart
steps_over [] ps = []
steps_over (s ∷ ss) ps = step_over s ps ∷ steps_over ss (after_step s ps)

abbrev pub links_over : List LinkPart → List ExprTree → List LinkPart
links_over [] ps = []
links_over (l ∷ ls) ps = (l.0, first_or l.1 ps) ∷ links_over ls (after_first ps)
