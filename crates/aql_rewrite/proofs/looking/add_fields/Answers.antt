use Rattle.std.proofs.Common.{◌≡◌, ◌++◌, ◌∷◌, List, map, refl}
use Rattle.aql_tree.specs.Tree.{ExprTree}
use Rattle.aql_tree.specs.View.{member_part, MemberPart, named, computed, members}
use Rattle.aql_tree.specs.declared.syntax.Field.{Field}
use Rattle.aql_rewrite.specs.Children.{member_children}
use Rattle.aql_rewrite.specs.ExprView.{lent, one_member_children}
use Rattle.aql_rewrite.proofs.Passed.{one_passed, all_passed}
use Rattle.aql_rewrite.proofs.looking.add_fields.Goals as goal

abbrev rest : List Field → List ExprTree
rest = λ fs. member_children (members (map member_part fs))

member_then : (m : MemberPart) (ms : List MemberPart)
    → member_children (members (m ∷ ms)) ≡ one_member_children m ++ member_children (members ms)
member_then (named n e) ms = refl
member_then (computed n e) ms = refl

pub loop-field-preserved : goal.loop-field-preserved
loop-field-preserved c =
    one_passed rest c.args.fields.now c.loop-field.field-index c.field-item.result
    (map lent c.loop-field.to.items) _ _ _ c.loop-field-test.true c.field-item.is
    (member_then (member_part c.field-item.result) _) c.in_ok-add_field.ensures c.loop-field.invariant

pub returns : goal.returns
returns c =
    all_passed rest c.args.fields.now c.loop-field.field-index _ _ c.loop-field-test.false refl
    c.loop-field.invariant
