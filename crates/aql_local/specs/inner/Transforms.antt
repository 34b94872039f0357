-- What is said of one of the transforms is said of the one that it is; for private clauses.
use Rattle.aql_exec.specs.declared.filter.Keep.{Keep}
use Rattle.aql_exec.specs.declared.distinct.FirstResults.{FirstResults}
use Rattle.aql_exec_scan.specs.declared.enumerate_list.Elements.{Elements}
use Rattle.aql_exec_scan.specs.declared.enumerate_collection.Documents.{Documents}
use Rattle.aql_exec_scan.specs.declared.index.Found.{Found}
use Rattle.aql_exec_graph.specs.declared.traversal.Paths.{Paths}
use Rattle.aql_exec_rows.specs.declared.sort.Order.{Order}
use Rattle.aql_exec_rows.specs.declared.collect.GroupRows.{GroupRows}
use Rattle.aql_local.specs.declared.transforms.NodeTransform.{NodeTransform}
use Rattle.aql_local.specs.declared.transforms.NodeTransform.TheVariants.{Filter, Distinct, List, Collection, Index, Traversal, Sort, Collect}

-- a value of any
abbrev pub on : {R : Type 0} → (Keep → R) → (FirstResults → R) → (Elements → R) → (Documents → R)
    → (Found → R) → (Paths → R) → (Order → R) → (GroupRows → R) → NodeTransform → R
on a b c d e f g h (Filter t) = a t
on a b c d e f g h (Distinct t) = b t
on a b c d e f g h (List t) = c t
on a b c d e f g h (Collection t) = d t
on a b c d e f g h (Index t) = e t
on a b c d e f g h (Traversal t) = f t
on a b c d e f g h (Sort t) = g t
on a b c d e f g h (Collect t) = h t

-- a fact of any
abbrev pub On : (Keep → Type 0) → (FirstResults → Type 0) → (Elements → Type 0) → (Documents → Type 0)
    → (Found → Type 0) → (Paths → Type 0) → (Order → Type 0) → (GroupRows → Type 0) → NodeTransform → Type 0
On a b c d e f g h (Filter t) = a t
On a b c d e f g h (Distinct t) = b t
On a b c d e f g h (List t) = c t
On a b c d e f g h (Collection t) = d t
On a b c d e f g h (Index t) = e t
On a b c d e f g h (Traversal t) = f t
On a b c d e f g h (Sort t) = g t
On a b c d e f g h (Collect t) = h t

-- what holds of each kind of them holds of all
pub each : (P : NodeTransform → Type 0) → ((t : Keep) → P (Filter t)) → ((t : FirstResults) → P (Distinct t))
    → ((t : Elements) → P (List t)) → ((t : Documents) → P (Collection t)) → ((t : Found) → P (Index t))
    → ((t : Paths) → P (Traversal t)) → ((t : Order) → P (Sort t)) → ((t : GroupRows) → P (Collect t))
    → (t : NodeTransform) → P t
each P a b c d e f g h (Filter t) = a t
each P a b c d e f g h (Distinct t) = b t
each P a b c d e f g h (List t) = c t
each P a b c d e f g h (Collection t) = d t
each P a b c d e f g h (Index t) = e t
each P a b c d e f g h (Traversal t) = f t
each P a b c d e f g h (Sort t) = g t
each P a b c d e f g h (Collect t) = h t
