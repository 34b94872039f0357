-- A plan whose top node is an Index that keeps all attributes, as the rules read it.
use Rattle.std.proofs.Common.{◌≡◌, ℕ, List, Bool, Option, Some, None, refl, ap, subst}
use Rattle.aql_tree.specs.Tree.{ExprTree, ExprTrees}
use Rattle.aql_meaning.specs.Documents.{Last}
use Rattle.aql_plan.specs.Plan.{Reading, Plan, Singleton, Over, Node, Index, top}
use Rattle.aql_rules_index.specs.inner.Readers.{IndexRead, where_whole, whole_index}
use Rattle.aql_rules_index.specs.laws.Items.{some_same}

pub whole_is : (x : Reading) (index : ℕ) (equal : ExprTrees) (last : Last ExprTree) (ordered : Option Bool)
    → x.attrs ≡ None → whole_index (Index x index equal last ordered) ≡ Some (record {
      var = x.var;
      coll = x.coll;
      index = index;
      equal = equal;
      last = last;
      ordered = ordered;
    })
whole_is x index equal last ordered a = ap (λ (names : Option (List (List ℕ))). where_whole names (record {
  var = x.var;
  coll = x.coll;
  index = index;
  equal = equal;
  last = last;
  ordered = ordered;
})) a

-- a plan whose top node is read so
pub record IsRead (b : Plan) (r : IndexRead) : Type 0 where
  pub input : Plan
  pub reading : Reading
  pub whole : reading.attrs ≡ None
  pub var : reading.var ≡ r.var
  pub coll : reading.coll ≡ r.coll
  pub is : b ≡ Over input (Index reading r.index r.equal r.last r.ordered)

pub read_plan : (b : Plan) (r : IndexRead) → whole_index (top b) ≡ Some r → IsRead b r
read_plan Singleton r h = absurd (cc)
read_plan (Over d n) r h = by n h
  where
    by_attrs : (x : Reading) (index : ℕ) (equal : ExprTrees) (last : Last ExprTree) (ordered : Option Bool)
        (names : Option (List (List ℕ))) → x.attrs ≡ names → where_whole names (record {
          var = x.var;
          coll = x.coll;
          index = index;
          equal = equal;
          last = last;
          ordered = ordered;
        }) ≡ Some r → IsRead (Over d (Index x index equal last ordered)) r
    by_attrs x index equal last ordered None a h =
        subst (λ (s : IndexRead). IsRead (Over d (Index x index equal last ordered)) s) (some_same _ r h) (record {
          input = d;
          reading = x;
          whole = a;
          var = refl;
          coll = refl;
          is = refl;
        })
    by_attrs x index equal last ordered (Some names) a h = absurd (cc)

    by : (n : Node) → whole_index n ≡ Some r → IsRead (Over d n) r
    by (Index x index equal last ordered) h = by_attrs x index equal last ordered x.attrs refl h
    by n h = absurd (cc)
