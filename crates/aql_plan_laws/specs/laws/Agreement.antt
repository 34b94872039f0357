-- A plan gives alike lists from rows that agree in what it needs, and so does each node.
use Rattle.std.proofs.Common.{◌≡◌, ◌∙◌, ℕ, List, [], ◌∷◌, ◌++◌, Bool, true, false, cond, refl, sym, subst}
use Rattle.std.specs.Prelude.{Option, Some, unwrap_or, option_to_list}
use Rattle.std.specs.List.{AllZip, AllByRecursion}
use Rattle.aql_value.specs.Datum.{Datum, null}
use Rattle.aql_value.specs.Contents.{at_name}
use Rattle.aql_tree.specs.declared.syntax.Ident.{Ident}
use Rattle.aql_meaning.specs.Row.{Row, empty_row, bind, same_ident}
use Rattle.aql_meaning.specs.Visible.{aggregate_vars, into_var}
use Rattle.aql_meaning.specs.Uses.{Use, Whole, Attribute, Uses, AgreeAt, Agree}
use Rattle.aql_meaning.specs.laws.Agrees.{agree_split, value_same}
use Rattle.aql_plan.specs.Plan.{Plan, Singleton, Over, Node, EnumerateCollection, Index, EnumerateList, Traversal, Calculation, Subquery, Collect}
use Rattle.aql_plan.specs.Runs.{Dataset, Site, read, Runs, Feeds, Gives}
use Rattle.aql_plan.specs.Renaming.{PlanSets, NodeSets}
use Rattle.aql_plan.specs.Needs.{under, needs}
use Rattle.aql_plan_laws.specs.laws.Lists.{related_self}
use Rattle.aql_plan_laws.specs.laws.Mapped.{plan_same, node_same}
use Rattle.aql_plan_laws.specs.laws.Carried.{Carries}
use Rattle.aql_plan_laws.specs.laws.RunsAlike.{foot_uses, SamePlace, StartsAlike, runs_alike, feeds_alike, gives_alike}

pub agree_join : (us vs : Uses) (r s : Row) → Agree us r s → Agree vs r s → Agree (us ++ vs) r s
agree_join [] vs r s h k = k
agree_join (u ∷ us) vs r s h k = (h.0, agree_join us vs r s h.1 k)

pub agree_self : (us : Uses) (r : Row) → Agree us r r
agree_self [] r = tt
agree_self (Whole x ∷ us) r = (refl, agree_self us r)
agree_self (Attribute x name ∷ us) r = (refl, agree_self us r)

agree_at_bind : (u : Use) (x : Ident) (r s : Row) (v : Datum) → AgreeAt u r s
    → AgreeAt u (bind x r v) (bind x s v)
agree_at_bind (Whole y) x r s v h = by (same_ident x y)
  where
    by : (b : Bool) → unwrap_or (cond b (Some v) (r y)) null ≡ unwrap_or (cond b (Some v) (s y)) null
    by true = refl
    by false = h
agree_at_bind (Attribute y name) x r s v h = by (same_ident x y)
  where
    by : (b : Bool)
        → at_name (unwrap_or (cond b (Some v) (r y)) null) name
        ≡ at_name (unwrap_or (cond b (Some v) (s y)) null) name
    by true = refl
    by false = h

pub agree_bind : (us : Uses) (x : Ident) (r s : Row) (v : Datum) → Agree us r s
    → Agree us (bind x r v) (bind x s v)
agree_bind [] x r s v h = tt
agree_bind (u ∷ us) x r s v h = (agree_at_bind u x r s v h.0, agree_bind us x r s v h.1)

agree_at_through : (u : Use) (q r s : Row) → AgreeAt u q r → AgreeAt u r s → AgreeAt u q s
agree_at_through (Whole x) q r s h k = h ∙ k
agree_at_through (Attribute x name) q r s h k = h ∙ k

pub agree_through : (us : Uses) (q r s : Row) → Agree us q r → Agree us r s → Agree us q s
agree_through [] q r s h k = tt
agree_through (u ∷ us) q r s h k = (agree_at_through u q r s h.0 k.0, agree_through us q r s h.1 k.1)

pub rows_agree : (us : Uses) (rows : List Row) → AllZip (Agree us) rows rows
rows_agree us rows = related_self (Agree us) (agree_self us) rows

-- every variable may be set
abbrev pub Any : Ident → Type 0
Any x = Unit {0}

pub agreement : Carries (λ e. e) Any Agree
agreement = record {
  parts = agree_split;
  join = agree_join;
  binds = λ us x r s v free h. agree_bind us x r s v h;
  gives = λ e r s h. value_same e null r s h;
  whole = λ x r s free h. h.0;
  empty = λ us. agree_self us empty_row;
}

pub all_any : (xs : List Ident) → AllByRecursion Any xs
all_any [] = tt
all_any (x ∷ xs) = (tt, all_any xs)

mutual
  plan_clear : (p : Plan) → PlanSets Any p
  plan_clear Singleton = tt
  plan_clear (Over b n) = (plan_clear b, node_clear n)

  node_clear : (n : Node) → NodeSets Any n
  node_clear (EnumerateCollection x) = tt
  node_clear (Index x index equal last ordered) = tt
  node_clear (EnumerateList x e) = tt
  node_clear (Traversal w e colls prune keep) =
      (tt, all_any (option_to_list w.edge), all_any (option_to_list w.path))
  node_clear (Calculation x e) = tt
  node_clear (Subquery x b) = (tt, plan_clear b)
  node_clear (Collect xs es gs i s) =
      (all_any xs, all_any (aggregate_vars gs), all_any (option_to_list (into_var i)))
  node_clear n = tt

-- the same place, with rows that agree
abbrev pub AgreePlace : Uses → Site → Site → Type 0
AgreePlace = SamePlace (λ e. e) Any Agree agreement tt

pub runs_agree : (p : Plan) (us : Uses) (w : Dataset) (k l : Site) (r s : Row) (out : List Row)
    → AgreePlace (foot_uses p us) k l → Agree (needs p us) r s → Runs p w k r out
    → (more : List Row) × Runs p w l s more × AllZip (Agree us) out more
runs_agree p us w k l r s out place h g =
    runs_alike (λ e. e) Any Agree agreement tt p (plan_clear p) us w k l r s out place h
    (subst (λ (q : Plan). Runs q w k r out) (sym (plan_same p)) g)

pub feeds_agree : (p : Plan) (us : Uses) (w : Dataset) (r s : Row) (taken : List Row)
    → Agree (needs p us) r s → Feeds p w r taken
    → (more : List Row) × Feeds p w s more × AllZip (Agree (foot_uses p us)) taken more
feeds_agree p us w r s taken h g =
    feeds_alike (λ e. e) Any Agree agreement tt p (plan_clear p) us w r s taken h
    (subst (λ (q : Plan). Feeds q w r taken) (sym (plan_same p)) g)

-- a node gives alike lists for alike inputs at one place, from one start row
pub gives_agree : (n : Node) (us : Uses) (w : Dataset) (k l : Site) (start : Row)
    → ((coll : ℕ) (shard : Option ℕ) → read w coll shard k ≡ read w coll shard l)
    → (rows others out : List Row) → AllZip (Agree (under n us)) rows others → Gives n w k start rows out
    → (more : List Row) × Gives n w l start others more × AllZip (Agree us) out more
gives_agree n us w k l start reads rows others out h g =
    gives_alike (λ e. e) Any Agree agreement tt n (node_clear n) us w k l start start
    (starts n) reads rows others out h
    (subst (λ (m : Node). Gives m w k start rows out) (sym (node_same n)) g)
  where
    starts : (n : Node) → StartsAlike (λ e. e) Any Agree agreement tt us n start start
    starts (Collect xs es gs i s) = agree_self us start
    starts n = tt
