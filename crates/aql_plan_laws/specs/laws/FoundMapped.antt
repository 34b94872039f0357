-- A node finds what it uses in the rows of its input where their variables, as far as they are used, are
-- there under their names by g, and its expressions use them by these names. The bodies of subqueries go
-- along, and what a plan sets has the name that it had.
use Rattle.std.proofs.Common.{◌≡◌, List, [], ◌∷◌, ◌++◌, Bool, true, false, true≢false, refl, ap, sym, subst}
use Rattle.std.proofs.Common.{⊎_elim}
use Rattle.std.specs.Prelude.{◌||◌}
use Rattle.std.specs.List.{list_any, AllByRecursion}
use Rattle.std.proofs.lemmas.Bool.{and_parts, and_from}
use Rattle.aql_tree.specs.declared.syntax.Ident.{Ident}
use Rattle.aql_tree.specs.declared.syntax.Ident.TheVariants.{Num}
use Rattle.aql_tree.specs.Tree.{ExprTree}
use Rattle.aql_meaning.specs.Row.{same_ident}
use Rattle.aql_meaning.specs.Uses.{Use, Whole, Attribute, Uses, used_variable, uses, all_uses, maybe_uses}
use Rattle.aql_plan.specs.Plan.{Plan, Singleton, Over, Node, EnumerateCollection, Index, Traversal, Subquery, Collect, Return}
use Rattle.aql_plan.specs.Needs.{sets, last_uses, own_uses, result_uses, under, needs}
use Rattle.aql_plan.specs.Variables.{filter_uses, input_uses, vars_of, are_among, FindsAll, FindsInside}
use Rattle.aql_plan.specs.Renaming.{PlanSets, NodeSets}
use Rattle.aql_plan.specs.Exprs.{map_plan, map_node}
use Rattle.aql_meaning.specs.laws.Idents.{same_is, same_self}
use Rattle.aql_plan_laws.specs.laws.Among.{any_front, any_back, any_either}
use Rattle.aql_plan_laws.specs.laws.Mapped.{node_same}
use Rattle.aql_plan_laws.specs.laws.SetsHave.{sets_have, node_has}
use Rattle.aql_plan_laws.specs.laws.RenamedUses.{uses_by}
use Rattle.aql_plan_laws.specs.laws.UsesMapped.{Turns, IsKept, sets_kept, input_turned, filter_turned}

-- whether a variable is used
abbrev pub is_in_use : Ident → Uses → Bool
is_in_use z us = list_any (λ (u : Use). same_ident z (used_variable u)) us

module _ (g : Ident → Ident) where
  -- each variable that is used and is among xs is among ys, under its name by g
  abbrev pub StaysAmong : Uses → List Ident → List Ident → Type 0
  StaysAmong us xs ys = (z : Ident) → is_in_use z us ≡ true → list_any (same_ident z) xs ≡ true
      → list_any (same_ident (g z)) ys ≡ true

  pub stays_front : (us vs : Uses) (xs ys : List Ident) → StaysAmong (us ++ vs) xs ys → StaysAmong us xs ys
  stays_front us vs xs ys k z h m =
      k z (any_front (λ (u : Use). same_ident z (used_variable u)) us vs h) m

  pub stays_back : (us vs : Uses) (xs ys : List Ident) → StaysAmong (us ++ vs) xs ys → StaysAmong vs xs ys
  stays_back us vs xs ys k z h m = k z (any_back (λ (u : Use). same_ident z (used_variable u)) us vs h) m

  stays_joined : (us vs : Uses) (xs ys : List Ident) → StaysAmong us xs ys → StaysAmong vs xs ys
      → StaysAmong (us ++ vs) xs ys
  stays_joined us vs xs ys k l z h m =
      ⊎_elim (λ a. k z a m) (λ b. l z b m)
      (any_either (λ (u : Use). same_ident z (used_variable u)) us vs h)

  nothing_used : (xs ys : List Ident) → StaysAmong [] xs ys
  nothing_used xs ys z h m = absurd (true≢false (sym h))

  -- variables that keep their names
  kept_name : (zs : List Ident) → AllByRecursion (IsKept g) zs → (z : Ident)
      → list_any (same_ident z) zs ≡ true → g z ≡ z
  kept_name [] a z m = absurd (true≢false (sym m))
  kept_name (y ∷ zs) a z m = by (same_ident z y) refl (kept_name zs a.1 z) m
    where
      by : (b : Bool) → same_ident z y ≡ b → (list_any (same_ident z) zs ≡ true → g z ≡ z)
          → (b || list_any (same_ident z) zs) ≡ true → g z ≡ z
      by true e f m = subst (IsKept g) (sym (same_is z y e)) a.0
      by false e f m = f m

  pub stays_kept : (us : Uses) (zs : List Ident) → AllByRecursion (IsKept g) zs → StaysAmong us zs zs
  stays_kept us zs a z h m =
      subst (λ (w : Ident). list_any (same_ident w) zs ≡ true) (sym (kept_name zs a z m)) m

  pub stays_more : (us : Uses) (zs xs ys : List Ident) → AllByRecursion (IsKept g) zs → StaysAmong us xs ys
      → StaysAmong us (zs ++ xs) (zs ++ ys)
  stays_more us zs xs ys a k z h m =
      ⊎_elim (λ l. any_front (same_ident (g z)) zs ys (stays_kept us zs a z h l))
      (λ l. any_back (same_ident (g z)) zs ys (k z h l)) (any_either (same_ident z) zs xs m)

  first_used : (z : Ident) (us : Uses)
      → (same_ident z z || is_in_use z us) ≡ true
  first_used z us = ap (λ (b : Bool). b || is_in_use z us) (same_self z)

  pub among_stays : (us : Uses) (xs ys : List Ident) → StaysAmong us xs ys → are_among us xs ≡ true
      → are_among (uses_by g us) ys ≡ true
  among_stays [] xs ys k h = refl
  among_stays (Whole z ∷ us) xs ys k h =
      let l = and_parts (list_any (same_ident z) xs) (are_among us xs) h in
      and_from (list_any (same_ident (g z)) ys) (are_among (uses_by g us) ys) (k z (first_used z us) l.0)
      (among_stays us xs ys (stays_back (Whole z ∷ []) us xs ys k) l.1)
  among_stays (Attribute z name ∷ us) xs ys k h =
      let l = and_parts (list_any (same_ident z) xs) (are_among us xs) h in
      and_from (list_any (same_ident (g z)) ys) (are_among (uses_by g us) ys) (k z (first_used z us) l.0)
      (among_stays us xs ys (stays_back (Attribute z name ∷ []) us xs ys k) l.1)

  -- ---- what a node uses is used of its input

  own_used : (us : Uses) (xs ys : List Ident) (n : Node) → StaysAmong (under n us) xs ys
      → StaysAmong (own_uses n) xs ys
  own_used us xs ys (Subquery x b) k = nothing_used xs ys
  own_used us xs ys (Collect zs es gs i s) k = k
  own_used us xs ys (Return distinct e) k = k
  own_used us xs ys n k = stays_front (own_uses n) us xs ys k

  input_used : (xs ys : List Ident) (n : Node) → StaysAmong (own_uses n) xs ys
      → StaysAmong (input_uses n) xs ys
  input_used xs ys (EnumerateCollection x) k = nothing_used xs ys
  input_used xs ys (Index x index equal last ordered) k =
      let a = all_uses equal in
      let b = last_uses last in
      let c = maybe_uses x.filter in
      stays_joined a b xs ys (stays_front a (b ++ c) xs ys k)
      (stays_front b c xs ys (stays_back a (b ++ c) xs ys k))
  input_used xs ys (Traversal w e colls prune keep) k =
      stays_front (uses e) (maybe_uses prune ++ maybe_uses keep) xs ys k
  input_used xs ys n k = k

  filter_used : (xs ys : List Ident) (n : Node) → StaysAmong (own_uses n) xs ys
      → StaysAmong (filter_uses n) xs ys
  filter_used xs ys (EnumerateCollection x) k = k
  filter_used xs ys (Index x index equal last ordered) k =
      let b = last_uses last in
      let c = maybe_uses x.filter in
      stays_back b c xs ys (stays_back (all_uses equal) (b ++ c) xs ys k)
  filter_used xs ys (Traversal w e colls prune keep) k =
      stays_back (uses e) (maybe_uses prune ++ maybe_uses keep) xs ys k
  filter_used xs ys n k = nothing_used xs ys

-- what a node needs of these variables, in the rows of its input
abbrev pub NodeFinds : List Ident → Node → Type 0
NodeFinds xs n = (are_among (input_uses n) xs ≡ true) × (are_among (filter_uses n) (sets n ++ xs) ≡ true)
    × FindsInside xs n

-- a Collect hands on the start row's variables
abbrev pub StartStays : (Ident → Ident) → Uses → List Ident → List Ident → Node → Type 0
StartStays g us xs ys (Collect zs es gs i s) = StaysAmong g us xs ys
StartStays g us xs ys n = Unit {0}

module _ (f : ExprTree → ExprTree) (g : Ident → Ident) (result : IsKept g (Num 0)) where
  -- from below a node to its own rows
  pub rows_over : (us : Uses) (xs ys : List Ident) (b c : Plan) (n : Node) → NodeSets (IsKept g) n
      → StartStays g us xs ys n → StaysAmong g (under n us) (vars_of xs b) (vars_of ys c)
      → StaysAmong g us (vars_of xs (Over b n)) (vars_of ys (Over c (map_node f n)))
  rows_over us xs ys b c (Collect zs es gs i s) clear start k =
      let n = Collect zs es gs i s in
      subst (λ (vs : List Ident). StaysAmong g us (sets n ++ xs) (vs ++ ys)) (sym (sets_kept f n))
      (stays_more g us (sets n) xs ys (sets_have (IsKept g) result n clear) start)
  rows_over us xs ys b c (Return distinct e) clear start k = stays_kept g us (Num 0 ∷ []) (result, tt)
  rows_over us xs ys b c (Subquery x s) clear start k =
      stays_more g us (x ∷ []) (vars_of xs b) (vars_of ys c) (clear.0, tt)
      (stays_back g (needs s result_uses) us (vars_of xs b) (vars_of ys c) k)
  rows_over us xs ys b c n clear start k =
      stays_more g us (sets n) (vars_of xs b) (vars_of ys c) (sets_have (IsKept g) result n clear)
      (stays_back g (own_uses n) us (vars_of xs b) (vars_of ys c) k)

  needs_below : (us : Uses) (xs ys : List Ident) (b : Plan) (n : Node)
      → StaysAmong g (needs (Over b n) us) xs ys → StaysAmong g (needs b (under n us)) xs ys
  needs_below us xs ys b (Collect zs es gs i s) k =
      stays_front g (needs b (under (Collect zs es gs i s) us)) us xs ys k
  needs_below us xs ys b n k = k

  start_below : (us : Uses) (xs ys : List Ident) (b : Plan) (n : Node)
      → StaysAmong g (needs (Over b n) us) xs ys → StartStays g us xs ys n
  start_below us xs ys b (Collect zs es gs i s) k =
      stays_back g (needs b (under (Collect zs es gs i s) us)) us xs ys k
  start_below us xs ys b n k = tt

  -- from the start row to the rows of a plan
  pub rows_mapped : (us : Uses) (xs ys : List Ident) (p : Plan) → PlanSets (IsKept g) p
      → StaysAmong g (needs p us) xs ys → StaysAmong g us (vars_of xs p) (vars_of ys (map_plan f p))
  rows_mapped us xs ys Singleton clear k = k
  rows_mapped us xs ys (Over b n) clear k =
      rows_over us xs ys b (map_plan f b) n clear.1 (start_below us xs ys b n k)
      (rows_mapped (under n us) xs ys b clear.0 (needs_below us xs ys b n k))

module _ (f : ExprTree → ExprTree) (g : Ident → Ident) (result : IsKept g (Num 0)) (turns : Turns f g) where
  input_found : (us : Uses) (xs ys : List Ident) (n : Node) → NodeSets (IsKept g) n
      → StaysAmong g (under n us) xs ys → are_among (input_uses n) xs ≡ true
      → are_among (input_uses (map_node f n)) ys ≡ true
  input_found us xs ys n clear k h =
      subst (λ (vs : Uses). are_among vs ys ≡ true) (sym (input_turned f g turns n clear))
      (among_stays g (input_uses n) xs ys (input_used g xs ys n (own_used g us xs ys n k)) h)

  filter_found : (us : Uses) (xs ys : List Ident) (n : Node) → NodeSets (IsKept g) n
      → StaysAmong g (under n us) xs ys → are_among (filter_uses n) (sets n ++ xs) ≡ true
      → are_among (filter_uses (map_node f n)) (sets (map_node f n) ++ ys) ≡ true
  filter_found us xs ys n clear k h =
      subst (λ (zs : List Ident). are_among (filter_uses (map_node f n)) (zs ++ ys) ≡ true)
      (sym (sets_kept f n))
      (subst (λ (vs : Uses). are_among vs (sets n ++ ys) ≡ true) (sym (filter_turned f g turns n))
      (among_stays g (filter_uses n) (sets n ++ xs) (sets n ++ ys)
      (stays_more g (filter_uses n) (sets n) xs ys (sets_have (IsKept g) result n clear)
      (filter_used g xs ys n (own_used g us xs ys n k))) h))

  mutual
    pub node_mapped : (us : Uses) (xs ys : List Ident) (n : Node) → NodeSets (IsKept g) n
        → StaysAmong g (under n us) xs ys → NodeFinds xs n → NodeFinds ys (map_node f n)
    node_mapped us xs ys (Subquery x s) clear k h = (
      refl,
      refl,
      plan_mapped result_uses xs ys s clear.1 (stays_front g (needs s result_uses) us xs ys k) h.2,
    )
    node_mapped us xs ys n clear k h =
        (input_found us xs ys n clear k h.0, filter_found us xs ys n clear k h.1, tt)

    pub plan_mapped : (us : Uses) (xs ys : List Ident) (p : Plan) → PlanSets (IsKept g) p
        → StaysAmong g (needs p us) xs ys → FindsAll xs p → FindsAll ys (map_plan f p)
    plan_mapped us xs ys Singleton clear k h = tt
    plan_mapped us xs ys (Over b n) clear k h =
        let l = needs_below f g result us xs ys b n k in
        let m = node_mapped us (vars_of xs b) (vars_of ys (map_plan f b)) n clear.1
        (rows_mapped f g result (under n us) xs ys b clear.0 l) (h.1, h.2, h.3) in
        (plan_mapped (under n us) xs ys b clear.0 l h.0, m.0, m.1, m.2)

-- ---- where nothing gets another name

same_uses : (us : Uses) → us ≡ uses_by (λ z. z) us
same_uses [] = refl
same_uses (Whole z ∷ us) = ap (λ (vs : Uses). Whole z ∷ vs) (same_uses us)
same_uses (Attribute z name ∷ us) = ap (λ (vs : Uses). Attribute z name ∷ vs) (same_uses us)

pub node_still : (us : Uses) (xs ys : List Ident) (n : Node) → StaysAmong (λ z. z) (under n us) xs ys
    → NodeFinds xs n → NodeFinds ys n
node_still us xs ys n k h =
    subst (λ (m : Node). NodeFinds ys m) (node_same n)
    (node_mapped (λ e. e) (λ z. z) refl (λ e. same_uses (uses e)) us xs ys n
    (node_has (IsKept (λ z. z)) (λ z. refl) n) k h)

pub rows_still : (us : Uses) (outer : List Ident) (b c : Plan) (n : Node)
    → StaysAmong (λ z. z) (under n us) (vars_of outer b) (vars_of outer c)
    → StaysAmong (λ z. z) us (vars_of outer (Over b n)) (vars_of outer (Over c n))
rows_still us outer b c n k =
    subst (λ (m : Node). StaysAmong (λ z. z) us (vars_of outer (Over b n)) (vars_of outer (Over c m)))
    (node_same n) (rows_over (λ e. e) (λ z. z) refl us outer outer b c n
    (node_has (IsKept (λ z. z)) (λ z. refl) n) (start n) k)
  where
    start : (n : Node) → StartStays (λ z. z) us outer outer n
    start (Collect zs es gs i s) = λ z h m. m
    start n = tt
