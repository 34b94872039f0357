-- What the rule use-index-for-sort finds: the node at the foot, and what becomes of the Sort.
use Rattle.std.proofs.Common.{◌≡◌, ◌∙◌, ◌≤◌, ℕ, List, [], ◌∷◌, length, drop, Bool, true, false, true≢false, ◌⊎◌, inl, inr, Option, Some, None, refl, sym, ap, ap₂, subst, subst₂, arith}
use Rattle.aql_tree.specs.declared.syntax.Ident.{Ident}
use Rattle.aql_tree.specs.Tree.{ExprTree, ExprTrees, no_exprs}
use Rattle.aql_meaning.specs.Documents.{Last, no_last}
use Rattle.aql_meaning.specs.Uses.{Uses}
use Rattle.aql_plan.specs.declared.facts.Facts.{Facts}
use Rattle.aql_plan.specs.Facts.{attributes_in}
use Rattle.aql_plan.specs.Fits.{exprs_in, attribute_keys}
use Rattle.aql_plan.specs.Nodes.{over}
use Rattle.aql_plan.specs.Plan.{Reading, Plan, Singleton, Over, Node, EnumerateCollection, Index, Sort, top}
use Rattle.aql_rewrite.specs.Places.{Stays}
use Rattle.aql_rules_order.specs.InlineSubqueries.{is_single}
use Rattle.aql_rules_order.specs.Readers.{Becomes, InputBecomes, input_of}
use Rattle.aql_rules_index.specs.Choice.{no_bounds}
use Rattle.aql_rules_index.specs.UseIndexForSort.{directions_of, AreFirst, IsSorted, Begins, is_one_of, leaves_order, Orders, enumeration, by_index, below, SortsByIndex, sorted}
use Rattle.aql_rules_index.specs.inner.Ordering.{KeysAreFirst, AllGo, KeysBegin, KeysBeginFirst, MayOrder, OrdersTo, OrdersBy, SortOrders, sort_orders, where_kept, whole_enumeration, plan_ordered}
use Rattle.aql_rules_index.specs.inner.Readers.{var_and_coll, plan_indexed, IndexRead, whole_index}
use Rattle.aql_rules_index.specs.laws.IndexReads.{whole_is, read_plan}
use Rattle.aql_rules_index.specs.laws.Items.{some_same}
use Rattle.aql_rules_index.proofs.KeysFound.{names_of, as_many, keys_first}

-- ---- the node at the foot

kept_is : (x : Reading) → x.attrs ≡ None → where_kept x.attrs x ≡ Some x
kept_is x a = ap (λ (names : Option (List (List ℕ))). where_kept names x) a

-- a plan whose top node is an EnumerateCollection that keeps all attributes
record IsKept (p : Plan) (v : Ident) (coll : ℕ) : Type 0 where
  input : Plan
  reading : Reading
  whole : reading.attrs ≡ None
  var : reading.var ≡ v
  there : reading.coll ≡ coll
  is : p ≡ Over input (EnumerateCollection reading)

kept_plan : (p : Plan) (v : Ident) (coll : ℕ) → var_and_coll (whole_enumeration (top p)) ≡ Some (v, coll)
    → IsKept p v coll
kept_plan Singleton v coll h = absurd (cc)
kept_plan (Over b n) v coll h = by n h
  where
    by_attrs : (x : Reading) (names : Option (List (List ℕ))) → x.attrs ≡ names
        → var_and_coll (where_kept names x) ≡ Some (v, coll) → IsKept (Over b (EnumerateCollection x)) v coll
    by_attrs x None a h =
        let k = some_same (x.var, x.coll) (v, coll) h in record {
          input = b;
          reading = x;
          whole = a;
          var = ap (λ (s : Ident × ℕ). s.0) k;
          there = ap (λ (s : Ident × ℕ). s.1) k;
          is = refl;
        }
    by_attrs x (Some names) a h = absurd (cc)

    by : (n : Node) → var_and_coll (whole_enumeration n) ≡ Some (v, coll) → IsKept (Over b n) v coll
    by (EnumerateCollection x) h = by_attrs x x.attrs refl h
    by n h = absurd (cc)

module _ (facts : Facts) (descending : Bool) (es : ExprTrees) where
  abbrev Ordered : Plan → Plan → Type 0
  Ordered = OrdersTo facts descending es

  -- keys that are attributes begin an index that the names begin
  begins_key : (coll : ℕ) (x : Ident) (names : List (List ℕ)) (index : ℕ) → es ≡ attribute_keys x names
      → Begins facts coll names index → KeysBegin facts coll x es index
  begins_key coll x names index keys (sorts, first) =
      subst (λ (ks : ExprTrees). KeysBegin facts coll x ks index) (sym keys)
      (sorts, keys_first x names (attributes_in facts coll index) first)

  enumeration_to : (b : Plan) (x : Reading) (index : ℕ) → is_single b ≡ true → x.attrs ≡ None
      → KeysBeginFirst facts x.coll x.var es index
      → Ordered (Over b (EnumerateCollection x)) (Over b (Index x index no_exprs no_last (Some descending)))
  enumeration_to b x index single whole h =
      let k = names_of x.var es (attributes_in facts x.coll index) h.0.1 in (
        k.0,
        enumeration single whole k.1
            ((h.0.0, k.2), λ other less g. h.1 other less (begins_key x.coll x.var k.0 other k.1 g)),
      )

  index_to : (b : Plan) (x : Reading) (index : ℕ) (equal : ExprTrees) (last : Last ExprTree)
      → is_single b ≡ true → x.attrs ≡ None → IsSorted facts x.coll index → is_one_of last ≡ false
      → KeysAreFirst x.var es (attributes_in facts x.coll index)
      ⊎ KeysAreFirst x.var es (drop (exprs_in equal) (attributes_in facts x.coll index))
      → Ordered (Over b (Index x index equal last None)) (Over b (Index x index equal last (Some descending)))
  index_to b x index equal last single whole sorts range (inl h) =
      let k = names_of x.var es (attributes_in facts x.coll index) h in
      (k.0, by_index single whole k.1 sorts range (inl k.2))
  index_to b x index equal last single whole sorts range (inr h) =
      let k = names_of x.var es (drop (exprs_in equal) (attributes_in facts x.coll index)) h in
      (k.0, by_index single whole k.1 sorts range (inr k.2))

  -- ---- where the node at the foot cannot

  pub no_index : (p : Plan) (v : Ident) (coll : ℕ) → leaves_order (top p) ≡ false
      → var_and_coll (whole_enumeration (top p)) ≡ Some (v, coll)
      → ((n : ℕ) → KeysBegin facts coll v es n → ⊥) → (s : Plan) → Ordered p s → ⊥
  no_index _ v coll l e f _ (names, enumeration {x = x} {index = index} single a keys first) =
      let same = some_same (x.var, x.coll) (v, coll) (sym (ap var_and_coll (kept_is x a)) ∙ e) in
      f index (subst (λ (s : Ident × ℕ). KeysBegin facts s.1 s.0 es index) same
      (begins_key x.coll x.var names index keys first.0))
  no_index _ v coll l e f _ (names, by_index single a keys sorts range first) = cc
  no_index _ v coll l e f _ (names, below m h) = true≢false (sym m ∙ l)

  pub no_order : (p : Plan) (r : IndexRead) → leaves_order (top p) ≡ false
      → var_and_coll (whole_enumeration (top p)) ≡ None → whole_index (top p) ≡ Some r
      → (MayOrder facts r es → ⊥) → (s : Plan) → Ordered p s → ⊥
  no_order _ r l e f g _ (names, enumeration {x = x} single a keys first) =
      let k = ap var_and_coll (kept_is x a) in cc
  no_order _ r l e f g _
      (names, by_index {x = x} {index = index} {equal = equal} {last = last} single a keys sorts range first) =
      g (subst (λ (s : IndexRead). MayOrder facts s es)
      (some_same _ r (sym (whole_is x index equal last None a) ∙ f)) (refl, sorts, range, by first))
    where
      by : AreFirst names (attributes_in facts x.coll index)
          ⊎ AreFirst names (drop (exprs_in equal) (attributes_in facts x.coll index))
          → KeysAreFirst x.var es (attributes_in facts x.coll index)
          ⊎ KeysAreFirst x.var es (drop (exprs_in equal) (attributes_in facts x.coll index))
      by (inl h) = inl (subst (λ (ks : ExprTrees). KeysAreFirst x.var ks (attributes_in facts x.coll index))
          (sym keys) (keys_first x.var names (attributes_in facts x.coll index) h))
      by (inr h) = inr (subst (λ (ks : ExprTrees).
          KeysAreFirst x.var ks (drop (exprs_in equal) (attributes_in facts x.coll index)))
          (sym keys) (keys_first x.var names (drop (exprs_in equal) (attributes_in facts x.coll index)) h))
  no_order _ r l e f g _ (names, below m h) = true≢false (sym m ∙ l)

  -- ---- where it can

  pub enumeration_at : (p q : Plan) (v : Ident) (coll index : ℕ) → is_single (input_of p) ≡ true
      → var_and_coll (whole_enumeration (top p)) ≡ Some (v, coll) → KeysBeginFirst facts coll v es index
      → q ≡ plan_indexed (record { index = index; bounds = no_bounds }) (Some descending) p → Ordered p q
  enumeration_at p q v coll index single e h made =
      let k = kept_plan p v coll e in
      subst₂ Ordered (sym k.is)
      (sym (made ∙ ap (plan_indexed (record { index = index; bounds = no_bounds }) (Some descending)) k.is))
      (enumeration_to k.input k.reading index
      (subst (λ (m : Plan). is_single (input_of m) ≡ true) k.is single) k.whole
      (subst (λ (n : ℕ). KeysBeginFirst facts n k.reading.var es index) (sym k.there)
      (subst (λ (w : Ident). KeysBeginFirst facts coll w es index) (sym k.var) h)))

  pub index_at : (p q : Plan) (r : IndexRead) → is_single (input_of p) ≡ true → whole_index (top p) ≡ Some r
      → MayOrder facts r es → q ≡ plan_ordered descending p → Ordered p q
  index_at p q r single e (free, sorts, range, keys) made =
      let k = read_plan p r e in
      let is = k.is ∙ ap (λ (o : Option Bool). Over k.input (Index k.reading r.index r.equal r.last o)) free in
      subst₂ Ordered (sym is) (sym (made ∙ ap (plan_ordered descending) is))
      (index_to k.input k.reading r.index r.equal r.last
      (subst (λ (m : Plan). is_single (input_of m) ≡ true) k.is single) k.whole
      (subst (λ (n : ℕ). IsSorted facts n r.index) (sym k.coll) sorts) range
      (subst (λ (n : ℕ). KeysAreFirst k.reading.var es (attributes_in facts n r.index)
      ⊎ KeysAreFirst k.reading.var es (drop (exprs_in r.equal) (attributes_in facts n r.index))) (sym k.coll)
      (subst (λ (w : Ident). KeysAreFirst w es (attributes_in facts r.coll r.index)
      ⊎ KeysAreFirst w es (drop (exprs_in r.equal) (attributes_in facts r.coll r.index))) (sym k.var) keys)))

  -- ---- below the nodes between

  none_below : (p : Plan) → leaves_order (top p) ≡ true
      → ((b s : Plan) → p ≡ Over b (top p) → Ordered b s → ⊥) → (s : Plan) → Ordered p s → ⊥
  none_below _ l f _ (names, enumeration single a keys first) = true≢false (sym l)
  none_below _ l f _ (names, by_index single a keys sorts range first) = true≢false (sym l)
  none_below _ l f _ (names, below {b = b} {c = c} m h) = f b c refl (names, h)

  pub input_orders : (p q b c : Plan) (n : Node) (changed : Bool) → p ≡ Over b n → q ≡ Over c n
      → Becomes Ordered b c changed → InputBecomes Ordered p q changed
  input_orders p q b c n true is made h =
      let same = ap top is in (b, c, is ∙ ap (Over b) (sym same), made ∙ ap (Over c) (sym same), h)
  input_orders p q b c n false is made (f, same) = (
    (λ d s e h. f s (subst (λ (m : Plan). Ordered m s) (let k = sym e ∙ is in cc) h)),
    made ∙ ap (λ (m : Plan). Over m n) same ∙ sym is,
  )

  pub order_through : (p q : Plan) (changed : Bool) → leaves_order (top p) ≡ true
      → InputBecomes Ordered p q changed → Becomes Ordered p q changed
  order_through p q true l (b, c, is, made, (names, h)) =
      subst₂ Ordered (sym is) (sym made) (names, below l h)
  order_through p q false l (f, same) = (none_below p l f, same)

-- ---- keys of any directions

all_one : (descending : Bool) (names : List (List ℕ)) → AllGo descending (directions_of descending names)
all_one descending [] = tt
all_one descending (name ∷ names) = (refl, all_one descending names)

one_each : (descending : Bool) (ds : List Bool) (names : List (List ℕ)) → AllGo descending ds
    → length ds ≡ length names → ds ≡ directions_of descending names
one_each descending [] [] h e = refl
one_each descending [] (name ∷ names) h e = absurd (omega (arith, e))
one_each descending (d ∷ ds) [] h e = absurd (omega (arith, e))
one_each descending (d ∷ ds) (name ∷ names) h e =
    ap₂ (λ (b : Bool) bs. b ∷ bs) h.0 (one_each descending ds names h.1 (omega (arith, e)))

module _ (facts : Facts) where
  keys_have : {descending : Bool} {names : List (List ℕ)} {es : ExprTrees} {b c : Plan}
      → Orders facts descending names es b c → (1 ≤ length names) × (exprs_in es ≡ length names)
  keys_have {descending} {names} (enumeration {x = x} single a keys first) =
      (first.0.1.0, ap exprs_in keys ∙ as_many x.var names)
  keys_have {descending} {names} (by_index {x = x} single a keys sorts range (inl h)) =
      (h.0, ap exprs_in keys ∙ as_many x.var names)
  keys_have {descending} {names} (by_index {x = x} single a keys sorts range (inr h)) =
      (h.0, ap exprs_in keys ∙ as_many x.var names)
  keys_have (below l h) = keys_have h

  pub no_keys : (ds : List Bool) (es : ExprTrees) (p : Plan) → exprs_in es ≡ 0
      → (s : Plan) → OrdersBy facts ds es p s → ⊥
  no_keys ds es p none s (descending, names, e, h) = let k = keys_have h in omega (arith, none, k.0, k.1)

  module _ (d : Bool) (ds more : List Bool) (first : ds ≡ d ∷ more) (es : ExprTrees) where
    -- all go as the first one
    go_first : (p s : Plan) → OrdersBy facts ds es p s → AllGo d ds × OrdersTo facts d es p s
    go_first p s (descending, names, e, h) =
        let all = subst (AllGo descending) (sym e) (all_one descending names) in
        let way = (subst (AllGo descending) first all).0 in (
          subst (λ (b : Bool). AllGo b ds) (sym way) all,
          (names, subst (λ (b : Bool). Orders facts b names es p s) (sym way) h),
        )

    pub mixed : (p : Plan) → (AllGo d ds → ⊥) → (s : Plan) → OrdersBy facts ds es p s → ⊥
    mixed p f s h = f (go_first p s h).0

    pub one_way : (p q : Plan) (changed : Bool) → AllGo d ds → length ds ≡ exprs_in es
        → Becomes (OrdersTo facts d es) p q changed → Becomes (OrdersBy facts ds es) p q changed
    one_way p q true all long (names, h) =
        let k = keys_have h in (d, names, one_each d ds names all (long ∙ k.1), h)
    one_way p q false all long (f, same) = ((λ s h. f s (go_first p s h).1), same)

  -- ---- the Sort

  none_sorts : (b : Plan) (ds : List Bool) (es : ExprTrees) → ((s : Plan) → OrdersBy facts ds es b s → ⊥)
      → (s : Plan) → SortOrders facts (Over b (Sort ds es None)) s → ⊥
  none_sorts b ds es f _ (sort_orders h) = f _ h

  pub sort_becomes : (p q b c : Plan) (n : Node) (ds : List Bool) (es : ExprTrees) (changed : Bool)
      → p ≡ Over b n → q ≡ Over c n → n ≡ Sort ds es None → Becomes (OrdersBy facts ds es) b c changed
      → Becomes (SortOrders facts) p q changed
  sort_becomes p q b c n ds es true is made sorts h =
      subst₂ (SortOrders facts) (sym (is ∙ ap (Over b) sorts)) (sym (made ∙ ap (Over c) sorts)) (sort_orders h)
  sort_becomes p q b c n ds es false is made sorts (f, same) = (
    (λ s k. none_sorts b ds es f s
        (subst (λ (m : Plan). SortOrders facts m s) (is ∙ ap (Over b) sorts) k)),
    made ∙ ap (λ (m : Plan). Over m n) same ∙ sym is,
  )

  -- where the rows come so, the Sort goes
  pub sort_gone : (us : Uses) (p m q : Plan) → SortOrders facts p m → m ≡ over m q
      → SortsByIndex facts us p q None
  sort_gone us _ _ q (sort_orders {b = b} {c = c} {es = es} (descending, names, e, o)) h =
      subst₂ (λ (bs : List Bool) (r : Plan). SortsByIndex facts us (Over b (Sort bs es None)) r None)
      (sym e) (let k = h in cc) (sorted o)

  pub sort_stays : (us : Uses) (p : Plan) → ((s : Plan) → SortOrders facts p s → ⊥)
      → Stays (SortsByIndex facts) us p
  sort_stays us _ f _ _ (sorted {descending = descending} {names = names} o) =
      f _ (sort_orders (descending, names, refl, o))
