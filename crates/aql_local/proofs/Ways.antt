-- The steps over the edges of collections, way by way, and what is counted of them.
use Rattle.std.proofs.Common.{◌≡◌, ◌∙◌, ℕ, zero, suc, ◌+◌, ◌-◌, ◌≤◌, ◌<◌, ◌^◌, min, List, [], ◌∷◌, ◌++◌, map, length, take, drop, sum, filter, Some, Bool, true, false, cond, not, ◌&&◌, refl, sym, ap, ap₂, subst, append_assoc, get_or, arith}
use Rattle.std.specs.Prelude.{flat_map, IsPermutation, slice_get}
use Rattle.std.specs.List.{AllByRecursion}
use Rattle.std.proofs.Math.Seq.{take-suc}
use Rattle.std.proofs.lemmas.Grind.{flat_map-append}
use Rattle.std.proofs.lemmas.List.{append-nil, map-append, length-map}
use Rattle.std.proofs.lemmas.List.Concat.{flat_map_single}
use Rattle.std.proofs.lemmas.List.Elements.{filter-append}
use Rattle.std.proofs.lemmas.List.Sorted.{IsPermutation-refl, IsPermutation-trans, IsPermutation-append_comm, IsPermutation-append_left, IsPermutation-append_right, sum_by-IsPermutation}
use Rattle.std.proofs.lemmas.List.Sums.{sum-map, sum_by-append, sum_by-cons}
use Rattle.aql_value.specs.Datum.{Datum, text}
use Rattle.aql_value.specs.Contents.{at_name, same}
use Rattle.aql_value.specs.Database.{Database, documents_of}
use Rattle.aql_value.specs.declared.lists.CollNo.{CollNo}
use Rattle.aql_tree.specs.declared.syntax.Direction.{Direction}
use Rattle.aql_tree.specs.declared.syntax.Direction.TheVariants.{Outbound, Inbound, Any}
use Rattle.aql_meaning.specs.Paths.{EdgeStep, steps_from, leaves, enters, along, against}
use Rattle.aql_block.specs.declared.tally.Tally.{Tally}
use Rattle.aql_plan.specs.declared.facts.Facts.{Facts}
use Rattle.aql_plan.specs.Fits.{IsEdgeCollection}
use Rattle.aql_plan.specs.Runs.{Dataset, edges_in}
use Rattle.aql_index.specs.declared.bounds.Span.{Span}
use Rattle.aql_index.specs.Spans.{spanned, IsSpan}
use Rattle.aql_exec_graph.specs.Found.{numbers, times_found, edges_found, found_more}
use Rattle.aql_shard.specs.Holding.{Holding}
use Rattle.aql_shard.specs.Datasets.{one_found}
use Rattle.aql_local.specs.declared.lookups.SystemAttribute.{SystemAttribute}
use Rattle.aql_local.specs.declared.edge_steps.Way.{Way}
use Rattle.aql_local.specs.declared.edge_steps.Way.TheVariants.{Along, Against, AgainstOthers}
use Rattle.aql_local.specs.inner.EdgeSteps.{near_end, edges_by, steps_by, step_over}
use Rattle.aql_local.specs.inner.Lookups.{name_of, order_by, HasIndexBy}
use Rattle.aql_local.proofs.Places.{one_place_more, spanned_length}

-- ---- the steps of a direction are those of its ways

module _ (id : List ℕ) where
  pub along_all : (es : List Datum) → steps_by Along id es ≡ steps_from Outbound es id
  along_all es = flat_map_single along (filter (leaves id) es)

  pub against_all : (es : List Datum) → steps_by Against id es ≡ steps_from Inbound es id
  against_all es = flat_map_single against (filter (enters id) es)

  others : (es : List Datum)
      → steps_by AgainstOthers id es ≡ map against (filter (λ e. enters id e && not (leaves id e)) es)
  others [] = refl
  others (e ∷ es) = by (enters id e) (leaves id e) refl (others es)
    where
      by : (x l : Bool) → leaves id e ≡ l
          → flat_map (step_over AgainstOthers id) (edges_by AgainstOthers id es)
          ≡ map against (filter (λ d. enters id d && not (leaves id d)) es)
          → flat_map (step_over AgainstOthers id)
          (cond x (e ∷ edges_by AgainstOthers id es) (edges_by AgainstOthers id es))
          ≡ map against (cond (x && not l) (e ∷ filter (λ d. enters id d && not (leaves id d)) es)
          (filter (λ d. enters id d && not (leaves id d)) es))
      by false l p h = h
      by true true p h = rw p h
      by true false p h = rw p (ap (λ l. against e ∷ l) h)

  pub both_ways : (es : List Datum)
      → steps_by Along id es ++ steps_by AgainstOthers id es ≡ steps_from Any es id
  both_ways es = ap₂ (λ l m. l ++ m) (along_all es) (others es)

  -- ---- and so is what is found

  one_more : {X : Type 0} (f : X → ℕ) (x : X) (xs : List X) → sum (map f (x ∷ xs)) ≡ f x + sum (map f xs)
  one_more f x xs = sum_by-cons (λ n. n) (f x) (map f xs)

  ones : {X : Type 0} (f : X → ℕ) (xs : List X) → ((x : X) → f x ≡ 1) → sum (map f xs) ≡ length xs
  ones f [] h = refl
  ones f (x ∷ xs) h =
      let one = h x in let rest = ones f xs h in let both = one_more f x xs in omega (arith, one, rest, both)

  pub found_along : (es : List Datum) → length (edges_by Along id es) ≡ edges_found Outbound es id
  found_along es = sym (ones (times_found Outbound id) (steps_from Outbound es id) (λ s. refl)
      ∙ length-map (filter (leaves id) es) along)

  pub found_against : (es : List Datum) → length (edges_by Against id es) ≡ edges_found Inbound es id
  found_against es = sym (ones (times_found Inbound id) (steps_from Inbound es id) (λ s. refl)
      ∙ length-map (filter (enters id) es) against)

  abbrev times : EdgeStep → ℕ
  times s = times_found Any id s

  abbrev counted : List EdgeStep → ℕ
  counted ss = sum (map times ss)

  abbrev out : List Datum → List Datum
  out es = filter (leaves id) es

  abbrev into : List Datum → List Datum
  into es = filter (enters id) es

  abbrev into_alone : List Datum → List Datum
  into_alone es = filter (λ e. enters id e && not (leaves id e)) es

  found_each_way : (es : List Datum) → counted (map along (out es)) + counted (map against (into_alone es))
      ≡ length (out es) + length (into es)
  found_each_way [] = refl
  found_each_way (e ∷ es) = by (leaves id e) refl (enters id e) refl (found_each_way es)
    where
      by : (l : Bool) → leaves id e ≡ l → (x : Bool) → enters id e ≡ x
          → counted (map along (out es)) + counted (map against (into_alone es))
          ≡ length (out es) + length (into es)
          → counted (map along (cond l (e ∷ out es) (out es)))
          + counted (map against (cond (x && not l) (e ∷ into_alone es) (into_alone es)))
          ≡ length (cond l (e ∷ out es) (out es)) + length (cond x (e ∷ into es) (into es))
      by true p true q h =
          let t : times (along e) ≡ 2 = ap₂ (λ (a b : Bool). cond (a && b) (suc 1) 1) p q in
          let o = one_more times (along e) (map along (out es)) in omega (arith, h, t, o)
      by true p false q h =
          let t : times (along e) ≡ 1 = ap₂ (λ (a b : Bool). cond (a && b) (suc 1) 1) p q in
          let o = one_more times (along e) (map along (out es)) in omega (arith, h, t, o)
      by false p true q h =
          let t : times (against e) ≡ 1 = ap (λ (a : Bool). cond (a && enters id e) (suc 1) 1) p in
          let o = one_more times (against e) (map against (into_alone es)) in omega (arith, h, t, o)
      by false p false q h = h

pub both_added : (id : List ℕ) (direction : Direction) (es ds : List Datum)
    (before here after : List EdgeStep) → direction ≡ Any → ds ≡ es → here ≡ before ++ steps_by Along id es
    → after ≡ here ++ steps_by AgainstOthers id ds → after ≡ before ++ steps_from direction es id
both_added id direction es ds before here after a e h k =
    k ∙ ap₂ (λ l m. l ++ steps_by AgainstOthers id m) h e
    ∙ append_assoc before (steps_by Along id es) (steps_by AgainstOthers id es)
    ∙ ap (λ l. before ++ l) (both_ways id es) ∙ ap (λ d. before ++ steps_from d es id) (sym a)

-- ---- the edges of one list after another

sum_both : {X : Type 0} (f : X → ℕ) (xs ys : List X)
    → sum (map f (xs ++ ys)) ≡ sum (map f xs) + sum (map f ys)
sum_both f xs ys = sum-map f (xs ++ ys) ∙ sum_by-append f xs ys
    ∙ ap₂ (λ a b. a + b) (sym (sum-map f xs)) (sym (sum-map f ys))

pub found_both_ways : (id : List ℕ) (es : List Datum) → length (edges_by Along id es)
    + length (edges_by AgainstOthers id es) ≡ edges_found Any es id
found_both_ways id es = sym (sum_both (times_found Any id) (map along (filter (leaves id) es))
    (map against (filter (λ e. enters id e && not (leaves id e)) es)) ∙ found_each_way id es)

crossed : (a b c d : List EdgeStep) → IsPermutation ((a ++ b) ++ (c ++ d)) ((a ++ c) ++ (b ++ d))
crossed a b c d = subst (λ l. IsPermutation l ((a ++ c) ++ (b ++ d))) (split b c)
    (subst (λ l. IsPermutation (a ++ ((b ++ c) ++ d)) l) (split c b)
    (IsPermutation-append_right a _ _ (IsPermutation-append_left d _ _ (IsPermutation-append_comm b c))))
  where
    split : (u v : List EdgeStep) → a ++ ((u ++ v) ++ d) ≡ (a ++ u) ++ (v ++ d)
    split u v = ap (λ l. a ++ l) (append_assoc u v d) ∙ sym (append_assoc a u (v ++ d))

module _ (id : List ℕ) where
  steps_of_both : (p : Datum → Bool) (step : Datum → EdgeStep) (xs ys : List Datum)
      → map step (filter p (xs ++ ys)) ≡ map step (filter p xs) ++ map step (filter p ys)
  steps_of_both p step xs ys =
      ap (map step) (filter-append p xs ys) ∙ map-append step (filter p xs) (filter p ys)

  pub one_after_other : (direction : Direction) (xs ys : List Datum)
      → IsPermutation (steps_from direction (xs ++ ys) id)
      (steps_from direction xs id ++ steps_from direction ys id)
  one_after_other Outbound xs ys = subst (IsPermutation (steps_from Outbound (xs ++ ys) id))
      (steps_of_both (leaves id) along xs ys) (IsPermutation-refl _)
  one_after_other Inbound xs ys = subst (IsPermutation (steps_from Inbound (xs ++ ys) id))
      (steps_of_both (enters id) against xs ys) (IsPermutation-refl _)
  one_after_other Any xs ys = subst (λ l. IsPermutation l (steps_from Any xs id ++ steps_from Any ys id))
      (sym (ap₂ (λ l m. l ++ m) (steps_of_both (leaves id) along xs ys)
      (steps_of_both (λ e. enters id e && not (leaves id e)) against xs ys)))
      (crossed (map along (filter (leaves id) xs)) (map along (filter (leaves id) ys))
      (map against (filter (λ e. enters id e && not (leaves id e)) xs))
      (map against (filter (λ e. enters id e && not (leaves id e)) ys)))

  pub counted_after_other : (direction : Direction) (xs ys : List Datum)
      → edges_found direction (xs ++ ys) id ≡ edges_found direction xs id + edges_found direction ys id
  counted_after_other direction xs ys =
      let f = times_found direction id in
      sum-map f (steps_from direction (xs ++ ys) id)
      ∙ sym (sum_by-IsPermutation f _ _ (one_after_other direction xs ys))
      ∙ sym (sum-map f (steps_from direction xs id ++ steps_from direction ys id))
      ∙ sum_both f (steps_from direction xs id) (steps_from direction ys id)

  pub none_from : (direction : Direction) → steps_from direction [] id ≡ []
  none_from Outbound = refl
  none_from Inbound = refl
  none_from Any = refl

  pub none_found : (direction : Direction) → edges_found direction [] id ≡ 0
  none_found Outbound = refl
  none_found Inbound = refl
  none_found Any = refl

pub one_more_collection : (db : Database) (colls : List CollNo) (i : ℕ) (d : CollNo) → i < length colls
    → edges_in db (numbers (take (i + 1) colls))
    ≡ edges_in db (numbers (take i colls)) ++ documents_of db (get_or colls i d).0
one_more_collection db colls i d below =
    let next : i + 1 ≡ suc i = omega arith in
    let at = get_or colls i d in
    ap (λ k. edges_in db (numbers (take k colls))) next
    ∙ ap (λ l. edges_in db (numbers l)) (take-suc colls i d below)
    ∙ ap (edges_in db) (map-append (λ (c : CollNo). c.0) (take i colls) (at ∷ []))
    ∙ flat_map-append (documents_of db) (numbers (take i colls)) (at.0 ∷ [])
    ∙ ap (λ l. edges_in db (numbers (take i colls)) ++ l) (append-nil (documents_of db at.0))

pub each_has : (P : ℕ → Type 0) (colls : List CollNo) (i : ℕ) (d : CollNo) → AllByRecursion P (numbers colls)
    → i < length colls → P (get_or colls i d).0
each_has P [] i d h below = absurd (omega arith)
each_has P (c ∷ colls) zero d h below = h.0
each_has P (c ∷ colls) (suc i) d h below = each_has P colls i d h.1 (omega (arith, below))

pub steps_after_other : (id : List ℕ) (direction : Direction) (es ds all : List Datum)
    (before after : List EdgeStep) → all ≡ es ++ ds → IsPermutation (steps_from direction es id) before
    → after ≡ before ++ steps_from direction ds id → IsPermutation (steps_from direction all id) after
steps_after_other id direction es ds all before after a p e =
    subst (λ l. IsPermutation (steps_from direction l id) after) (sym a)
    (subst (IsPermutation (steps_from direction (es ++ ds) id)) (sym e)
    (IsPermutation-trans _ _ _ (one_after_other id direction es ds)
    (IsPermutation-append_left (steps_from direction ds id) (steps_from direction es id) before p)))

-- ---- counts

stays : (a b c m : ℕ) → min (min (a + b) m + c) m ≡ min (a + (b + c)) m
stays a b c m = omega arith

more_again : (m n : ℕ) (t : Tally) → found_more n (found_more m t) ≡ found_more (m + n) t
more_again m n t = ap (λ k. record t { scanned_index = k }) (stays t.scanned_index m n (2 ^ 64 - 1))

pub none_more : (t : Tally) (n : ℕ) → n ≡ 0 → t.scanned_index ≤ 18446744073709551615 → t ≡ found_more n t
none_more t n none small =
    let e : t.scanned_index ≡ min (t.scanned_index + 0) (2 ^ 64 - 1) = grind arith in
    ap (λ k. record t { scanned_index = k }) e ∙ ap (λ m. found_more m t) (sym none)

pub one_more_found : (t t' t'' : Tally) (n m : ℕ) → n + 1 ≡ m → t' ≡ found_more n t → t'' ≡ one_found t'
    → t'' ≡ found_more m t
one_more_found t t' t'' n m e h k =
    k ∙ ap one_found h ∙ more_again n 1 t ∙ ap (λ l. found_more l t) e

pub both_found : (t t' t'' : Tally) (m n k : ℕ) → t' ≡ found_more m t → t'' ≡ found_more n t' → m + n ≡ k
    → t'' ≡ found_more k t
both_found t t' t'' m n k h i e = i ∙ ap (found_more n) h ∙ more_again m n t ∙ ap (λ l. found_more l t) e

-- ---- what servers hold

pub still_same : (a b d : Holding) (k : Tally) → b ≡ record a { counts = b.counts }
    → d ≡ record b { counts = k } → d ≡ record a { counts = d.counts }
still_same a b d k h e = e ∙ ap (λ (x : Holding). record x { counts = k }) h
    ∙ ap (λ (n : Tally). record a { counts = n }) (sym (ap (λ (x : Holding). x.counts) e))

-- ---- indexes

-- an edge collection has the index over each end
pub edges_have : (way : Way) (facts : Facts) (coll : ℕ) → IsEdgeCollection facts coll
    → HasIndexBy (near_end way) facts coll
edges_have Along facts coll h = h
edges_have Against facts coll h = h
edges_have AgainstOthers facts coll h = h

-- what a search of that index finds
pub found_by_way : (way : Way) (attribute : SystemAttribute) (id : List ℕ) (w : Dataset) (coll : ℕ)
    (span : Span) → attribute ≡ near_end way
    → spanned (order_by attribute w coll) span
    ≡ filter (λ d. same (at_name d (name_of attribute)) (text id)) (documents_of w.db coll)
    → spanned (order_by (near_end way) w coll) span ≡ edges_by way id (documents_of w.db coll)
found_by_way way attribute id w coll span e h = subst (λ (a : SystemAttribute).
    spanned (order_by a w coll) span ≡ filter (λ d. same (at_name d (name_of a)) (text id))
    (documents_of w.db coll)) e h

pub number_found : (way : Way) (attribute : SystemAttribute) (id : List ℕ) (w : Dataset) (coll : ℕ)
    (span : Span) → attribute ≡ near_end way → IsSpan (length (order_by attribute w coll)) span
    → spanned (order_by attribute w coll) span
    ≡ filter (λ d. same (at_name d (name_of attribute)) (text id)) (documents_of w.db coll)
    → span.to - span.from ≡ length (edges_by way id (documents_of w.db coll))
number_found way attribute id w coll span e within h =
    sym (spanned_length (order_by attribute w coll) span within) ∙ ap length h
    ∙ ap (λ (a : SystemAttribute). length (filter (λ d. same (at_name d (name_of a)) (text id))
    (documents_of w.db coll))) e

-- ---- one edge more

pub one_edge_more : (way : Way) (id : List ℕ) (order : List Datum) (from place : ℕ) (edge : Datum)
    (before here after : List EdgeStep) → from ≤ place
    → here ≡ before ++ flat_map (step_over way id) (take (place - from) (drop from order))
    → slice_get order place ≡ Some edge → after ≡ here ++ step_over way id edge
    → after ≡ before ++ flat_map (step_over way id) (take (place + 1 - from) (drop from order))
one_edge_more way id order from place edge before here after low h at e =
    let f = step_over way id in
    e ∙ ap (λ l. l ++ f edge) h
    ∙ append_assoc before (flat_map f (take (place - from) (drop from order))) (f edge)
    ∙ ap (λ l. before ++ l) (sym (one_place_more f order from place edge low at))
