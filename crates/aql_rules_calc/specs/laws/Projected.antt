-- Documents of which only what is used is kept.
use Rattle.std.proofs.Common.{◌≡◌, ◌∙◌, inl, inr, ℕ, ◌+◌, ◌<◌, ◌≤◌, List, [], ◌∷◌, ◌++◌, map, length, append-nil, Bool, true, false, true≢false, cond, refl, ap, ap₂, sym, subst, arith}
use Rattle.std.specs.Prelude.{Option, Some, None, filter, fold, unwrap_or, option_map, bytes_eq, slice_get, MatchOption}
use Rattle.std.specs.List.{AllZip, AllByRecursion, list_any, list_all}
use Rattle.std.specs.declared.cmp.Ordering.{Ordering}
use Rattle.std.specs.declared.cmp.Ordering.TheVariants.{Less, Equal, Greater}
use Rattle.std.specs.Ordering.{nat_cmp, is_eq, match_ordering}
use Rattle.std.specs.Cmp.Lexicographic.{slice_cmp}
use Rattle.std.proofs.lemmas.Bool.{or_cases, or_left, or_right, and_from, or_parts}
use Rattle.std.proofs.lemmas.Map.Text.{is_eq-slice_cmp}
use Rattle.std.proofs.lemmas.Slice.Eq.{bytes_eq-Decides}
use Rattle.aql_value.specs.Datum.{Datum, null}
use Rattle.aql_value.specs.Contents.{at_name, attributes}
use Rattle.aql_value.specs.Attributes.{attribute}
use Rattle.aql_value.specs.laws.Lists.{fields_list-object_of}
use Rattle.aql_tree.specs.declared.syntax.Ident.{Ident}
use Rattle.aql_tree.specs.declared.syntax.Ident.TheVariants.{Num}
use Rattle.aql_tree.specs.Tree.{ExprTree, variable, ExprTrees}
use Rattle.aql_meaning.specs.AtRows.{passes}
use Rattle.aql_meaning.specs.Clauses.{with_each}
use Rattle.aql_meaning.specs.Documents.{Last, projection, documents_kept, Scanned, InIndexOrder, ScannedInOrder}
use Rattle.aql_meaning.specs.Substitution.{put}
use Rattle.aql_meaning.specs.Row.{Row, bind, same_ident}
use Rattle.aql_meaning.specs.Uses.{Use, Whole, Attribute, Uses, AgreeAt, Agree}
use Rattle.aql_meaning.specs.laws.Shuffles.{alike_permutation}
use Rattle.aql_plan.specs.declared.facts.Facts.{Facts}
use Rattle.aql_plan.specs.declared.facts.IndexFact.{IndexFact}
use Rattle.aql_plan.specs.Facts.{indexes_in, attributes_in}
use Rattle.aql_plan.specs.Fits.{Fits, IndexFits, KeepsOrder, exprs_in}
use Rattle.aql_plan.specs.Exprs.{map_plan, map_node}
use Rattle.aql_plan.specs.Needs.{result_uses}
use Rattle.aql_plan.specs.Plan.{Reading, Plan, Singleton, Over, Node, EnumerateCollection, Index, Subquery, top}
use Rattle.aql_plan.specs.Refines.{dataset}
use Rattle.aql_plan.specs.Runs.{Dataset, Outside, read, read_in_bounds, Indexed}
use Rattle.aql_plan.specs.Shapes.{plain_rows, ordered_rows, lowest, lowest_in_order, other_reading, passing, KeepsShape}
use Rattle.aql_meaning.specs.laws.Idents.{same_self}
use Rattle.aql_plan_laws.specs.laws.Lists.{append_related}
use Rattle.aql_plan_laws.specs.laws.Projections.{among, IsCovered, own_agree, kept_agree}
use Rattle.aql_rewrite.specs.declared.swap.Rename.{Rename}
use Rattle.aql_rewrite.specs.Places.{renamed_by, Stays, First}
use Rattle.aql_rewrite.specs.Placed.{IsWhole, Placed}
use Rattle.aql_rewrite.specs.Swaps.{Replaced, KeepsPlaced}
use Rattle.aql_rewrite.specs.laws.Carried.{Lowers, Lifts, first_lowers}
use Rattle.aql_rewrite.specs.laws.PlacedBelow.{whole_placed}
use Rattle.aql_rules_calc.specs.Projections.{AreAdded, AreKept, order_of, where_whole, read_whole, node_with_attrs, with_attrs}
use Rattle.aql_rules_calc.specs.ReduceExtractionToProjection.{is_whole, used_whole, with_name, with_use, names_used, order_uses, keeping, Reduces, enumeration, by_index}
use Rattle.aql_rules_calc.specs.Measures.{reads_whole, whole_readers, readers_in}
use Rattle.aql_rewrite.specs.Changed.{Changes}

-- ---- each name that is used is kept

abbrev same_name : (name : List ℕ) → bytes_eq name name ≡ true
same_name name = (bytes_eq-Decides name name).1 refl

-- a name stays, and the new one is there
stays_among : (n name : List ℕ) (names : List (List ℕ)) → among names n ≡ true
    → among (with_name names name) n ≡ true
stays_among n name [] h = absurd (true≢false (sym h))
stays_among n name (m ∷ names) h = by (slice_cmp nat_cmp name m) (stays_among n name names)
  where
    by : (o : Ordering) → (among names n ≡ true → among (with_name names name) n ≡ true)
        → among (match_ordering o (name ∷ m ∷ names) (m ∷ names) (m ∷ with_name names name)) n ≡ true
    by Less f = or_right (bytes_eq n name) (among (m ∷ names) n) h
    by Equal f = h
    by Greater f = elim (or_cases (bytes_eq n m) (among names n) h) [
      | inl g ↦ or_left (bytes_eq n m) (among (with_name names name) n) g
      | inr g ↦ or_right (bytes_eq n m) (among (with_name names name) n) (f g)
    ]

new_among : (name : List ℕ) (names : List (List ℕ)) → among (with_name names name) name ≡ true
new_among name [] = or_left (bytes_eq name name) false (same_name name)
new_among name (m ∷ names) = by (slice_cmp nat_cmp name m) refl (new_among name names)
  where
    by : (o : Ordering) → slice_cmp nat_cmp name m ≡ o → among (with_name names name) name ≡ true
        → among (match_ordering o (name ∷ m ∷ names) (m ∷ names) (m ∷ with_name names name)) name ≡ true
    by Less e h = or_left (bytes_eq name name) (among (m ∷ names) name) (same_name name)
    by Equal e h = or_left (bytes_eq name m) (among names name) (sym (is_eq-slice_cmp name m) ∙ ap is_eq e)
    by Greater e h = or_right (bytes_eq name m) (among (with_name names name) name) h

stays_with_use : (x : Ident) (n : List ℕ) (u : Use) (names : List (List ℕ)) → among names n ≡ true
    → among (with_use x names u) n ≡ true
stays_with_use x n (Whole y) names h = h
stays_with_use x n (Attribute y name) names h = by (same_ident x y)
  where
    by : (b : Bool) → among (cond b (with_name names name) names) n ≡ true
    by true = stays_among n name names h
    by false = h

stays_with_uses : (x : Ident) (n : List ℕ) (us : Uses) (names : List (List ℕ)) → among names n ≡ true
    → among (fold (with_use x) names us) n ≡ true
stays_with_uses x n [] names h = h
stays_with_uses x n (u ∷ us) names h =
    stays_with_uses x n us (with_use x names u) (stays_with_use x n u names h)

covered : (x : Ident) (us : Uses) (before : List (List ℕ)) → used_whole x us ≡ false
    → AllByRecursion (IsCovered x (fold (with_use x) before us)) us
covered x [] before h = tt
covered x (u ∷ us) before h =
    let k = or_parts (is_whole x u) (used_whole x us) h in
    (first u k.0, covered x us (with_use x before u) k.1)
  where
    first : (u : Use) → is_whole x u ≡ false → IsCovered x (fold (with_use x) (with_use x before u) us) u
    first (Whole y) h = h
    first (Attribute y name) h = λ e.
        stays_with_uses x name us (cond (same_ident x y) (with_name before name) before)
        (subst (λ (b : Bool). among (cond b (with_name before name) before) name ≡ true) (sym e)
        (new_among name before))

covered_front : (x : Ident) (names : List (List ℕ)) (us vs : Uses)
    → AllByRecursion (IsCovered x names) (us ++ vs) → AllByRecursion (IsCovered x names) us
covered_front x names [] vs h = tt
covered_front x names (u ∷ us) vs h = (h.0, covered_front x names us vs h.1)

covered_back : (x : Ident) (names : List (List ℕ)) (us vs : Uses)
    → AllByRecursion (IsCovered x names) (us ++ vs) → AllByRecursion (IsCovered x names) vs
covered_back x names [] vs h = h
covered_back x names (u ∷ us) vs h = covered_back x names us vs h.1

-- ---- the documents of each row

module _ (x : Ident) (names : List (List ℕ)) (us : Uses) (cover : AllByRecursion (IsCovered x names) us) where
  abbrev OfRow : List (List ℕ) → Bool → (Row → Bool) → Option (List (List ℕ)) → (Row → List Datum)
      → Row → List Datum → Type 0
  OfRow order descending pass attrs reads row list = (sorted : List Datum)
      × InIndexOrder order descending (reads row) sorted × (list ≡ documents_kept x pass attrs row sorted)

  lists_agree : (order : List (List ℕ)) (descending : Bool) (pass : Row → Bool) (reads : Row → List Datum)
      → (rows : List Row) (lists : List (List Datum))
      → AllZip (OfRow order descending pass (Some names) reads) rows lists
      → (others : List (List Datum)) × AllZip (OfRow order descending pass None reads) rows others
      × AllZip (Agree us) (with_each (bind x) rows lists) (with_each (bind x) rows others)
  lists_agree order descending pass reads [] [] h = ([], tt, tt)
  lists_agree order descending pass reads [] (ds ∷ lists) h = absurd h
  lists_agree order descending pass reads (row ∷ rows) [] h = absurd h
  lists_agree order descending pass reads (row ∷ rows) (ds ∷ lists) h =
      let sorted = h.0.0 in
      let k = lists_agree order descending pass reads rows lists h.1 in
      let own = documents_kept x pass None row sorted in (
        own ∷ k.0,
        ((sorted, h.0.1, refl), k.1),
        append_related (Agree us) (map (bind x row) ds) (map (bind x row) own) _ _
            (subst (λ (es : List Datum). AllZip (Agree us) (map (bind x row) es) (map (bind x row) own))
            (sym h.0.2) (own_agree x names us cover row (filter (λ d. pass (bind x row d)) sorted))) k.2,
      )

-- ---- the lists are the same in what is used

scanned_agree : (us : Uses) (x : Ident) (names : List (List ℕ)) → AllByRecursion (IsCovered x names) us
    → (pass : Row → Bool) (reads : Row → List Datum) (attrs : Option (List (List ℕ))) → attrs ≡ None
    → (rows out : List Row) → Scanned x pass (Some names) reads rows out
    → (other : List Row) × Scanned x pass attrs reads rows other × AllZip (Agree us) out other
scanned_agree us x names cover pass reads attrs whole rows out g =
    subst (λ (kept : Option (List (List ℕ))). (other : List Row) × Scanned x pass kept reads rows other
    × AllZip (Agree us) out other) (sym whole)
    (alike_permutation (Agree us)
    (with_each (bind x) rows (map (λ row. documents_kept x pass (Some names) row (reads row)) rows)) out
    (with_each (bind x) rows (map (λ row. documents_kept x pass None row (reads row)) rows)) g
    (kept_agree x names us cover pass reads rows))

in_order_agree : (us : Uses) (x : Ident) (names : List (List ℕ)) → AllByRecursion (IsCovered x names) us
    → (order : List (List ℕ)) (descending : Bool) (pass : Row → Bool) (reads : Row → List Datum)
    → (attrs : Option (List (List ℕ))) → attrs ≡ None → (rows out : List Row)
    → ScannedInOrder order descending x pass (Some names) reads rows out
    → (other : List Row) × ScannedInOrder order descending x pass attrs reads rows other
    × AllZip (Agree us) out other
in_order_agree us x names cover order descending pass reads attrs whole rows out g =
    let k = lists_agree x names us cover order descending pass reads rows g.0 g.1 in
    subst (λ (kept : Option (List (List ℕ))). (other : List Row)
    × ScannedInOrder order descending x pass kept reads rows other × AllZip (Agree us) out other)
    (sym whole) (
      with_each (bind x) rows k.0,
      (k.0, k.1, refl),
      subst (λ (o : List Row). AllZip (Agree us) o (with_each (bind x) rows k.0)) (sym g.2) k.2,
    )

indexed_agree : (us : Uses) (w : Dataset) (x : Reading) (names : List (List ℕ)) → x.attrs ≡ None
    → AllByRecursion (IsCovered x.var names) us
    → (index : ℕ) (equal : ExprTrees) (last : Last ExprTree) (ordered : Option Bool) (rows out : List Row)
    → Indexed w Outside (keeping names x) index equal last ordered rows out
    → (other : List Row) × Indexed w Outside x index equal last ordered rows other
    × AllZip (Agree us) out other
indexed_agree us w x names whole cover index equal last None rows out g =
    scanned_agree us x.var names cover (passes x.filter) (read_in_bounds w Outside x index equal last) x.attrs
    whole rows out g
indexed_agree us w x names whole cover index equal last (Some descending) rows out g =
    in_order_agree us x.var names cover (attributes_in w.facts x.coll index) descending (passes x.filter)
    (read_in_bounds w Outside x index equal last) x.attrs whole rows out g

pub reduces_refine : (facts : Facts) (us : Uses) (p q : Plan) (r : Option Rename) → Reduces facts us p q r
    → Replaced false facts us p q r
reduces_refine facts _ _ _ _ (enumeration {us = us} {x = x} h) = λ db meets start out g.
    let k = scanned_agree us x.var (names_used x.var us) (covered x.var us [] h.1) (passes x.filter)
    (λ row. read (dataset facts db) x.coll x.shard Outside) x.attrs h.0 g.0 out g.2 in
    (k.0, (g.0, g.1, k.1), k.2)
reduces_refine facts _ _ _ _
    (by_index {us = us} {x = x} {index = index} {equal = equal} {last = last} {ordered = ordered} h) =
    λ db meets start out g.
    let vs = us ++ order_uses facts x index ordered in
    let names = names_used x.var vs in
    let cover = covered_front x.var names us (order_uses facts x index ordered) (covered x.var vs [] h.1) in
    let k = indexed_agree us (dataset facts db) x names h.0 cover index equal last ordered g.0 out g.2 in
    (k.0, (g.0, g.1, k.1), k.2)

-- ---- a well-formed plan stays so

-- the attributes that count as looked at are kept
order_kept : (x : Ident) (names : List (List ℕ)) (order : List (List ℕ)) → same_ident x x ≡ true
    → AllByRecursion (IsCovered x names) (map (λ name. Attribute x name) order)
    → list_all (λ a. list_any (bytes_eq a) names) order ≡ true
order_kept x names [] e h = refl
order_kept x names (n ∷ order) e h =
    and_from (list_any (bytes_eq n) names) (list_all (λ a. list_any (bytes_eq a) names) order) (h.0 e)
    (order_kept x names order e h.1)

keeps_order : (facts : Facts) (x : Reading) (index : ℕ) (names : List (List ℕ)) (ordered : Option Bool)
    (i : IndexFact)
    → slice_get (indexes_in facts x.coll) index ≡ Some i
    → AllByRecursion (IsCovered x.var names) (order_uses facts x index ordered)
    → KeepsOrder i.attributes (Some names) ordered
keeps_order facts x index names None i e h = tt
keeps_order facts x index names (Some descending) i e h =
    subst (λ (order : List (List ℕ)). list_all (λ a. list_any (bytes_eq a) names) order ≡ true)
    (ap (λ (o : Option IndexFact). unwrap_or (option_map (λ (i : IndexFact). i.attributes) o) []) e)
    (order_kept x.var names (attributes_in facts x.coll index) (same_self x.var) h)

module _ (facts : Facts) (x : Reading) (names : List (List ℕ)) (index : ℕ) (equal : ExprTrees)
    (last : Last ExprTree) (ordered : Option Bool)
    (cover : AllByRecursion (IsCovered x.var names) (order_uses facts x index ordered)) where
  index_fits : Fits facts (Index x index equal last ordered)
      → Fits facts (Index (keeping names x) index equal last ordered)
  index_fits f = (f.0, f.1, f.2, f.3, by (slice_get (indexes_in facts x.coll) index) refl f.4)
    where
      by : (o : Option IndexFact) → slice_get (indexes_in facts x.coll) index ≡ o
          → MatchOption o ⊥ (λ i. IndexFits i x (exprs_in equal) last ordered)
          → MatchOption o ⊥ (λ i. IndexFits i (keeping names x) (exprs_in equal) last ordered)
      by None e h = h
      by (Some i) e h = (h.0, h.1, keeps_order facts x index names ordered i e cover)

scan_shape : (facts : Facts) (b : Plan) (x : Reading) (names : List (List ℕ))
    → KeepsShape false facts (Over b (EnumerateCollection (keeping names x))) (Over b (EnumerateCollection x))
scan_shape facts b x names s o (plain_rows i f h) = plain_rows i f h
scan_shape facts b x names s o (lowest i f h) = absurd (true≢false o)
scan_shape facts b x names s o (other_reading i f h) = absurd (true≢false o)
scan_shape facts b x names s o (passing i f h) = absurd i

index_shape : (facts : Facts) (b : Plan) (x : Reading) (names : List (List ℕ)) (index : ℕ) (equal : ExprTrees)
    (last : Last ExprTree) (ordered : Option Bool)
    → AllByRecursion (IsCovered x.var names) (order_uses facts x index ordered)
    → KeepsShape false facts (Over b (Index (keeping names x) index equal last ordered))
    (Over b (Index x index equal last ordered))
index_shape facts b x names index equal last None cover s o (plain_rows i f h) =
    plain_rows i (index_fits facts x names index equal last None cover f) h
index_shape facts b x names index equal last (Some descending) cover s o (plain_rows i f h) = absurd i
index_shape facts b x names index equal last (Some descending) cover s o (ordered_rows e f h) =
    ordered_rows e (index_fits facts x names index equal last (Some descending) cover f) h
index_shape facts b x names index equal last ordered cover s o (lowest i f h) = absurd (true≢false o)
index_shape facts b x names index equal last ordered cover s o (lowest_in_order e f h) = absurd (true≢false o)
index_shape facts b x names index equal last ordered cover s o (other_reading i f h) = absurd (true≢false o)
index_shape facts b x names index equal last ordered cover s o (passing i f h) = absurd i

pub reduces_keep : (facts : Facts) (outer away : List Ident) (us : Uses) (p q : Plan) (r : Option Rename)
    → Placed false false facts outer away us p → Reduces facts us p q r
    → KeepsPlaced false false facts outer us p q r
reduces_keep facts outer away _ _ _ _ placed (enumeration {us = us} {b = b} {x = x} h) = record {
  suits = placed.suits;
  shape = scan_shape facts b x (names_used x.var us);
  found = placed.found;
  vars = λ z g m. m;
  fewer = λ z. omega arith;
}
reduces_keep facts outer away _ _ _ _ placed
    (by_index {us = us} {b = b} {x = x} {index = index} {equal = equal} {last = last} {ordered = ordered} h) =
    let vs = us ++ order_uses facts x index ordered in
    let names = names_used x.var vs in record {
      suits = placed.suits;
      shape = index_shape facts b x names index equal last ordered
          (covered_back x.var names us (order_uses facts x index ordered) (covered x.var vs [] h.1));
      found = placed.found;
      vars = λ z g m. m;
      fewer = λ z. omega arith;
    }

-- ---- the pass ends

module _ (f : ExprTree → ExprTree) where
  mutual
    readers_mapped : (p : Plan) → whole_readers (map_plan f p) ≡ whole_readers p
    readers_mapped Singleton = refl
    readers_mapped (Over b n) = ap₂ (λ i k. i + k) (readers_mapped b) (node_mapped n)

    node_mapped : (n : Node) → readers_in (map_node f n) ≡ readers_in n
    node_mapped (Subquery x s) = readers_mapped s
    node_mapped n = refl

node_renamed : (n : Node) (r : Option Rename) → readers_in (renamed_by r n) ≡ readers_in n
node_renamed n None = refl
node_renamed n (Some r) = node_mapped (put (Num r.from) (variable (Num r.to))) n

readers_lift : Lifts whole_readers whole_readers
readers_lift = record {
  over = λ b c n r h. record {
    falls = omega (arith, h.falls, node_renamed n r);
    stays = omega (arith, h.stays, node_renamed n r);
  };
  with = λ b s t x h. record { falls = omega (arith, h.falls); stays = omega (arith, h.stays) };
}

one_less : (a : Option (List (List ℕ))) (names : List (List ℕ)) → a ≡ None → (n : ℕ)
    → (n + reads_whole (Some names) < n + reads_whole a) × (n + reads_whole (Some names) ≤ n + reads_whole a)
one_less None names h n = (omega arith, omega arith)
one_less (Some others) names h n = cc

reduces_lower : (facts : Facts) (us : Uses) (p q : Plan) (r : Option Rename) → Reduces facts us p q r
    → Lowers whole_readers whole_readers p q
reduces_lower facts _ _ _ _ (enumeration {us = us} {b = b} {x = x} h) =
    let k = one_less x.attrs (names_used x.var us) h.0 (whole_readers b) in
    record { falls = k.0; stays = k.1 }
reduces_lower facts _ _ _ _ (by_index {us = us} {b = b} {x = x} {index = index} {ordered = ordered} h) =
    let names = names_used x.var (us ++ order_uses facts x index ordered) in
    let k = one_less x.attrs names h.0 (whole_readers b) in
    record { falls = k.0; stays = k.1 }

pub reduces_fall : (facts : Facts) (p q : Plan) (r : Option Rename) → IsWhole false facts p
    → First (Reduces facts) false result_uses p q r → whole_readers q < whole_readers p
reduces_fall facts p q r whole h =
    (first_lowers false facts (Reduces facts) whole_readers whole_readers readers_lift
    (λ outer away us p q r placed k. reduces_lower facts us p q r k) h [] []
    (whole_placed false facts p whole)).falls

-- ---- the top node alone is changed, once for all

module _ (facts : Facts) (us : Uses) (b : Plan) (names : List (List ℕ)) where
  scan_once : (x : Reading) → x.attrs ≡ Some names → Stays (Reduces facts) us (Over b (EnumerateCollection x))
  scan_once x e _ _ (enumeration g) = let h = g.0 in cc

  index_once : (x : Reading) (index : ℕ) (equal : ExprTrees) (last : Last ExprTree) (ordered : Option Bool)
      → x.attrs ≡ Some names → Stays (Reduces facts) us (Over b (Index x index equal last ordered))
  index_once x index equal last ordered e _ _ (by_index g) = let h = g.0 in cc

same_input : (b d : Plan) (n m : Node) → Over b n ≡ Over d n → Over b m ≡ Over d m
same_input b d n m e = let k : b ≡ d = cc in ap (λ (o : Plan). Over o m) k

pub reduces_changes : (facts : Facts) (us : Uses) (p q : Plan) (r : Option Rename) → Reduces facts us p q r
    → Changes (Reduces facts) us p q r
reduces_changes facts _ _ _ _ (enumeration {us = us} {b = b} {x = x} h) =
    let y = keeping (names_used x.var us) x in record {
      nameless = refl;
      input = λ d e. same_input b d (EnumerateCollection x) (EnumerateCollection y) e;
      bare = (refl, refl);
      inside = refl;
      uses = λ vs. refl;
      needed = λ vs. refl;
      once = scan_once facts us b (names_used x.var us) y refl;
    }
reduces_changes facts _ _ _ _
    (by_index {us = us} {b = b} {x = x} {index = index} {equal = equal} {last = last} {ordered = ordered} h) =
    let names = names_used x.var (us ++ order_uses facts x index ordered) in
    let y = keeping names x in record {
      nameless = refl;
      input = λ d e. same_input b d (Index x index equal last ordered) (Index y index equal last ordered) e;
      bare = (refl, refl);
      inside = refl;
      uses = λ vs. refl;
      needed = λ vs. refl;
      once = index_once facts us b names y index equal last ordered refl;
    }

-- ---- what the rule finds

module _ (facts : Facts) (us : Uses) (b : Plan) where
  -- what is used above, and the attributes of an order
  abbrev asked : Ident → List (List ℕ) → Uses
  asked x order = us ++ map (λ name. Attribute x name) order

  -- what is read whole, and what is said of its variable and its order
  found : (attrs : Option (List (List ℕ))) (y x : Ident) (own order : List (List ℕ))
      → where_whole attrs y own ≡ Some (x, order)
      → (attrs ≡ None) × ((P : Ident → Uses → Type 0) → P x (asked x order) → P y (asked y own))
  found None y x own order h = (
    refl,
    λ P k. subst (λ (o : Option (Ident × List (List ℕ))).
        P (unwrap_or o (x, order)).0 (asked (unwrap_or o (x, order)).0 (unwrap_or o (x, order)).1)) (sym h) k,
  )
  found (Some names) y x own order h = cc

  order_asked : (x : Reading) (index : ℕ) (ordered : Option Bool)
      → asked x.var (order_of facts x.coll index ordered) ≡ us ++ order_uses facts x index ordered
  order_asked x index None = refl
  order_asked x index (Some descending) = refl

  -- where the names may not be kept
  scan_stays : (x : Reading) (names : List (List ℕ)) → AreAdded false [] x.var us names
      → Stays (Reduces facts) us (Over b (EnumerateCollection x))
  scan_stays x names k _ _ (enumeration g) = k g.1 g.2

  index_stays : (x : Reading) (index : ℕ) (equal : ExprTrees) (last : Last ExprTree) (ordered : Option Bool)
      (names : List (List ℕ)) → AreAdded false [] x.var (us ++ order_uses facts x index ordered) names
      → Stays (Reduces facts) us (Over b (Index x index equal last ordered))
  index_stays x index equal last ordered names k _ _ (by_index g) = k g.1 g.2

  node_stays : (n : Node) (x : Ident) (order names : List (List ℕ)) → read_whole facts n ≡ Some (x, order)
      → AreAdded false [] x (asked x order) names → Stays (Reduces facts) us (Over b n)
  node_stays (EnumerateCollection y) x order names h k = scan_stays y names
      (subst (λ (vs : Uses). AreAdded false [] y.var vs names) (append-nil us)
      ((found y.attrs y.var x [] order h).1 (λ z vs. AreAdded false [] z vs names) k))
  node_stays (Index y index equal last ordered) x order names h k =
      index_stays y index equal last ordered names
      (subst (λ (vs : Uses). AreAdded false [] y.var vs names) (order_asked y index ordered)
      ((found y.attrs y.var x (order_of facts y.coll index ordered) order h).1
      (λ z vs. AreAdded false [] z vs names) k))
  node_stays n x order names h k = cc

  -- where they may
  node_reduced : (n : Node) (x : Ident) (order names : List (List ℕ)) → read_whole facts n ≡ Some (x, order)
      → AreAdded true [] x (asked x order) names
      → Reduces facts us (Over b n) (Over b (node_with_attrs names n)) None
  node_reduced (EnumerateCollection y) x order names h k =
      let e = found y.attrs y.var x [] order h in
      let l = subst (λ (vs : Uses). AreAdded true [] y.var vs names) (append-nil us)
      (e.1 (λ z vs. AreAdded true [] z vs names) k) in
      subst (λ (ns : List (List ℕ)).
      Reduces facts us (Over b (EnumerateCollection y)) (Over b (EnumerateCollection (keeping ns y))) None)
      (sym l.0) (enumeration (e.0, l.1, subst (λ (ns : List (List ℕ)). length ns ≤ 5) l.0 l.2))
  node_reduced (Index y index equal last ordered) x order names h k =
      let e = found y.attrs y.var x (order_of facts y.coll index ordered) order h in
      let l = subst (λ (vs : Uses). AreAdded true [] y.var vs names) (order_asked y index ordered)
      (e.1 (λ z vs. AreAdded true [] z vs names) k) in
      subst (λ (ns : List (List ℕ)). Reduces facts us (Over b (Index y index equal last ordered))
      (Over b (Index (keeping ns y) index equal last ordered)) None)
      (sym l.0) (by_index (e.0, l.1, subst (λ (ns : List (List ℕ)). length ns ≤ 5) l.0 l.2))
  node_reduced n x order names h k = cc

pub kept_reduces : (facts : Facts) (us : Uses) (p : Plan) (x : Ident) (order : List (List ℕ))
    (kept : Option (List (List ℕ))) → read_whole facts (top p) ≡ Some (x, order)
    → AreKept kept x (us ++ map (λ name. Attribute x name) order)
    → MatchOption kept (Stays (Reduces facts) us p) (λ names. Reduces facts us p (with_attrs names p) None)
kept_reduces facts us Singleton x order kept h k = cc
kept_reduces facts us (Over b n) x order None h k = node_stays facts us b n x order [] h k
kept_reduces facts us (Over b n) x order (Some names) h k = node_reduced facts us b n x order names h k
