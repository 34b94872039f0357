-- What the program finds of the one shard of a fragment.
use Rattle.std.proofs.Common.{◌≡◌, ◌∙◌, ◌≤◌, ℕ, List, [], ◌∷◌, Bool, true, false, true≢false, Option, Some, None, ◌+◌, ◌<◌, ◌++◌, zero, suc, length, drop, get_or, append_assoc, refl, sym, ap, ap₂, subst, arith}
use Rattle.std.specs.Prelude.{IsTrue, ◌↔◌, ◌==◌}
use Rattle.std.proofs.lemmas.Bool.{eqb-true}
use Rattle.std.proofs.lemmas.List.{at_drop_more}
use Rattle.aql_value.specs.Datum.{Datum}
use Rattle.aql_tree.specs.declared.syntax.Expr.{Expr}
use Rattle.aql_tree.specs.Tree.{ExprTree, ExprTrees, no_exprs, expr_then}
use Rattle.aql_tree.specs.View.{tree}
use Rattle.aql_meaning.specs.AtRows.{keys_of}
use Rattle.aql_meaning.specs.Plain.{IsPlain, AllPlain}
use Rattle.aql_meaning.specs.Row.{empty_row}
use Rattle.aql_meaning.specs.Uses.{Uses}
use Rattle.aql_plan.specs.declared.facts.Facts.{Facts}
use Rattle.aql_plan.specs.Facts.{shards_in}
use Rattle.aql_plan.specs.Plan.{Plan, Over, Node, EnumerateCollection, Index, Scatter, Distribute, top}
use Rattle.aql_plan.specs.View.{expr_trees}
use Rattle.aql_rewrite.specs.Places.{Stays}
use Rattle.aql_rules_calc.specs.SimplifyConditions.{constant_value}
use Rattle.aql_rules_index.specs.Choice.{Item}
use Rattle.aql_rules_cluster.specs.declared.key_items.Wanted.{Wanted}
use Rattle.aql_rules_cluster.specs.declared.key_items.Wanted.TheVariants.{Apart}
use Rattle.aql_rules_cluster.specs.FragmentParts.{ReadsHere}
use Rattle.aql_rules_cluster.specs.KeyItems.{FirstFor, here, later, FirstForEach, GivesKeys}
use Rattle.aql_rules_cluster.specs.RestrictToSingleShard.{TakesToAll, all_rows, sent_rows, none_of_none, Narrows, Restricts}
use Rattle.aql_rules_cluster.specs.inner.Bottoms.{Bottom, gathered_bottom, reads_here, with_foot}
use Rattle.aql_rules_cluster.specs.inner.Distributions.{scattered}
use Rattle.aql_rules_cluster.specs.inner.KeyItems.{IsFound}
use Rattle.aql_rules_cluster.specs.inner.SingleShards.{Sending, distribution, IsShardOf, NarrowsAt}
use Rattle.aql_rules_cluster.specs.laws.Bottoms.{reads_is, reader_seen}
use Rattle.aql_rules_cluster.specs.laws.RestrictPlaces.{finds, made_at}

-- ---- lists of expressions

pub none_same : (a b : List Expr) → length a ≡ 0
    → IsTrue (length b == 0) ↔ (AllPlain (expr_trees a) × (expr_trees a ≡ expr_trees b))
none_same [] [] h = ((λ t. (tt, refl)), (λ k. refl))
none_same [] (y ∷ b) h = (
  (λ t. absurd (let e = eqb-true (length (y ∷ b)) 0 t in omega (arith, e))),
  (λ k. absurd (let e = k.1 in cc)),
)
none_same (x ∷ a) b h = absurd (omega (arith, h))

pub plain_at : (es : List Expr) (n : ℕ) (e : Expr) → AllPlain (expr_trees es) → n < length es
    → e ≡ get_or es n e → IsPlain (tree e)
plain_at [] n e h within at = absurd (omega (arith, within))
plain_at (x ∷ es) zero e h within at = subst (λ (y : Expr). IsPlain (tree y)) (sym at) h.0
plain_at (x ∷ es) (suc n) e h within at = plain_at es n e h.1 (omega (arith, within)) at

pub one_more : (es : List Expr) (n : ℕ) (e : Expr) (old new : List Datum) (v : Datum)
    → old ++ keys_of (expr_trees (drop n es)) empty_row ≡ keys_of (expr_trees es) empty_row → n < length es
    → e ≡ get_or es n e → v ≡ constant_value (tree e) → new ≡ old ++ v ∷ []
    → new ++ keys_of (expr_trees (drop (n + 1) es)) empty_row ≡ keys_of (expr_trees es) empty_row
one_more es n e old new v so_far within at is grown =
    let values = λ (xs : List Expr). keys_of (expr_trees xs) empty_row in
    let more = keys_of (expr_trees (drop (n + 1) es)) empty_row in
    ap (λ (ds : List Datum). ds ++ more) grown ∙ append_assoc old (v ∷ []) more
    ∙ ap (λ (d : Datum). old ++ d ∷ more) is
    ∙ sym (ap (λ (ds : List Datum). old ++ ds) (at_drop_more values es n e within
    ∙ ap (λ (x : Expr). values (x ∷ drop (n + 1) es)) (sym at)))
    ∙ so_far

-- ---- the expressions that give the shard keys, once

module _ (W : ExprTree → Type 0) where
  first_once : (key : List ℕ) (is : List Item) (e f : ExprTree) → FirstFor W key is e → FirstFor W key is f
      → e ≡ f
  first_once key _ _ _ (here g) (here h) = refl
  first_once key _ _ _ (here g) (later n h) = absurd (n g)
  first_once key _ _ _ (later n h) (here g) = absurd (n g)
  first_once key _ _ _ (later {is = is} {e = e} n h) (later {e = f} m k) = first_once key is e f h k

  each_once : (is : List Item) (keys : List (List ℕ)) (es fs : ExprTrees) → FirstForEach W is keys es
      → FirstForEach W is keys fs → es ≡ fs
  each_once is [] no_exprs no_exprs h k = refl
  each_once is [] no_exprs (expr_then f fs) h k = absurd k
  each_once is [] (expr_then e es) fs h k = absurd h
  each_once is (key ∷ keys) no_exprs fs h k = absurd h
  each_once is (key ∷ keys) (expr_then e es) no_exprs h k = absurd k
  each_once is (key ∷ keys) (expr_then e es) (expr_then f fs) h k =
      ap₂ expr_then (first_once key is e f h.0 k.0) (each_once is keys es fs h.1 k.1)

module _ (facts : Facts) (n : Node) where
  given_once : (wanted : Wanted) (m : Node) (es fs : ExprTrees) → GivesKeys facts wanted m es
      → GivesKeys facts wanted m fs → es ≡ fs
  given_once wanted (EnumerateCollection x) es fs h k = each_once _ _ _ es fs h k
  given_once wanted (Index x index equal last ordered) es fs h k = each_once _ _ _ es fs h k
  given_once wanted m es fs h k = absurd h

  -- ---- the foot of a fragment

  pub are_items : (answer : Bool) (es found : ExprTrees) → IsTrue answer ↔ (AllPlain es × (es ≡ found))
      → GivesKeys facts Apart n found → IsTrue answer ↔ (AllPlain es × GivesKeys facts Apart n es)
  are_items answer es found h given = (
    (λ t. ((h.0 t).0, subst (GivesKeys facts Apart n) (sym (h.0 t).1) given)),
    (λ k. h.1 (k.0, given_once Apart n es found k.1 given)),
  )

  pub no_items : (es : ExprTrees) → ((found : ExprTrees) → GivesKeys facts Apart n found → ⊥)
      → IsTrue false ↔ (AllPlain es × GivesKeys facts Apart n es)
  no_items es none = ((λ t. absurd (true≢false (sym t))), (λ k. absurd (none es k.1)))

  takes_once : (c d : ℕ) (foot : Node) → TakesToAll facts c n foot → TakesToAll facts d n foot → c ≡ d
  takes_once c d _ all_rows all_rows = refl
  takes_once c d _ (sent_rows p g) (sent_rows q h) = refl

  module _ (m : Node) where
    pub all_taken : (coll : ℕ) → Some coll ≡ scattered m → TakesToAll facts coll n m
    all_taken coll e = by m e
      where
        by : (k : Node) → Some coll ≡ scattered k → TakesToAll facts coll n k
        by (Scatter c None) e = let same : c ≡ coll = cc in
            subst (λ (d : ℕ). TakesToAll facts d n (Scatter c None)) same all_rows
        by k e = absurd (cc)

    pub sent_taken : (d : Sending) → Some d ≡ distribution m
        → AllPlain d.exprs × GivesKeys facts Apart n d.exprs → TakesToAll facts d.coll n m
    sent_taken d e k = by m e
      where
        by : (k : Node) → Some d ≡ distribution k → TakesToAll facts d.coll n k
        by (Distribute c es) e =
            let same : record { coll = c; exprs = es } ≡ d = cc in
            subst (λ (x : Sending). TakesToAll facts x.coll n (Distribute c es)) same
            (let h : AllPlain es × GivesKeys facts Apart n es
            = subst (λ (x : Sending). AllPlain x.exprs × GivesKeys facts Apart n x.exprs) (sym same) k in
            sent_rows h.0 h.1)
        by k e = absurd (cc)

  module _ (foot : Node) where
    pub none_taken : ((coll : ℕ) → TakesToAll facts coll n foot → ⊥) → (m : Node) → Narrows facts n foot m → ⊥
    none_taken none m k = none k.coll k.takes

    module _ (coll : ℕ) (takes : TakesToAll facts coll n foot) where
      pub not_here : reads_here coll n ≡ false → (m : Node) → Narrows facts n foot m → ⊥
      not_here e m k = true≢false (sym (reader_seen coll n
          (subst (λ (c : ℕ). ReadsHere c n) (takes_once k.coll coll foot k.takes takes) k.reads)) ∙ e)

      pub no_shard : shards_in facts coll ≡ 0 → (m : Node) → Narrows facts n foot m → ⊥
      no_shard e m k = none (subst (λ (c : ℕ). 1 ≤ shards_in facts c)
          (takes_once k.coll coll foot k.takes takes) k.some_shard)
        where
          none : 1 ≤ shards_in facts coll → ⊥
          none h = omega (arith, h, e)

      pub none_given : IsShardOf facts coll n None → (m : Node) → Narrows facts n foot m → ⊥
      none_given none m k = none k.constants k.given

      pub narrows_to : (shard : ℕ) → reads_here coll n ≡ true → 1 ≤ shards_in facts coll
          → IsShardOf facts coll n (Some shard) → Narrows facts n foot (Scatter coll (Some shard))
      narrows_to shard reads some k = record {
        coll = coll;
        constants = k.0;
        some_shard = some;
        reads = reads_is coll n reads;
        takes = takes;
        given = k.1;
        is = ap (λ (s : ℕ). Scatter coll (Some s)) k.2;
      }

-- ---- the fragment

module _ (facts : Facts) (p : Plan) where
  pub not_none : none_of_none p ≡ false → (m : Node) → NarrowsAt facts p m → ⊥
  not_none e m k = true≢false (sym k.none ∙ e)

  bottoms_same : (x y : Bottom) → gathered_bottom p ≡ Some x → gathered_bottom p ≡ Some y → x ≡ y
  bottoms_same x y h k = let e : Some x ≡ Some y = sym h ∙ k in cc

  pub no_bottom : None ≡ gathered_bottom p → (m : Node) → NarrowsAt facts p m → ⊥
  no_bottom e m k = let f : None ≡ Some k.bottom = e ∙ k.found in cc

  pub narrows_there : (x : Bottom) (found : Option Node) → Some x ≡ gathered_bottom p → none_of_none p ≡ true
      → IsFound (Narrows facts x.lowest (top x.foot)) found → IsFound (NarrowsAt facts p) found
  narrows_there x None e none h = λ m k. h m (subst (λ (y : Bottom). Narrows facts y.lowest (top y.foot) m)
      (bottoms_same k.bottom x k.found (sym e)) k.narrows)
  narrows_there x (Some m) e none h = record { bottom = x; found = sym e; none = none; narrows = h }

  -- ---- the rule

  pub restrict_stays : (us : Uses) → ((m : Node) → NarrowsAt facts p m → ⊥) → Stays (Restricts facts) us p
  restrict_stays us none q r h =
      let f = finds facts us p q r h in
      none f.narrower (record {
        bottom = record { lowest = f.lowest; foot = Over f.input f.foot };
        found = f.found;
        none = f.none;
        narrows = f.narrows;
      })

  pub restrict_made : (us : Uses) (q : Plan) (m : Node) → 1 ≤ facts.servers → NarrowsAt facts p m
      → q ≡ with_foot m p → Restricts facts us p q None
  restrict_made us q m servers k e = subst (λ (o : Plan). Restricts facts us p o None) (sym e)
      (made_at facts us p k.bottom m servers k.found k.none k.narrows)
