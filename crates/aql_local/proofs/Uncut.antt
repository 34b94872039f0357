-- What stands below a node that hands on no row: its operators, and that it stays a plan of the same kind.
use Rattle.std.proofs.Common.{◌≡◌, ◌∙◌, ℕ, ◌+◌, List, ◌++◌, Bool, true, false, cond, refl, ap, sym}
use Rattle.std.specs.Prelude.{◌&&◌, Option, Some, None, option_map}
use Rattle.std.proofs.lemmas.List.Folds.{list_all-append}
use Rattle.std.specs.List.{list_all}
use Rattle.aql_tree.specs.declared.syntax.Ident.{Ident}
use Rattle.aql_meaning.specs.Uses.{Use, Uses}
use Rattle.aql_plan.specs.declared.facts.Facts.{Facts}
use Rattle.aql_plan.specs.Needs.{own_uses, under}
use Rattle.aql_plan.specs.Nodes.{weight, weight_in}
use Rattle.aql_plan.specs.Plan.{Reading, Plan, Singleton, Over, Node, EnumerateCollection, Calculation, Filter, Sort, Limit}
use Rattle.aql_exec.specs.Operators.{OnRows}
use Rattle.aql_engine.specs.EachFits.{EachFits}
use Rattle.aql_engine.specs.OperatorsOf.{is_covered, passed_looks, looked_at, on_top, operators_at}
use Rattle.aql_local.specs.Building.{SetsNumbers}
use Rattle.aql_local.specs.Fragments.{IsFragment, StandsApart}
use Rattle.aql_local.specs.inner.Whole.{cuts, passes_covered, uncut, below_looks}

-- ---- the operators

pub whole_operators : (facts : Facts) (at : Option ℕ) (looks : Option Uses) (p : Plan)
    → operators_at facts at (below_looks looks p) ≡ looked_at looks (operators_at facts at p)
whole_operators facts at None p = refl
whole_operators facts None (Some us) (Over b (EnumerateCollection x)) = refl
whole_operators facts (Some shard) (Some us) (Over b (EnumerateCollection x)) = refl
whole_operators facts at (Some us) (Over b (Calculation x e)) = ap (on_top (OnRows (Calculation x e)))
    (whole_operators facts at (Some (under (Calculation x e) us)) b)
whole_operators facts at (Some us) (Over b (Filter e)) = ap (on_top (OnRows (Filter e)))
    (whole_operators facts at (Some (under (Filter e) us)) b)
whole_operators facts at (Some us) (Over b (Sort directions es n)) = ap (on_top (OnRows (Sort directions es n)))
    (whole_operators facts at (Some (under (Sort directions es n) us)) b)
whole_operators facts at (Some us) (Over b (Limit offset count)) = ap (on_top (OnRows (Limit offset count)))
    (whole_operators facts at (Some (under (Limit offset count) us)) b)
whole_operators facts at (Some us) p = refl

-- ---- it is a plan of the same kind

pub whole_weight : (looks : Option Uses) (p : Plan) → weight (below_looks looks p) ≡ weight p
whole_weight None p = refl
whole_weight (Some us) Singleton = refl
whole_weight (Some us) (Over b (EnumerateCollection x)) = refl
whole_weight (Some us) (Over b n) = ap (λ k. k + (weight_in n + 1)) (whole_weight (passed_looks n us) b)

pub whole_apart : (looks : Option Uses) (p : Plan) → StandsApart p → StandsApart (below_looks looks p)
whole_apart None p h = h
whole_apart (Some us) (Over b (Calculation x e)) h = (whole_apart (Some (under (Calculation x e) us)) b h.0, h.1)
whole_apart (Some us) (Over b (Filter e)) h = (whole_apart (Some (under (Filter e) us)) b h.0, h.1)
whole_apart (Some us) (Over b (Sort directions es n)) h =
    (whole_apart (Some (under (Sort directions es n) us)) b h.0, h.1)
whole_apart (Some us) (Over b (Limit offset count)) h =
    (whole_apart (Some (under (Limit offset count) us)) b h.0, h.1)
whole_apart (Some us) p h = h

pub whole_fits : (facts : Facts) (looks : Option Uses) (p : Plan) → EachFits facts p
    → EachFits facts (below_looks looks p)
whole_fits facts None p h = h
whole_fits facts (Some us) Singleton h = h
whole_fits facts (Some us) (Over b (EnumerateCollection x)) h = h
whole_fits facts (Some us) (Over b n) h = (whole_fits facts (passed_looks n us) b h.0, h.1, h.2)

pub whole_numbers : (looks : Option Uses) (p : Plan) → SetsNumbers p → SetsNumbers (below_looks looks p)
whole_numbers None p h = h
whole_numbers (Some us) Singleton h = h
whole_numbers (Some us) (Over b (EnumerateCollection x)) h = h
whole_numbers (Some us) (Over b n) h = (whole_numbers (passed_looks n us) b h.0, h.1)

pub whole_fragment : (looks : Option Uses) (p : Plan) → IsFragment p → IsFragment (below_looks looks p)
whole_fragment None p h = h
whole_fragment (Some us) (Over b (Calculation x e)) h =
    (whole_fragment (Some (under (Calculation x e) us)) b h.0, h.1)
whole_fragment (Some us) (Over b (Filter e)) h = (whole_fragment (Some (under (Filter e) us)) b h.0, h.1)
whole_fragment (Some us) (Over b (Sort directions es n)) h =
    (whole_fragment (Some (under (Sort directions es n) us)) b h.0, h.1)
whole_fragment (Some us) (Over b (Limit offset count)) h =
    (whole_fragment (Some (under (Limit offset count) us)) b h.0, h.1)
whole_fragment (Some us) p h = h

-- ---- which documents are whole

-- a scan that keeps these attributes
abbrev keeping : Reading → Option (List (List ℕ)) → Plan → Plan
keeping x attrs b = Over b (EnumerateCollection record {
  var = x.var;
  coll = x.coll;
  filter = x.filter;
  attrs = attrs;
  shard = x.shard;
})

none_is_cut : (b : Bool) (attrs : Option (List (List ℕ))) → attrs ≡ None → attrs ≡ cond b None attrs
none_is_cut true attrs h = h
none_is_cut false attrs h = refl

none_mapped : {A B : Type 0} (f : A → B) (o : Option A) → option_map f o ≡ None → o ≡ None
none_mapped f None h = refl
none_mapped f (Some a) h = cc

some_mapped : {A B : Type 0} (f : A → B) (o : Option A) (b : B) → option_map f o ≡ Some b
    → (a : A) × (o ≡ Some a) × (f a ≡ b)
some_mapped f None b h = cc
some_mapped f (Some a) b h = (a, refl, cc)

pub uncut_stays : (looks : Option Uses) (p : Plan) → cuts p ≡ None → p ≡ below_looks looks p
uncut_stays None p h = refl
uncut_stays (Some us) Singleton h = refl
uncut_stays (Some us) (Over b (EnumerateCollection x)) h = ap (λ attrs. keeping x attrs b)
    (none_is_cut (list_all (is_covered x.var x.attrs) us) x.attrs (none_mapped _ x.attrs h))
uncut_stays (Some us) (Over b (Calculation x e)) h =
    ap (λ p. Over p (Calculation x e)) (uncut_stays (Some (under (Calculation x e) us)) b h)
uncut_stays (Some us) (Over b (Filter e)) h =
    ap (λ p. Over p (Filter e)) (uncut_stays (Some (under (Filter e) us)) b h)
uncut_stays (Some us) (Over b (Sort directions es n)) h =
    ap (λ p. Over p (Sort directions es n)) (uncut_stays (Some (under (Sort directions es n) us)) b h)
uncut_stays (Some us) (Over b (Limit offset count)) h =
    ap (λ p. Over p (Limit offset count)) (uncut_stays (Some (under (Limit offset count) us)) b h)
uncut_stays (Some us) p h = refl

-- what is asked of a cut scan, in the words of its plan
covered_there : (x : Reading) (v : Ident) (names : List (List ℕ)) (us : Uses) (b : Bool)
    → option_map {U = Ident × List (List ℕ)} (λ ns. (x.var, ns)) x.attrs ≡ Some (v, names)
    → list_all (is_covered v (Some names)) us ≡ b → list_all (is_covered x.var x.attrs) us ≡ b
covered_there x v names us b h e =
    let k = some_mapped {B = Ident × List (List ℕ)} (λ ns. (x.var, ns)) x.attrs (v, names) h in
    let same : x.var ≡ v = ap (λ (q : Ident × List (List ℕ)). q.0) k.2 in
    let kept : x.attrs ≡ Some names =
    k.1 ∙ ap (λ (q : Ident × List (List ℕ)). Some q.1) k.2 in
    ap (λ z. list_all (is_covered z x.attrs) us) same ∙ ap (λ z. list_all (is_covered v z) us) kept ∙ e

-- what a node uses is looked at below it
looked_below : (covers : Use → Bool) (own us : Uses) (rest c : Bool)
    → (list_all covers us && (list_all covers own && rest)) ≡ c → (list_all covers (own ++ us) && rest) ≡ c
looked_below covers own us rest c h =
    ap (λ b. b && rest) (list_all-append covers own us)
    ∙ in_turn (list_all covers own) (list_all covers us) rest ∙ h
  where
    in_turn : (a b d : Bool) → ((a && b) && d) ≡ (b && (a && d))
    in_turn true true d = refl
    in_turn true false d = refl
    in_turn false true d = refl
    in_turn false false d = refl

drop_true : (b c : Bool) → (b && true) ≡ c → b ≡ c
drop_true true c h = h
drop_true false c h = h

one_more : (c : Bool) (p q : Plan) (n : Node) → cond c (Over p n) (Over q n) ≡ Over (cond c p q) n
one_more true p q n = refl
one_more false p q n = refl

-- a scan stays cut where something else is looked at, and else is none that cuts
pub cut_or_whole : (v : Ident) (names : List (List ℕ)) (us : Uses) (c : Bool) (p : Plan)
    → cuts p ≡ Some (v, names)
    → (list_all (is_covered v (Some names)) us && passes_covered v names p) ≡ c
    → cond c (uncut p) p ≡ below_looks (Some us) p
cut_or_whole v names us true (Over b (EnumerateCollection x)) h e = ap (λ attrs. keeping x attrs b)
    (sym (ap (λ z. cond z None x.attrs) (covered_there x v names us true h (drop_true _ true e))))
cut_or_whole v names us false (Over b (EnumerateCollection x)) h e = ap (λ attrs. keeping x attrs b)
    (sym (ap (λ z. cond z None x.attrs) (covered_there x v names us false h (drop_true _ false e))))
cut_or_whole v names us c (Over b (Calculation x e)) h k =
    one_more c (uncut b) b (Calculation x e) ∙ ap (λ p. Over p (Calculation x e))
    (cut_or_whole v names (under (Calculation x e) us) c b h
    (looked_below (is_covered v (Some names)) (own_uses (Calculation x e)) us (passes_covered v names b) c k))
cut_or_whole v names us c (Over b (Filter e)) h k =
    one_more c (uncut b) b (Filter e) ∙ ap (λ p. Over p (Filter e))
    (cut_or_whole v names (under (Filter e) us) c b h
    (looked_below (is_covered v (Some names)) (own_uses (Filter e)) us (passes_covered v names b) c k))
cut_or_whole v names us c (Over b (Sort directions es n)) h k =
    one_more c (uncut b) b (Sort directions es n) ∙ ap (λ p. Over p (Sort directions es n))
    (cut_or_whole v names (under (Sort directions es n) us) c b h
    (looked_below (is_covered v (Some names)) (own_uses (Sort directions es n)) us (passes_covered v names b) c
    k))
cut_or_whole v names us c (Over b (Limit offset count)) h k =
    one_more c (uncut b) b (Limit offset count) ∙ ap (λ p. Over p (Limit offset count))
    (cut_or_whole v names (under (Limit offset count) us) c b h
    (looked_below (is_covered v (Some names)) (own_uses (Limit offset count)) us (passes_covered v names b) c
    k))
cut_or_whole v names us c Singleton h e = cc
cut_or_whole v names us c (Over b n) h e = cc
